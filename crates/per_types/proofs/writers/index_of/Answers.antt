use Rattle.std.proofs.Common.{◌∙◌, arith}
use Rattle.std.proofs.lemmas.List.{get_or_default}
use Rattle.per_types.specs.Kinds.{alphabet}
use Rattle.per_types.proofs.writers.index_of.Goals as goal

pub unreachable-requires : goal.unreachable-requires
unreachable-requires c = c.loop-i.invariant c.requires.0 (omega arith) (get_or_default alphabet c.requires.0 0 c.args.value c.requires.1 ∙ c.requires.2)
