use Rattle.std.proofs.Common.{ap, ℕ}
use Rattle.std.specs.Option.{option_map}
use Rattle.std.specs.Prelude.{Option}
use Rattle.msd_codec.specs.Module.{octet}
use Rattle.msd_codec.specs.Trees.{count_tree}
use Rattle.msd_codec.proofs.Lengths.{optional_some}
use Rattle.msd_codec.proofs.writing.lengths.passengers_len.Goals as goal

pub returns-in-Some-clause-count : goal.returns-in-Some-clause-count
returns-in-Some-clause-count c = optional_some octet _ (count_tree c.in-Some.count) _ (ap (λ (o : Option ℕ). option_map count_tree o) c.in-Some.is) c.octet_len.ensures.count
