use Rattle.std.proofs.Common.{ap, ◌∙◌, length}
use Rattle.per_bits.specs.Bits.{Part}
use Rattle.msd_codec.proofs.Lengths.{counted, more_some_length}
use Rattle.msd_codec.proofs.writing.lengths.more_len.Goals as goal

pub returns-in-Some-clause-count : goal.returns-in-Some-clause-count
returns-in-Some-clause-count c = counted (more_some_length c.args.more.now c.in-Some.additions c.in-Some.is (_, c.bits.ensures.section)) (c.len.ensures.value ∙ ap (λ (p : Part). length p.bits) c.bits.ensures.value)
