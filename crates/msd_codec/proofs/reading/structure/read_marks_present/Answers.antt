use Rattle.std.proofs.Common.{Bool, List, Ok, sym, ap, ◌∙◌}
use Rattle.per_bits.specs.Bits.{digits}
use Rattle.msd_codec.specs.Module.{storages}
use Rattle.msd_codec.proofs.Steps.{exit}
use Rattle.msd_codec.proofs.OtherMark.{six_bits}
use Rattle.msd_codec.proofs.reading.structure.read_marks_present.Goals as goal

pub returns-in_err-present-in-One-clause-exact : goal.returns-in_err-present-in-One-clause-exact
unfolding storages
returns-in_err-present-in-One-clause-exact c = exit _ _ _ _ _ c.from_residual.ensures.1 (rw c.in-One.is c.in_err-present-in-One.ensures.exact)

pub returns-in_ok-present-in-One-clause-exact : goal.returns-in_ok-present-in-One-clause-exact
unfolding storages
returns-in_ok-present-in-One-clause-exact c =
    rw c.in-One.is (c.in_ok-present-in-One.ensures.exact ∙ ap (λ (l : List Bool). Ok (l, c.read_present.new.c)) (sym (six_bits c.in_ok-present-in-One.present)))

pub returns-in-Two-clause-exact : goal.returns-in-Two-clause-exact
unfolding storages digits
returns-in-Two-clause-exact c = rw c.in-Two.is c.read_present-in-Two.ensures.exact
