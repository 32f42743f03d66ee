use Rattle.per_types.proofs.Widths.{width_is}
use Rattle.per_types.proofs.laws.widths_are_least.Goals as goal

pub returns : goal.returns
returns c = width_is
