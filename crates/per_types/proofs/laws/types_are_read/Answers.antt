use Rattle.per_types.proofs.Decided.{only_type}
use Rattle.per_types.proofs.laws.types_are_read.Goals as goal

pub returns : goal.returns
returns c = only_type
