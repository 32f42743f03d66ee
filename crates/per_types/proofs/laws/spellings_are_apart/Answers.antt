use Rattle.per_types.proofs.Decided.{no_prefix, one_value}
use Rattle.per_types.proofs.laws.spellings_are_apart.Goals as goal

pub returns-clause-no_prefix : goal.returns-clause-no_prefix
returns-clause-no_prefix c = no_prefix

pub returns-clause-one_value : goal.returns-clause-one_value
returns-clause-one_value c = one_value
