use Rattle.per_types.proofs.Canonicals.{canonical_spells, one_canonical}
use Rattle.per_types.proofs.laws.canonical_is_one.Goals as goal

pub returns-clause-spells : goal.returns-clause-spells
returns-clause-spells c = canonical_spells

pub returns-clause-one : goal.returns-clause-one
returns-clause-one c = one_canonical
