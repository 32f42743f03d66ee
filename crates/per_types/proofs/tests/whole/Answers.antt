use Rattle.std.proofs.Common.{refl}
use Rattle.per_types.specs.Kinds.{width_of, width_from}
use Rattle.per_types.proofs.tests.whole.Goals as goal

pub read_whole-requires-clause-width : goal.read_whole-requires-clause-width
unfolding width_of width_from
read_whole-requires-clause-width c = refl

pub read_whole-requires-in-Way-clause-width : goal.read_whole-requires-in-Way-clause-width
unfolding width_of width_from
read_whole-requires-in-Way-clause-width c = refl

pub read_whole-requires-in-Five-clause-width : goal.read_whole-requires-in-Five-clause-width
unfolding width_of width_from
read_whole-requires-in-Five-clause-width c = refl

pub read_whole-requires-in-All-clause-width : goal.read_whole-requires-in-All-clause-width
unfolding width_of width_from
read_whole-requires-in-All-clause-width c = refl
