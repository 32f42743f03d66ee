use Rattle.std.proofs.Common.{refl, arith}
use Rattle.std.proofs.lemmas.Int.{ints}
use Rattle.msd_codec.proofs.Casts.{cast_angle}
use Rattle.per_types.specs.Kinds.{width_of, width_from}
use Rattle.msd_codec.specs.Module.{angle}
use Rattle.msd_codec.proofs.Parts.{whole_step}
use Rattle.msd_codec.proofs.Steps.{exit, whole_tree, whole_err, whole_moves}
use Rattle.msd_codec.proofs.reading.elements.read_angle.Goals as goal

pub read_whole-requires-clause-width : goal.read_whole-requires-clause-width
unfolding width_of width_from
read_whole-requires-clause-width c = refl

pub returns-in_err-n-clause-exact : goal.returns-in_err-n-clause-exact
unfolding angle
returns-in_err-n-clause-exact c = exit _ _ _ _ _ c.from_residual.ensures.1 (whole_err _ _ _ _ c.in_err-n.ensures.exact)

pub returns-clause-exact : goal.returns-clause-exact
unfolding angle
returns-clause-exact c = whole_tree _ _ _ _ _ _ c.in_ok-n.ensures.exact (cast_angle _ c.in_ok-n.ensures.in_range)

pub returns-clause-on : goal.returns-clause-on
returns-clause-on c = whole_moves _ _ (omega (arith, ints)) _ _ _ c.in_ok-n.ensures.exact

pub returns-clause-step : goal.returns-clause-step
unfolding width_of width_from
returns-clause-step c = whole_step _ _ _ _ _ c.in_ok-n.ensures.exact
