use Rattle.std.proofs.Common.{refl, rules, w16}
use Rattle.std.proofs.lemmas.Int.{to_z-of_z}
use mir.Val.{SFits}
use Rattle.msd_codec.specs.Module.{location_delta}
use Rattle.msd_codec.proofs.Steps.{exit, pair_is, plain_is, required_err, required_is}
use Rattle.msd_codec.proofs.Steps.{moves_on}
use Rattle.msd_codec.proofs.reading.structure.read_delta.Goals as goal

pub returns-in_err-latitude-clause-exact : goal.returns-in_err-latitude-clause-exact
unfolding location_delta
returns-in_err-latitude-clause-exact c = exit _ _ _ _ _ c.from_residual.ensures.1 (plain_is _ _ _ refl (required_err _ _ _ _ _ c.in_err-latitude.ensures.exact))

pub returns-in_err-longitude-clause-exact : goal.returns-in_err-longitude-clause-exact
unfolding location_delta
returns-in_err-longitude-clause-exact c = exit _ _ _ _ _ c.from_residual-in_err-longitude.ensures.1 (plain_is _ _ _ refl (required_is _ _ _ _ _ _ _ c.in_ok-latitude.ensures.exact
    (required_err _ _ _ _ _ c.in_err-longitude.ensures.exact)))

pub returns-clause-exact : goal.returns-clause-exact
unfolding location_delta
returns-clause-exact c =
    let latitude : SFits w16 c.in_ok-latitude.latitude = search rules in
    let longitude : SFits w16 c.in_ok-longitude.longitude = search rules in
    pair_is _ _ _ _ _ _ _ _ c.in_ok-latitude.ensures.exact c.in_ok-longitude.ensures.exact (to_z-of_z w16 _ latitude) (to_z-of_z w16 _ longitude)

pub returns-clause-on : goal.returns-clause-on
returns-clause-on c = (moves_on _ _ _ c.in_ok-latitude.ensures.on c.in_ok-longitude.ensures.on)
