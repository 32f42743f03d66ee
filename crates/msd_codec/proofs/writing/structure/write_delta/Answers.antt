use Rattle.std.proofs.Common.{refl, ap, ◌∙◌, w16}
use Rattle.std.proofs.lemmas.Int.{to_z-of_z}
use Rattle.per_types.specs.Types.{number}
use Rattle.msd_codec.specs.Module.{angle_delta, location_delta}
use Rattle.msd_codec.proofs.Puts.{plain, required_last, required_next, required_stop, canon_is}
use Rattle.msd_codec.proofs.writing.structure.write_delta.Goals as goal

pub returns-in_err-write_angle_delta : goal.returns-in_err-write_angle_delta
unfolding location_delta
returns-in_err-write_angle_delta c =
    plain refl (required_stop _ c.from_residual.ensures.1 (canon_is angle_delta (number c.args.way.latitude) refl (ap number (to_z-of_z w16 _ (record { sfits = c.latitude.type_inv }) ∙ c.latitude.ensures.value)) c.in_err-write_angle_delta.ensures))

pub returns : goal.returns
unfolding location_delta
returns c =
    plain refl
    (required_next (canon_is angle_delta (number c.args.way.latitude) refl (ap number (to_z-of_z w16 _ (record { sfits = c.latitude.type_inv }) ∙ c.latitude.ensures.value)) c.in_ok-write_angle_delta.ensures)
    (required_last (canon_is angle_delta (number c.args.way.longitude) refl (ap number (to_z-of_z w16 _ (record { sfits = c.longitude.type_inv }) ∙ c.longitude.ensures.value)) c.write_angle_delta-2.ensures)))
