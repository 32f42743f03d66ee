use Rattle.std.proofs.Common.{refl, ◌∙◌, rules, FitsSigned, w32}
use Rattle.std.proofs.lemmas.Int.{to_z-of_z}
use Rattle.msd_codec.specs.Module.{vehicle_location, msd_structure}
use Rattle.msd_codec.specs.Trees.{additions_of, way_tree, count_tree, pair_tree}
use Rattle.msd_codec.proofs.Puts.{mapped_some, three_bits, canon_is, pair_same, mark_stop, marked, optional_next, optional_stop, presence_stop, required_next, required_stop, rest_more}
use Rattle.msd_codec.proofs.writing.structure.write_structure.Goals as goal

pub returns-in_err-write_extended : goal.returns-in_err-write_extended
unfolding msd_structure
returns-in_err-write_extended c = mark_stop _ _ _ _ c.from_residual.ensures.1 c.in_err-write_extended.ensures

pub returns-in_err-write_present : goal.returns-in_err-write_present
unfolding msd_structure
returns-in_err-write_present c = presence_stop _ _ _ _ refl refl c.from_residual-in_err-write_present.ensures.1 c.in_ok-write_extended.ensures c.in_err-write_present.ensures

pub returns-in_err-write_octet : goal.returns-in_err-write_octet
unfolding msd_structure
returns-in_err-write_octet c = marked refl (c.is_some.ensures ∙ mapped_some additions_of _) (three_bits (c.is_some-before1.ensures ∙ mapped_some way_tree _) (c.is_some-before2.ensures ∙ mapped_some way_tree _) (c.is_some-passengers.ensures ∙ mapped_some count_tree _)) c.in_ok-write_extended.ensures c.in_ok-write_present.ensures (required_stop _ c.from_residual-in_err-write_octet.ensures.1 c.in_err-write_octet.ensures)

pub returns-in_err-write_control : goal.returns-in_err-write_control
unfolding msd_structure
returns-in_err-write_control c = marked refl (c.is_some.ensures ∙ mapped_some additions_of _) (three_bits (c.is_some-before1.ensures ∙ mapped_some way_tree _) (c.is_some-before2.ensures ∙ mapped_some way_tree _) (c.is_some-passengers.ensures ∙ mapped_some count_tree _)) c.in_ok-write_extended.ensures c.in_ok-write_present.ensures (required_next c.in_ok-write_octet.ensures (required_stop _ c.from_residual-in_err-write_control.ensures.1 c.in_err-write_control.ensures))

pub returns-in_err-write_vin : goal.returns-in_err-write_vin
unfolding msd_structure
returns-in_err-write_vin c = marked refl (c.is_some.ensures ∙ mapped_some additions_of _) (three_bits (c.is_some-before1.ensures ∙ mapped_some way_tree _) (c.is_some-before2.ensures ∙ mapped_some way_tree _) (c.is_some-passengers.ensures ∙ mapped_some count_tree _)) c.in_ok-write_extended.ensures c.in_ok-write_present.ensures (required_next c.in_ok-write_octet.ensures (required_next c.in_ok-write_control.ensures (required_stop _ c.from_residual-in_err-write_vin.ensures.1 c.in_err-write_vin.ensures)))

pub returns-in_err-write_storage : goal.returns-in_err-write_storage
unfolding msd_structure
returns-in_err-write_storage c = marked refl (c.is_some.ensures ∙ mapped_some additions_of _) (three_bits (c.is_some-before1.ensures ∙ mapped_some way_tree _) (c.is_some-before2.ensures ∙ mapped_some way_tree _) (c.is_some-passengers.ensures ∙ mapped_some count_tree _)) c.in_ok-write_extended.ensures c.in_ok-write_present.ensures (required_next c.in_ok-write_octet.ensures (required_next c.in_ok-write_control.ensures (required_next c.in_ok-write_vin.ensures (required_stop _ c.from_residual-in_err-write_storage.ensures.1 c.in_err-write_storage.ensures))))

pub returns-in_err-write_timestamp : goal.returns-in_err-write_timestamp
unfolding msd_structure
returns-in_err-write_timestamp c = marked refl (c.is_some.ensures ∙ mapped_some additions_of _) (three_bits (c.is_some-before1.ensures ∙ mapped_some way_tree _) (c.is_some-before2.ensures ∙ mapped_some way_tree _) (c.is_some-passengers.ensures ∙ mapped_some count_tree _)) c.in_ok-write_extended.ensures c.in_ok-write_present.ensures (required_next c.in_ok-write_octet.ensures (required_next c.in_ok-write_control.ensures (required_next c.in_ok-write_vin.ensures (required_next c.in_ok-write_storage.ensures (required_stop _ c.from_residual-in_err-write_timestamp.ensures.1 c.in_err-write_timestamp.ensures)))))

pub returns-in_err-write_angles : goal.returns-in_err-write_angles
unfolding msd_structure
returns-in_err-write_angles c =
    let north : FitsSigned w32 c.args.msd.now.latitude = search rules in
    let east : FitsSigned w32 c.args.msd.now.longitude = search rules in
    marked refl (c.is_some.ensures ∙ mapped_some additions_of _) (three_bits (c.is_some-before1.ensures ∙ mapped_some way_tree _) (c.is_some-before2.ensures ∙ mapped_some way_tree _) (c.is_some-passengers.ensures ∙ mapped_some count_tree _)) c.in_ok-write_extended.ensures c.in_ok-write_present.ensures (required_next c.in_ok-write_octet.ensures (required_next c.in_ok-write_control.ensures (required_next c.in_ok-write_vin.ensures (required_next c.in_ok-write_storage.ensures (required_next c.in_ok-write_timestamp.ensures (required_stop _ c.from_residual-in_err-write_angles.ensures.1 (canon_is vehicle_location (pair_tree c.args.msd.now.latitude c.args.msd.now.longitude) refl (pair_same (to_z-of_z w32 _ north) (to_z-of_z w32 _ east)) c.in_err-write_angles.ensures)))))))

pub returns-in_err-write_octet-2 : goal.returns-in_err-write_octet-2
unfolding msd_structure
returns-in_err-write_octet-2 c =
    let north : FitsSigned w32 c.args.msd.now.latitude = search rules in
    let east : FitsSigned w32 c.args.msd.now.longitude = search rules in
    marked refl (c.is_some.ensures ∙ mapped_some additions_of _) (three_bits (c.is_some-before1.ensures ∙ mapped_some way_tree _) (c.is_some-before2.ensures ∙ mapped_some way_tree _) (c.is_some-passengers.ensures ∙ mapped_some count_tree _)) c.in_ok-write_extended.ensures c.in_ok-write_present.ensures (required_next c.in_ok-write_octet.ensures (required_next c.in_ok-write_control.ensures (required_next c.in_ok-write_vin.ensures (required_next c.in_ok-write_storage.ensures (required_next c.in_ok-write_timestamp.ensures (required_next (canon_is vehicle_location (pair_tree c.args.msd.now.latitude c.args.msd.now.longitude) refl (pair_same (to_z-of_z w32 _ north) (to_z-of_z w32 _ east)) c.in_ok-write_angles.ensures) (required_stop _ c.from_residual-in_err-write_octet-2.ensures.1 c.in_err-write_octet-2.ensures)))))))

pub returns-in_err-write_recent : goal.returns-in_err-write_recent
unfolding msd_structure
returns-in_err-write_recent c =
    let north : FitsSigned w32 c.args.msd.now.latitude = search rules in
    let east : FitsSigned w32 c.args.msd.now.longitude = search rules in
    marked refl (c.is_some.ensures ∙ mapped_some additions_of _) (three_bits (c.is_some-before1.ensures ∙ mapped_some way_tree _) (c.is_some-before2.ensures ∙ mapped_some way_tree _) (c.is_some-passengers.ensures ∙ mapped_some count_tree _)) c.in_ok-write_extended.ensures c.in_ok-write_present.ensures (required_next c.in_ok-write_octet.ensures (required_next c.in_ok-write_control.ensures (required_next c.in_ok-write_vin.ensures (required_next c.in_ok-write_storage.ensures (required_next c.in_ok-write_timestamp.ensures (required_next (canon_is vehicle_location (pair_tree c.args.msd.now.latitude c.args.msd.now.longitude) refl (pair_same (to_z-of_z w32 _ north) (to_z-of_z w32 _ east)) c.in_ok-write_angles.ensures) (required_next c.in_ok-write_octet-2.ensures (optional_stop _ _ _ c.from_residual-in_err-write_recent.ensures.1 c.in_err-write_recent.ensures))))))))

pub returns-in_err-write_recent-2 : goal.returns-in_err-write_recent-2
unfolding msd_structure
returns-in_err-write_recent-2 c =
    let north : FitsSigned w32 c.args.msd.now.latitude = search rules in
    let east : FitsSigned w32 c.args.msd.now.longitude = search rules in
    marked refl (c.is_some.ensures ∙ mapped_some additions_of _) (three_bits (c.is_some-before1.ensures ∙ mapped_some way_tree _) (c.is_some-before2.ensures ∙ mapped_some way_tree _) (c.is_some-passengers.ensures ∙ mapped_some count_tree _)) c.in_ok-write_extended.ensures c.in_ok-write_present.ensures (required_next c.in_ok-write_octet.ensures (required_next c.in_ok-write_control.ensures (required_next c.in_ok-write_vin.ensures (required_next c.in_ok-write_storage.ensures (required_next c.in_ok-write_timestamp.ensures (required_next (canon_is vehicle_location (pair_tree c.args.msd.now.latitude c.args.msd.now.longitude) refl (pair_same (to_z-of_z w32 _ north) (to_z-of_z w32 _ east)) c.in_ok-write_angles.ensures) (required_next c.in_ok-write_octet-2.ensures (optional_next _ c.in_ok-write_recent.ensures (optional_stop _ _ _ c.from_residual-in_err-write_recent-2.ensures.1 c.in_err-write_recent-2.ensures)))))))))

pub returns-in_err-write_passengers : goal.returns-in_err-write_passengers
unfolding msd_structure
returns-in_err-write_passengers c =
    let north : FitsSigned w32 c.args.msd.now.latitude = search rules in
    let east : FitsSigned w32 c.args.msd.now.longitude = search rules in
    marked refl (c.is_some.ensures ∙ mapped_some additions_of _) (three_bits (c.is_some-before1.ensures ∙ mapped_some way_tree _) (c.is_some-before2.ensures ∙ mapped_some way_tree _) (c.is_some-passengers.ensures ∙ mapped_some count_tree _)) c.in_ok-write_extended.ensures c.in_ok-write_present.ensures (required_next c.in_ok-write_octet.ensures (required_next c.in_ok-write_control.ensures (required_next c.in_ok-write_vin.ensures (required_next c.in_ok-write_storage.ensures (required_next c.in_ok-write_timestamp.ensures (required_next (canon_is vehicle_location (pair_tree c.args.msd.now.latitude c.args.msd.now.longitude) refl (pair_same (to_z-of_z w32 _ north) (to_z-of_z w32 _ east)) c.in_ok-write_angles.ensures) (required_next c.in_ok-write_octet-2.ensures (optional_next _ c.in_ok-write_recent.ensures (optional_next _ c.in_ok-write_recent-2.ensures (optional_stop _ _ _ c.from_residual-in_err-write_passengers.ensures.1 c.in_err-write_passengers.ensures))))))))))

pub returns : goal.returns
unfolding msd_structure
returns c =
    let north : FitsSigned w32 c.args.msd.now.latitude = search rules in
    let east : FitsSigned w32 c.args.msd.now.longitude = search rules in
    marked refl (c.is_some.ensures ∙ mapped_some additions_of _) (three_bits (c.is_some-before1.ensures ∙ mapped_some way_tree _) (c.is_some-before2.ensures ∙ mapped_some way_tree _) (c.is_some-passengers.ensures ∙ mapped_some count_tree _)) c.in_ok-write_extended.ensures c.in_ok-write_present.ensures (required_next c.in_ok-write_octet.ensures (required_next c.in_ok-write_control.ensures (required_next c.in_ok-write_vin.ensures (required_next c.in_ok-write_storage.ensures (required_next c.in_ok-write_timestamp.ensures (required_next (canon_is vehicle_location (pair_tree c.args.msd.now.latitude c.args.msd.now.longitude) refl (pair_same (to_z-of_z w32 _ north) (to_z-of_z w32 _ east)) c.in_ok-write_angles.ensures) (required_next c.in_ok-write_octet-2.ensures (optional_next _ c.in_ok-write_recent.ensures (optional_next _ c.in_ok-write_recent-2.ensures (optional_next _ c.in_ok-write_passengers.ensures (rest_more c.write_more.ensures)))))))))))
