use Rattle.std.proofs.Common.{arith, FitsSigned, rules, w32}
use Rattle.std.proofs.lemmas.Int.{to_z-of_z}
use Rattle.msd_codec.specs.Module.{msd_structure}
use Rattle.msd_codec.specs.Trees.{pair_tree}
use Rattle.msd_codec.proofs.Puts.{pair_same}
use Rattle.msd_codec.proofs.Lengths.{counted, marked_length, required_length, optional_length, rest_more_length, length_same}
use Rattle.msd_codec.proofs.writing.lengths.structure_len.Goals as goal

pub returns-clause-count : goal.returns-clause-count
unfolding msd_structure
returns-clause-count c =
    let north : FitsSigned w32 c.args.msd.now.latitude = search rules in
    let east : FitsSigned w32 c.args.msd.now.longitude = search rules in
    counted
    (marked_length
    (required_length c.octet_len.ensures.count
    (required_length c.control_len-control.ensures.count
    (required_length c.vin_len.ensures.count
    (required_length c.storage_len-storage.ensures.count
    (required_length c.timestamp_len.ensures.count
    (required_length (length_same (pair_tree c.args.msd.now.latitude c.args.msd.now.longitude) (pair_same (to_z-of_z w32 _ north) (to_z-of_z w32 _ east)) c.location_len-location.ensures.count)
    (required_length c.octet_len-2.ensures.count
    (optional_length _ c.recent_len.ensures.count
    (optional_length _ c.recent_len-2.ensures.count
    (optional_length _ c.passengers_len.ensures.count (rest_more_length c.more_len.ensures.count))))))))))))
    (omega arith)
