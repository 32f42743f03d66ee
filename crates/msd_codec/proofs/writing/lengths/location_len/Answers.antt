use Rattle.msd_codec.specs.Module.{vehicle_location}
use Rattle.msd_codec.proofs.Lengths.{plain_length, required_length, rest_none, angle_length}
use Rattle.msd_codec.proofs.writing.lengths.location_len.Goals as goal

pub returns-clause-count : goal.returns-clause-count
unfolding vehicle_location
returns-clause-count c = plain_length (required_length (angle_length _ c.ranges._latitude) (required_length (angle_length _ c.ranges._longitude) rest_none))
