use Rattle.std.proofs.Common.{arith}
use Rattle.msd_codec.specs.Module.{control_type}
use Rattle.msd_codec.proofs.Lengths.{counted, plain_length, required_length, rest_none, truth_length}
use Rattle.msd_codec.proofs.writing.lengths.control_len.Goals as goal

pub returns-clause-count : goal.returns-clause-count
unfolding control_type
returns-clause-count c =
    counted
    (plain_length (required_length (truth_length c.args._automatic) (required_length (truth_length c.args._test) (required_length (truth_length c.args._trusted) (required_length c.vehicle_type_len.ensures.count rest_none)))))
    (omega arith)
