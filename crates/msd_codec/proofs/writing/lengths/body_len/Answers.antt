use Rattle.std.proofs.Common.{arith}
use Rattle.msd_codec.specs.Module.{msd_message}
use Rattle.msd_codec.proofs.Lengths.{counted, marked_length, required_length, optional_length, rest_more_length}
use Rattle.msd_codec.proofs.writing.lengths.body_len.Goals as goal

pub returns-clause-count : goal.returns-clause-count
unfolding msd_message
returns-clause-count c =
    counted (marked_length (required_length c.structure_len.ensures.count (optional_length _ c.extra_len.ensures.count (rest_more_length c.more_len.ensures.count)))) (omega arith)
