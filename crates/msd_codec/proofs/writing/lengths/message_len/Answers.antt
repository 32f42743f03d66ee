use Rattle.std.proofs.Common.{arith}
use Rattle.msd_codec.specs.Module.{ecall_message}
use Rattle.msd_codec.proofs.Lengths.{counted, plain_length, required_length, rest_none, format_length}
use Rattle.msd_codec.proofs.writing.lengths.message_len.Goals as goal

pub returns-clause-count : goal.returns-clause-count
unfolding ecall_message
returns-clause-count c = counted (plain_length (required_length (format_length _) (required_length c.body_len.ensures.count rest_none))) (omega arith)
