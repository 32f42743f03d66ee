use Rattle.std.proofs.Common.{refl}
use Rattle.msd_codec.specs.Module.{ecall_message}
use Rattle.msd_codec.proofs.Puts.{plain, required_last, required_next, required_stop}
use Rattle.msd_codec.proofs.writing.message.write_message.Goals as goal

pub returns-in_err-write_known_format : goal.returns-in_err-write_known_format
unfolding ecall_message
returns-in_err-write_known_format c = plain refl (required_stop _ c.from_residual.ensures.1 c.in_err-write_known_format.ensures)

pub returns : goal.returns
unfolding ecall_message
returns c = plain refl (required_next c.in_ok-write_known_format.ensures (required_last c.write_body.ensures))
