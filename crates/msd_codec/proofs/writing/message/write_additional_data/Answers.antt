use Rattle.std.proofs.Common.{refl}
use Rattle.msd_codec.specs.Module.{additional_data}
use Rattle.msd_codec.proofs.Puts.{plain, required_last, required_next, required_stop}
use Rattle.msd_codec.proofs.writing.message.write_additional_data.Goals as goal

pub returns-in_err-write_identifier : goal.returns-in_err-write_identifier
unfolding additional_data
returns-in_err-write_identifier c = plain refl (required_stop _ c.from_residual.ensures.1 c.in_err-write_identifier.ensures)

pub returns : goal.returns
unfolding additional_data
returns c = plain refl (required_next c.in_ok-write_identifier.ensures (required_last c.write_content.ensures))
