use Rattle.std.proofs.Common.{refl}
use Rattle.msd_codec.specs.Module.{control_type}
use Rattle.msd_codec.proofs.Joined.{three_next, three_stop}
use Rattle.msd_codec.proofs.Puts.{plain, required_last}
use Rattle.msd_codec.proofs.writing.structure.write_control.Goals as goal

pub returns-in_err-write_truths : goal.returns-in_err-write_truths
unfolding control_type
returns-in_err-write_truths c = plain refl (three_stop _ c.args.automatic c.args.test c.args.trusted c.from_residual.ensures.1 c.in_err-write_truths.ensures.full)

pub returns : goal.returns
unfolding control_type
returns c = plain refl (three_next c.args.automatic c.args.test c.args.trusted c.in_ok-write_truths.ensures.ok (required_last c.write_vehicle_type.ensures))
