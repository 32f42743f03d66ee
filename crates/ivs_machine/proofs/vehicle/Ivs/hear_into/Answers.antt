use Rattle.link_frames.specs.Frame.{lent}
use Rattle.ivs_machine.specs.VehicleRows.{Trigger, Arrives}
use Rattle.ivs_machine.proofs.Hears.{row_stands}
use Rattle.ivs_machine.proofs.vehicle.Ivs.hear_into.Goals as goal

pub returns-in-Trigger : goal.returns-in-Trigger
returns-in-Trigger c = rw c.in-Trigger.is (row_stands (Trigger c.in-Trigger.cause) _ _ _ c.trigger.ensures)

pub returns-in-Frame : goal.returns-in-Frame
returns-in-Frame c = rw c.in-Frame.is (row_stands (Arrives (lent c.in-Frame.frame)) _ _ _ c.frame.ensures)
