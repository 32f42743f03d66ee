-- Where the run of an end may go on behind what it read, and behind a step.
use Rattle.std.specs.Prelude.{List}
use Rattle.link_frames.specs.declared.frame.End.TheVariants as «end»
use Rattle.trace_model.specs.declared.entry.Entry.{Entry}
use Rattle.live_link.specs.PointLive.{LivePoint}
use Rattle.live_link.specs.Runs.{Steps}
use Rattle.live_link.specs.VehicleLive.{LiveVehicle}
use Rattle.live_link.specs.declared.point_end.PointEnd.{PointEnd}
use Rattle.live_link.specs.declared.point_run.PointSide.{PointSide}
use Rattle.live_link.specs.declared.receiver.Came.{Came}
use Rattle.live_link.specs.declared.receiver.Came.TheVariants as came
use Rattle.live_link.specs.declared.vehicle_end.VehicleEnd.{VehicleEnd}
use Rattle.live_link.specs.inner.Going.{MayReceive}
use Rattle.live_link.specs.inner.PointEnd.{PointActs}
use Rattle.live_link.specs.inner.PointRun as point_run
use Rattle.live_link.specs.inner.VehicleEnd.{Acts}
use Rattle.live_link.specs.inner.VehicleRun as vehicle_run

pub point_goes_on : (what : Came) (side : PointSide) → point_run.Stands side.end
    → MayReceive what «end».Point side.receiver → point_run.MayGoOn what side
point_goes_on came.Message side s h = record { stands = s; going = h }
point_goes_on came.ScriptEnd side s h = tt

-- an end that did a step stands for what the step leaves
pub vehicle_stands : (grew : List Entry → Type 0) (old new : VehicleEnd) (step : LiveVehicle → Steps LiveVehicle)
    → Acts grew old new step → vehicle_run.Stands old → vehicle_run.Stands new
vehicle_stands grew old new step h s = ((step s.0).new, h.stands s.0 s.1)

pub point_stands : (grew : List Entry → Type 0) (old new : PointEnd) (step : LivePoint → Steps LivePoint)
    → PointActs grew old new step → point_run.Stands old → point_run.Stands new
point_stands grew old new step h s = ((step s.0).new, h.stands s.0 s.1)
