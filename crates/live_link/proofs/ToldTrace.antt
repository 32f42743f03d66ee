-- An end that told its trace to a text kept the sink of that text, whatever came of the step.
use Rattle.std.specs.Prelude.{◌≡◌, ℕ, List, Option, Result, Ok, Err, OnOk, OnErr}
use Rattle.call_io.specs.Ways.{Way, Onward}
use Rattle.trace_text.specs.TextListener.{TextGrew, TextGrewPartly, sink, sink_name}
use Rattle.trace_text.specs.declared.text_out.TextOut.{TextOut}
use Rattle.live_link.specs.PointLive.{LivePoint}
use Rattle.live_link.specs.Runs.{Steps}
use Rattle.live_link.specs.VehicleLive.{LiveVehicle}
use Rattle.live_link.specs.declared.fault.EndFault.{EndFault}
use Rattle.live_link.specs.declared.point_end.PointEnd.{PointEnd}
use Rattle.live_link.specs.declared.vehicle_end.VehicleEnd.{VehicleEnd}
use Rattle.live_link.specs.inner.PointEnd.{PointActs, PointActsPartly}
use Rattle.live_link.specs.inner.PointRun as point_run
use Rattle.live_link.specs.inner.VehicleEnd.{Acts, ActsPartly}
use Rattle.live_link.specs.inner.VehicleRun as vehicle_run

pub record KeepsSink {O : Type 0} (way : O → Way) (old new : TextOut O) : Type 0 where
  pub same : sink_name new ≡ sink_name old
  pub onward : Onward (way (sink old)) (way (sink new))

pub vehicle_keeps_sink : {O : Type 0} (held : O → Option (List ℕ)) (way : O → Way) (a b : TextOut O)
    (old new : VehicleEnd) (step : LiveVehicle → Steps LiveVehicle) (answer : Result Unit EndFault)
    → vehicle_run.Stands old → OnOk answer (Acts (TextGrew held way a b) old new step)
    → OnErr answer (ActsPartly (TextGrewPartly held way a b) old step) → KeepsSink way a b
vehicle_keeps_sink held way a b old new step (Ok u) s ok err =
    let t = ok.told s.0 s.1 in record { same = t.0; onward = t.2 }
vehicle_keeps_sink held way a b old new step (Err e) s ok err =
    let t = err s.0 s.1 in record { same = t.0; onward = t.2 }

pub point_keeps_sink : {O : Type 0} (held : O → Option (List ℕ)) (way : O → Way) (a b : TextOut O)
    (old new : PointEnd) (step : LivePoint → Steps LivePoint) (answer : Result Unit EndFault)
    → point_run.Stands old → OnOk answer (PointActs (TextGrew held way a b) old new step)
    → OnErr answer (PointActsPartly (TextGrewPartly held way a b) old step) → KeepsSink way a b
point_keeps_sink held way a b old new step (Ok u) s ok err =
    let t = ok.told s.0 s.1 in record { same = t.0; onward = t.2 }
point_keeps_sink held way a b old new step (Err e) s ok err =
    let t = err s.0 s.1 in record { same = t.0; onward = t.2 }
