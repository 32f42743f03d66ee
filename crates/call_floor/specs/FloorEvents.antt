-- The event lines of a floor's script: those of a vehicle, those that name a call, and those of all. Each is a line
-- that a vehicle has alone. This project's profile. Cited by the contracts of `FloorEvent` and of `Floor`, and by the
-- laws of this crate.
use Rattle.std.specs.Prelude.{ℕ, Option, Some, None, option_map}
use Rattle.link_frames.specs.declared.frame.End.TheVariants as «end»
use Rattle.trace_model.specs.declared.event.Event.{Event}
use Rattle.trace_model.specs.declared.event.Event.TheVariants as event
use Rattle.call_floor.specs.declared.event.CallLine.{CallLine}
use Rattle.call_floor.specs.declared.event.CallLine.TheVariants as call
use Rattle.call_floor.specs.declared.event.FloorEvent.{FloorEvent}
use Rattle.call_floor.specs.declared.event.FloorEvent.TheVariants as floor
use Rattle.call_floor.specs.declared.event.VehicleLine.{VehicleLine}
use Rattle.call_floor.specs.declared.event.VehicleLine.TheVariants as vehicle

-- a line of a vehicle, as that vehicle has it alone
abbrev pub vehicle_event : VehicleLine → Event
vehicle_event (vehicle.Trigger cause) = event.Trigger cause
vehicle_event vehicle.Cancel = event.Cancel
vehicle_event (vehicle.Net up) = event.Net up
vehicle_event vehicle.Answer = event.Answer
vehicle_event vehicle.Fail = event.Fail
vehicle_event vehicle.Callback = event.Callback
vehicle_event vehicle.Sleep = event.Sleep
vehicle_event vehicle.Fault = event.FaultVehicle
vehicle_event vehicle.Drop = event.DropVehicle
vehicle_event vehicle.Reset = event.Reset «end».Vehicle

-- a line that names this call, as a vehicle has it alone
abbrev pub call_event : ℕ → CallLine → Event
call_event c call.Fault = event.FaultPoint c
call_event c call.Damaged = event.Damaged c
call_event c call.Request = event.Request c
call_event c call.Clear = event.Clear c
call_event c call.Hangup = event.Hangup c
call_event c call.DropPoint = event.DropPoint c
call_event c call.DropBoth = event.DropBoth c
call_event c (call.Deliver up k) = event.Deliver up c k

-- the line of a vehicle that says this, if it is one of a vehicle
abbrev pub as_vehicle : Event → Option VehicleLine
as_vehicle (event.Trigger cause) = Some (vehicle.Trigger cause)
as_vehicle event.Cancel = Some vehicle.Cancel
as_vehicle (event.Net up) = Some (vehicle.Net up)
as_vehicle event.Answer = Some vehicle.Answer
as_vehicle event.Fail = Some vehicle.Fail
as_vehicle event.Callback = Some vehicle.Callback
as_vehicle event.Sleep = Some vehicle.Sleep
as_vehicle event.FaultVehicle = Some vehicle.Fault
as_vehicle event.DropVehicle = Some vehicle.Drop
as_vehicle (event.Reset «end».Vehicle) = Some vehicle.Reset
as_vehicle _ = None

-- the line that says this without a vehicle, if it is one of a call or of all
abbrev pub as_other : Event → Option FloorEvent
as_other (event.FaultPoint c) = Some (floor.Call c call.Fault)
as_other (event.Damaged c) = Some (floor.Call c call.Damaged)
as_other (event.Request c) = Some (floor.Call c call.Request)
as_other (event.Clear c) = Some (floor.Call c call.Clear)
as_other (event.Hangup c) = Some (floor.Call c call.Hangup)
as_other (event.DropPoint c) = Some (floor.Call c call.DropPoint)
as_other (event.DropBoth c) = Some (floor.Call c call.DropBoth)
as_other (event.Deliver up c k) = Some (floor.Call c (call.Deliver up k))
as_other (event.Flow up delay) = Some (floor.Flow up delay)
as_other (event.Tick n) = Some (floor.Tick n)
as_other _ = None

-- The line of a floor that says this, behind this number of a vehicle, if one stands there: a number stands before
-- exactly the lines of a vehicle, and the restart of the point is no line of a floor.
abbrev pub floor_event : Option ℕ → Event → Option FloorEvent
floor_event (Some v) e = option_map (λ line. floor.Vehicle v line) (as_vehicle e)
floor_event None e = as_other e
