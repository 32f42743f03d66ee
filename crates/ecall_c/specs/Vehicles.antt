-- A vehicle at memory of the caller's. Cited by the exports of the vehicle.
use Rattle.std.specs.Prelude.{◌≡◌, ◌<◌, ◌≤◌, ◌⊎◌, ◌==◌, if◌then◌else◌, true, false, Some}
use Rattle.ivs_machine.specs.VehicleRows.{Heard, Trigger, Cancel, Net, Answered, Failed, Incoming, Sleep, Fault, Hangup, Lost, Arrives, Reset}
use Rattle.msd_fit.specs.declared.cause.Cause.TheVariants as cause
use Rattle.ecall_c.specs.declared.vehicle.EcallVehicleEvent.{EcallVehicleEvent}
use Rattle.ivs_machine.specs.declared.vehicle.Ivs.{Ivs}
use Rattle.ecall_c.specs.declared.frame.EcallItems.{EcallItems}
use Rattle.ecall_c.specs.Items.{AreItems, IsFrame, frame_of}
use Rattle.link_frames.specs.Row.{Row}
use Rattle.ivs_machine.specs.Vehicle.{Vehicle}
use Rattle.ivs_machine.specs.IvsStands.{IvsStandsFor}
use Rattle.ecall_c.specs.declared.seat.EcallVehicle.{EcallVehicle}

-- the same place, with this vehicle in it
abbrev pub with_ivs : EcallVehicle → Ivs → EcallVehicle
with_ivs seat ivs = record seat { ivs = Some ivs }

-- the struct and the items are those of this row
pub record Steps (seat : EcallVehicle) (items : EcallItems) (row : Row Vehicle) : Type 0 where
  pub given : AreItems items row.items
  pub ivs : Ivs
  pub there : seat.ivs ≡ Some ivs
  pub stands : IvsStandsFor ivs row.new

-- a vehicle is there, and is that of this state
abbrev pub Stands : EcallVehicle → Vehicle → Type 0
Stands seat vehicle = (ivs : Ivs) × (seat.ivs ≡ Some ivs) × IvsStandsFor ivs vehicle

abbrev pub IsVehicleEvent : EcallVehicleEvent → Type 0
IsVehicleEvent e = ((e.kind ≡ 0) × IsFrame e.frame) ⊎ ((0 < e.kind) × (e.kind ≤ 14))

-- what the vehicle hears
abbrev pub heard_of : EcallVehicleEvent → Heard
heard_of e =
    if e.kind == 0 then Arrives (frame_of e.frame)
    else if e.kind == 1 then Trigger cause.Auto
    else if e.kind == 2 then Trigger cause.Manual
    else if e.kind == 3 then Trigger cause.Test
    else if e.kind == 4 then Cancel
    else if e.kind == 5 then Net true
    else if e.kind == 6 then Net false
    else if e.kind == 7 then Answered e.call
    else if e.kind == 8 then Failed
    else if e.kind == 9 then Incoming e.call
    else if e.kind == 10 then Sleep
    else if e.kind == 11 then Fault
    else if e.kind == 12 then Hangup
    else if e.kind == 13 then Lost
    else Reset
