-- Where the run of the vehicle's end may go on, and what a line in front of the first event comes to. Cited by private
-- contracts alone.
use Rattle.std.specs.Prelude.{◌≡◌, ℕ, ◌≤◌, false, List, [], ◌∷◌, Option, Some, None, Result, Ok}
use Rattle.call_io.specs.Bytes.{Grew, GrewPartly}
use Rattle.line_input.specs.Lines.{most_bytes}
use Rattle.line_input.specs.Reading.{Reading as Lines}
use Rattle.link_parts.specs.Messages.{script_end}
use Rattle.link_parts.specs.PartReading.{IsGoing}
use Rattle.live_link.specs.VehicleLive.{LiveVehicle}
use Rattle.live_link.specs.declared.answer.LiveStatus.{LiveStatus}
use Rattle.live_link.specs.declared.answer.LiveStatus.TheVariants as status
use Rattle.live_link.specs.declared.vehicle_end.VehicleEnd.{VehicleEnd}
use Rattle.live_link.specs.declared.vehicle_front.Front.{Front}
use Rattle.live_link.specs.declared.vehicle_front.Front.TheVariants as front
use Rattle.live_link.specs.declared.vehicle_run.VehicleSide.{VehicleSide}
use Rattle.live_link.specs.inner.Going.{HasRead}
use Rattle.live_link.specs.inner.VehicleEnd.{EndStandsFor}

-- the vehicle's end stands for one of the definition
abbrev pub Stands : VehicleEnd → Type 0
Stands e = (s : LiveVehicle) × EndStandsFor e s

-- a round may follow
pub record IsReady (side : VehicleSide) : Type 0 where
  pub stands : Stands side.end
  pub going : IsGoing side.receiver.reader.reader

-- a line was read
abbrev pub IsInFront : Option Front → Type 0
IsInFront (Some front.End) = ⊥
IsInFront _ = Unit {0}

-- what reading one more line in front of the first event comes to
abbrev pub FindsFirst : (old new : Lines) → Result (Option Front) LiveStatus → Type 0
FindsFirst old new (Ok None) = HasRead old new
FindsFirst old new (Ok (Some (front.First facts event))) = HasRead old new
FindsFirst old new _ = Unit {0}

-- behind the first event, a further line may be read
abbrev pub MayRun : Front → Lines → Type 0
MayRun (front.First facts event) lines = (lines.failed ≡ false) × (lines.lines ≤ most_bytes)
MayRun front.End lines = Unit {0}

-- the octet that says so was written, or a write failed
abbrev pub EndsScript : (held held' : Option (List ℕ)) → LiveStatus → Type 0
EndsScript held held' status.Done = Grew held held' (script_end ∷ [])
EndsScript held held' status.WriteFault = GrewPartly held held' (script_end ∷ [])
EndsScript held held' _ = ⊥
