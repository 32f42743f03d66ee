-- The run of the vehicle's end of a live link, over the table of the vehicle. A round: the message gathered is written
-- and one is read; a tick passes; the parts that were read are heard, in order; then the script's lines up to the next
-- round. This project's profile. Cited by the law of joint traces.
use Rattle.std.specs.Prelude.{ℕ, ◌+◌, Bool, true, false, List, [], ◌∷◌, ◌++◌, Option, Some, None, nat_lt, ◌&&◌}
use Rattle.link_frames.specs.Row.{Row}
use Rattle.link_frames.specs.declared.frame.End.TheVariants as «end»
use Rattle.msd_fit.specs.declared.facts.Facts.{Facts}
use Rattle.ivs_machine.specs.Vehicle.{Vehicle, first_vehicle, vehicle_call, is_dialling, is_reachable}
use Rattle.ivs_machine.specs.VehicleRows.{Heard, Trigger, Cancel, Net, Answered, Failed, Incoming, Sleep, Fault, Hangup, Lost, Arrives, Reset, vehicle_row, unit_row}
use Rattle.trace_model.specs.declared.event.Event.{Event}
use Rattle.trace_model.specs.declared.event.Event.TheVariants as event
use Rattle.line_input.specs.declared.reason.BadLine.{BadLine}
use Rattle.trace_fit.specs.Seats.{is_number}
use Rattle.link_parts.specs.declared.part.Part.{Part}
use Rattle.link_parts.specs.declared.part.Part.TheVariants.{Answers, Leaves, Rings, Takes, Carries}
use Rattle.link_parts.specs.Messages.{message_octets, script_end, parts_of}
use Rattle.link_parts.specs.Rounds.{Stop}
use Rattle.live_link.specs.Runs.{Beat, Line, Round, Run, LinkStopped, run_behind, Steps, quiet, and_then, each, at_script_end}
use Rattle.live_link.specs.Turns.{Carried}

pub record LiveVehicle : Type 0 where
  pub vehicle : Vehicle
  -- the greatest call number that it took, 0 where it took none
  pub taken : ℕ
  pub tick : ℕ
  -- what it has to send
  pub gathered : List Part

abbrev pub first_live : Facts → LiveVehicle
first_live known = record { vehicle = first_vehicle known; taken = 0; tick = 0; gathered = [] }

-- It does this row, at a frame that came, if one did, or because the other end had left the call.
abbrev pub does : LiveVehicle → (came : Option Carried) → (followed : Bool) → Row Vehicle → Steps LiveVehicle
does s came followed row =
    record {
      turns = record { tick = s.tick; came = came; items = row.items } ∷ [];
      new = record s { vehicle = row.new; gathered = s.gathered ++ parts_of followed row.items };
    }

abbrev pub hears : LiveVehicle → Heard → Steps LiveVehicle
hears s e = does s None false (vehicle_row s.vehicle e)

-- it takes a call of this number
abbrev pub takes : ℕ → LiveVehicle → LiveVehicle
takes c s = record s { taken = c }

abbrev pub gathers : Part → LiveVehicle → LiveVehicle
gathers part s = record s { gathered = s.gathered ++ part ∷ [] }

abbrev pub is_in : ℕ → LiveVehicle → Bool
is_in c s = is_number c (vehicle_call s.vehicle)

abbrev pub hears_if : Bool → LiveVehicle → Steps LiveVehicle → Steps LiveVehicle
hears_if true s steps = steps
hears_if false s steps = quiet s

-- A part of a message; one that doesn't apply is passed over.
abbrev pub hears_part : LiveVehicle → Part → Steps LiveVehicle
hears_part s (Answers c) =
    hears_if (is_dialling s.vehicle && nat_lt s.taken c) s (hears (takes c s) (Answered c))
hears_part s (Rings c) =
    hears_if (is_reachable s.vehicle && nat_lt s.taken c) s
    (and_then (hears (takes c s) (Incoming c)) (λ u. quiet (gathers (Takes c) u)))
hears_part s (Leaves c) = hears_if (is_in c s) s (does s None true (vehicle_row s.vehicle Hangup))
hears_part s (Carries c f) =
    hears_if (is_in c s) s
    (does s (Some (record { call = c; frame = f })) false (vehicle_row s.vehicle (Arrives f)))
hears_part s _ = quiet s

-- a line of the script; a line that isn't the vehicle's is refused before
abbrev pub hears_line : LiveVehicle → Event → Steps LiveVehicle
hears_line s (event.Trigger cause) = hears s (Trigger cause)
hears_line s event.Cancel = hears s Cancel
hears_line s (event.Net up) = hears s (Net up)
hears_line s event.Fail = hears s Failed
hears_line s event.Sleep = hears s Sleep
hears_line s event.FaultVehicle = hears s Fault
hears_line s event.DropVehicle = hears s Lost
hears_line s (event.Reset «end».Vehicle) = hears s Reset
hears_line s _ = quiet s

-- what was gathered is on its way, and a tick passes
abbrev pub passes : LiveVehicle → Steps LiveVehicle
passes s = does (record s { tick = s.tick + 1; gathered = [] }) None false (unit_row s.vehicle)

-- a round whose message has these parts
abbrev pub round : LiveVehicle → List Part → Steps LiveVehicle
round s parts = and_then (passes s) (λ u. each hears_part u parts)

-- The run from a state on, with the messages that are still to come and where they stop, over what is left of a script
-- and the line at which it is refused.
abbrev pub run_from : LiveVehicle → List (List Part) → Stop → Option BadLine → List Beat → Run
run_from s messages stop refused [] = at_script_end s.tick (script_end ∷ []) refused
run_from s messages stop refused (Line e ∷ beats) =
    let x : Steps LiveVehicle = hears_line s e in
    run_behind x.turns [] (run_from x.new messages stop refused beats)
run_from s [] stop refused (Round first ∷ beats) =
    record { turns = []; octets = message_octets s.gathered; rounds = s.tick; ending = LinkStopped stop }
run_from s (parts ∷ messages) stop refused (Round first ∷ beats) =
    let x : Steps LiveVehicle = round s parts in
    run_behind x.turns (message_octets s.gathered) (run_from x.new messages stop refused beats)
