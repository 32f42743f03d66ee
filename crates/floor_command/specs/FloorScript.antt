-- The script of a floor: its vehicles with their facts, and its events, up to the first line that is refused. This
-- project's profile. Cited by the reply of `ecall floor`.
use Rattle.std.specs.Prelude.{ℕ, ◌+◌, Bool, true, false, List, [], ◌∷◌, Option, Some, None, Result, Ok, Err, if◌then◌else◌}
use Rattle.line_input.specs.Lines.{lines_of, line_fault, is_comment}
use Rattle.line_input.specs.declared.reason.BadLine.{BadLine}
use Rattle.line_input.specs.declared.reason.Reason.{Reason}
use Rattle.line_input.specs.declared.reason.Reason.TheVariants as reason
use Rattle.trace_text.specs.Facts.{facts_in, is_one_too_many}
use Rattle.trace_text.specs.declared.fact_line.FactLine.{FactLine}
use Rattle.trace_text.specs.declared.script.ScriptLine.{ScriptLine}
use Rattle.trace_text.specs.declared.script.ScriptLine.TheVariants as says
use Rattle.floor_text.specs.VehicleFacts.{VehicleFacts, has_facts, lines_for, with_fact}
use Rattle.floor_text.specs.VehicleLines.{floor_line}
use Rattle.floor_text.specs.declared.line.NumberedLine.{NumberedLine}
use Rattle.call_floor.specs.Floor.{Stand, first_stand, joined}
use Rattle.call_floor.specs.FloorEvents.{floor_event}
use Rattle.call_floor.specs.declared.event.FloorEvent.{FloorEvent}
use Rattle.call_floor.specs.declared.event.FloorEvent.TheVariants as floor
use Rattle.floor_command.specs.declared.says.FloorLine.{FloorLine}
use Rattle.floor_command.specs.declared.says.FloorLine.TheVariants as line

-- ---- what a line says

abbrev pub event_says : Option FloorEvent → Result FloorLine Reason
event_says (Some e) = Ok (line.Event e)
event_says None = Err reason.Word

abbrev pub fact_says : Option ℕ → FactLine → Result FloorLine Reason
fact_says (Some v) f = Ok (line.Fact v f)
fact_says None f = Err reason.Word

-- A fact stands behind a vehicle's number. So does an event of a vehicle, and another stands alone; the point doesn't
-- restart.
abbrev pub numbered_says : Option ℕ → ScriptLine → Result FloorLine Reason
numbered_says v (says.Fact f) = fact_says v f
numbered_says v (says.Event e) = event_says (floor_event v e)

abbrev pub line_says : Result NumberedLine Reason → Result FloorLine Reason
line_says (Ok l) = numbered_says l.vehicle l.says
line_says (Err why) = Err why

-- what a line says by itself, or why it is refused
abbrev pub floor_says : List ℕ → Result FloorLine Reason
floor_says text = line_says (floor_line text)

-- ---- where it stands

-- what the lines so far said: the fact lines by vehicle, and whether an event line came
pub record FloorSaid : Type 0 where
  pub known : List VehicleFacts
  pub eventful : Bool

abbrev pub nothing_said : FloorSaid
nothing_said = record { known = []; eventful = false }

-- these vehicles, and then those that have fact lines, before anything happened; none where one of them lacks facts
abbrev pub stands_with : List Stand → List VehicleFacts → Option (List Stand)
stands_with stands [] = Some stands
stands_with stands (k ∷ ks) = elim (facts_in k.lines) [
  | None ↦ None
  | Some facts ↦ stands_with (joined (first_stand k.number facts) stands) ks
]

-- the vehicles on the floor before anything happened: each that has a fact line, by number; none where one of them has
-- neither a ready set nor its number, its category and its time
abbrev pub stands_in : List VehicleFacts → Option (List Stand)
stands_in known = stands_with [] known

-- an event of a vehicle is one of a vehicle that has a fact line
abbrev pub is_there : List VehicleFacts → FloorEvent → Bool
is_there known (floor.Vehicle v what) = has_facts v known
is_there known _ = true

-- a fact line where no event line came: whether it is one candidate too many of its vehicle
abbrev pub placed_fact : List VehicleFacts → ℕ → FactLine → Result (Option FloorLine) Reason
placed_fact known v f = if is_one_too_many (lines_for v known) f then Err reason.Many else Ok (Some (line.Fact v f))

-- an event line behind these facts
abbrev pub placed_event : List VehicleFacts → FloorEvent → Option (List Stand) → Result (Option FloorLine) Reason
placed_event known e None = Err reason.Missing
placed_event known e (Some stands) = if is_there known e then Ok (Some (line.Event e)) else Err reason.Missing

-- Whether a line may stand where it stands: a fact line in front of the first event line, and no fifth candidate of
-- additional data of its vehicle; an event line where each vehicle with a fact line has the facts that it needs, and
-- one of a vehicle where that has a fact line.
abbrev pub placed : FloorSaid → FloorLine → Result (Option FloorLine) Reason
placed said (line.Fact v f) = if said.eventful then Err reason.Late else placed_fact said.known v f
placed said (line.Event e) = placed_event said.known e (stands_in said.known)

abbrev pub placed_line : FloorSaid → Result FloorLine Reason → Result (Option FloorLine) Reason
placed_line said (Ok says) = placed said says
placed_line said (Err why) = Err why

-- what a line says in its place, nothing where it is passed over, or why it is refused
abbrev pub judged : FloorSaid → List ℕ → Result (Option FloorLine) Reason
judged said text =
    elim (line_fault text) [
      | Some why ↦ Err why
      | None ↦ if is_comment text then Ok None else placed_line said (floor_says text)
    ]

-- what was said behind a line
abbrev pub said_after : FloorSaid → FloorLine → FloorSaid
said_after said (line.Fact v f) = record said { known = with_fact v f said.known }
said_after said (line.Event e) = record said { eventful = true }

-- ---- the script

-- the vehicles and the events of the lines in front of the first that is refused, and that one
pub record FloorScript : Type 0 where
  pub stands : Option (List Stand)
  pub events : List FloorEvent
  pub refused : Option BadLine

-- what a line says, in front of what the lines behind it say
abbrev pub in_front : FloorLine → FloorScript → FloorScript
in_front (line.Fact v f) script = script
in_front (line.Event e) script = record script { events = e ∷ script.events }

-- the script of the lines from a number on
unfoldable pub script_from : FloorSaid → ℕ → List (List ℕ) → FloorScript
script_from said number [] = record { stands = stands_in said.known; events = []; refused = None }
script_from said number (text ∷ texts) = elim (judged said text) [
  | Ok None ↦ script_from said (number + 1) texts
  | Ok (Some says) ↦ in_front says (script_from (said_after said says) (number + 1) texts)
  | Err why ↦
      record { stands = stands_in said.known; events = []; refused = Some (record { line = number; reason = why }) }
]

-- the script of a text
abbrev pub script_of : List ℕ → FloorScript
script_of bytes = script_from nothing_said 1 (lines_of bytes)
