-- How far a floor has come: what the lines so far said, and what is told of them. This project's profile. Cited by the
-- contracts of the functions that play a floor's script line by line.
use Rattle.std.specs.Prelude.{ℕ, List, [], ◌∷◌, ◌++◌, Option, Some, None}
use Rattle.call_floor.specs.Floor.{Floor, Stand, floor_with}
use Rattle.call_floor.specs.FloorLines.{floor_after, floor_step, passes_within}
use Rattle.call_floor.specs.declared.entry.FloorEntry.{FloorEntry}
use Rattle.call_floor.specs.declared.event.FloorEvent.{FloorEvent}
use Rattle.floor_command.specs.FloorScript.{FloorSaid, FloorScript, stands_in}
use Rattle.floor_command.specs.declared.says.FloorLine.{FloorLine}
use Rattle.floor_command.specs.declared.says.FloorLine.TheVariants as line

-- these events in front of a script's
abbrev pub events_before : List FloorEvent → FloorScript → FloorScript
events_before events script = record script { events = events ++ script.events }

-- the event of a line, if it is an event line
abbrev pub event_of : FloorLine → List FloorEvent
event_of (line.Fact v f) = []
event_of (line.Event e) = e ∷ []

-- the floor that these events leave, where the vehicles' facts are known
abbrev pub floor_left : Option (List Stand) → List FloorEvent → Option Floor
floor_left None events = None
floor_left (Some stands) events = Some (floor_after (floor_with stands) events)

-- what a line gives on a floor
abbrev pub entries_in : Option Floor → FloorLine → List FloorEntry
entries_in None says = []
entries_in (Some w) (line.Fact v f) = []
entries_in (Some w) (line.Event e) = (floor_step w e).entries

-- what a line gives on the floor that these events leave
abbrev pub entries_of : FloorSaid → List FloorEvent → FloorLine → List FloorEntry
entries_of said events says = entries_in (floor_left (stands_in said.known) events) says

-- how often the ends are passed at most by a line on a floor
abbrev pub passes_in : Option Floor → FloorLine → ℕ
passes_in None says = 0
passes_in (Some w) (line.Fact v f) = 0
passes_in (Some w) (line.Event e) = passes_within w e

-- how often they are passed at most by a line on the floor that these events leave
abbrev pub passes_by : FloorSaid → List FloorEvent → FloorLine → ℕ
passes_by said events says = passes_in (floor_left (stands_in said.known) events) says
