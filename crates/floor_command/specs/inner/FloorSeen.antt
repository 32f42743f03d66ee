-- What `floor` has come to behind some of its lines: what these said, the script that they and the others make, and how
-- often the others pass the ends at most. Cited by that command.
use Rattle.std.specs.Prelude.{◌≡◌, ℕ, ◌+◌, ◌⊎◌, true, List, [], ◌∷◌, ◌++◌, Some, None, Ok, Err}
use Rattle.call_floor.specs.declared.event.FloorEvent.{FloorEvent}
use Rattle.floor_command.specs.FloorScript.{FloorSaid, FloorScript, judged, said_after, script_from}
use Rattle.floor_command.specs.inner.Progress.{event_of, events_before, passes_by}

-- what the lines so far said, and the events that they brought
pub record FloorSeen : Type 0 where
  pub said : FloorSaid
  pub events : List FloorEvent

-- events come behind the first event line alone
abbrev pub IsTidy : FloorSaid → List FloorEvent → Type 0
IsTidy said events = (said.eventful ≡ true) ⊎ (events ≡ [])

-- the script of the lines so far and of these
abbrev pub script_behind : FloorSeen → ℕ → List (List ℕ) → FloorScript
script_behind seen number texts = events_before seen.events (script_from seen.said number texts)

-- how often lines pass the ends at most, behind what was said
unfoldable pub passes_behind_lines : FloorSaid → List FloorEvent → List (List ℕ) → ℕ
passes_behind_lines said events [] = 0
passes_behind_lines said events (text ∷ texts) = elim (judged said text) [
  | Ok None ↦ passes_behind_lines said events texts
  | Ok (Some says) ↦
      passes_by said events says + passes_behind_lines (said_after said says) (events ++ event_of says) texts
  | Err why ↦ 0
]

abbrev pub passes_from : FloorSeen → ℕ → List (List ℕ) → ℕ
passes_from seen number texts = passes_behind_lines seen.said seen.events texts
