-- Each vehicle on a floor gets the trace that it would get alone. This project's profile. Cited by the contract of
-- `floor_parts`, and by that of `ecall` on every script of a floor.
use Rattle.std.specs.Prelude.{◌≡◌, ℕ, List, Some}
use Rattle.msd_fit.specs.declared.facts.Facts.{Facts}
use Rattle.trace_model.specs.Safety.{Safe}
use Rattle.channel_sim.specs.Lines.{trace}
use Rattle.call_floor.specs.Floor.{Stand, floor_with, first_stand, stand_of}
use Rattle.call_floor.specs.FloorLines.{floor_after, trace_from}
use Rattle.call_floor.specs.Parts.{mine, part}
use Rattle.call_floor.specs.declared.event.FloorEvent.{FloorEvent}
use Rattle.floor_command.specs.FloorScript.{FloorScript}

-- Of a vehicle with these facts, its part of the trace of these events is the trace of its lines in a world in which it
-- is alone; and it is safe up to the tick that the floor reached.
pub record IsAlone (stands : List Stand) (events : List FloorEvent) (v : ℕ) (facts : Facts) : Type 0 where
  pub told :
      part (floor_after (floor_with stands) events) (trace_from (floor_with stands) events) v
      ≡ trace facts (mine (floor_with stands) events v)
  pub safe :
      Safe (part (floor_after (floor_with stands) events) (trace_from (floor_with stands) events) v)
      (floor_after (floor_with stands) events).tick

-- So it is for each vehicle of a script that has facts.
abbrev pub AreApart : FloorScript → Type 0
AreApart script =
    (stands : List Stand) (v : ℕ) (facts : Facts) → script.stands ≡ Some stands
    → stand_of v stands ≡ Some (first_stand v facts) → IsAlone stands script.events v facts
