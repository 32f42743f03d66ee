-- What playing one line of a script with a relay desk comes to. This project's profile. Cited by the contracts of the
-- functions that play such a script, each by the part of the line that it sees.
use Rattle.std.specs.Prelude.{◌≡◌, ℕ, ◌+◌, ◌≤◌, ◌⊎◌, List, [], ◌++◌, Option, Some, None, Result, Ok, Err}
use Rattle.call_io.specs.Bytes.{Grew, GrewPartly}
use Rattle.line_input.specs.declared.reason.Reason.{Reason}
use Rattle.trace_model.specs.declared.event.Event.{Event}
use Rattle.command_base.specs.Refusals.{refusal_line}
use Rattle.command_base.specs.declared.refusal.Refused.{Refused}
use Rattle.command_base.specs.declared.refusal.Refused.TheVariants as refused
use Rattle.command_base.specs.declared.status.Status.{Status}
use Rattle.command_base.specs.declared.status.Status.TheVariants as status
use Rattle.script_stage.specs.Progress as progress
use Rattle.script_stage.specs.Stage.{IsNext, StageStandsFor}
use Rattle.script_stage.specs.declared.stage.Halt.{Halt}
use Rattle.script_stage.specs.declared.stage.Halt.TheVariants as halt
use Rattle.script_stage.specs.declared.stage.Stage.{Stage}
use Rattle.relay_text.specs.ItemLine.{text_with_desk}
use Rattle.relay_text.specs.RelayLines.{placed_relay, said_behind}
use Rattle.relay_text.specs.declared.line.RelayLine.{RelayLine}
use Rattle.relay_text.specs.declared.line.RelayLine.TheVariants as line
use Rattle.relay_command.specs.Relay.{line_passes, line_step}
use Rattle.relay_watch.specs.declared.clock.DeskClock.{DeskClock}
use Rattle.relay_command.specs.inner.Seen.{RelaySeen, SceneStands}

-- the event that a line brings in the world, if it is one of the world's
abbrev pub event_of : RelayLine → List Event
event_of (line.Script says) = progress.event_of says
event_of (line.Order o) = []

-- what was said with one more line
abbrev pub seen_behind : RelaySeen → RelayLine → RelaySeen
seen_behind seen says =
    record {
      said = said_behind seen.said says;
      events = seen.events ++ event_of says;
      scene = (line_step seen.said seen.scene says).scene;
    }

-- the stage and the desk stand for what the lines said
pub record Stands (seen : RelaySeen) (stage : Stage) (kept : DeskClock) : Type 0 where
  pub stage_stands : StageStandsFor stage seen.said seen.events
  pub scene_stands : SceneStands seen.said seen.events seen.scene kept

-- the text of what a line gives
abbrev pub line_text : RelaySeen → RelayLine → List ℕ
line_text seen says = text_with_desk (line_step seen.said seen.scene says).items

-- how often a line passes the ends at most
abbrev pub most_by : RelaySeen → RelayLine → ℕ
most_by seen says = line_passes seen.said seen.scene says

-- A line was played, and the stage and the desk stand for what was said with it.
pub record WentOn (seen : RelaySeen) (says : RelayLine) (old next : Stage) (desk' : DeskClock)
    (held held' : Option (List ℕ)) (passes passes' : ℕ) : Type 0 where
  pub placed : placed_relay seen.said says ≡ Ok (Some says)
  pub wrote : Grew held held' (line_text seen says)
  pub stands : Stands (seen_behind seen says) next desk'
  pub near : IsNext old next
  pub counted : passes' ≤ passes + most_by seen says

-- A line is refused where it stands, and nothing was written.
pub record WasRefused (seen : RelaySeen) (says : RelayLine) (why : Reason) (held held' : Option (List ℕ))
    (passes passes' : ℕ) : Type 0 where
  pub placed : placed_relay seen.said says ≡ Err why
  pub wrote : held' ≡ held
  pub counted : passes' ≤ passes

-- A line was cut short, and a part of what it gives was written.
pub record WasCut (seen : RelaySeen) (says : RelayLine) (held held' : Option (List ℕ)) (passes passes' : ℕ)
    : Type 0 where
  pub placed : placed_relay seen.said says ≡ Ok (Some says)
  pub wrote : GrewPartly held held' (line_text seen says)
  pub counted : passes' ≤ passes + most_by seen says

-- what the answer to a line says
abbrev pub Tells : {A : Type 0} → RelaySeen → RelayLine → (old next : Stage) → (desk' : DeskClock)
    → (held held' : Option (List ℕ)) → (passes passes' : ℕ) → Result A Halt → Type 0
Tells seen says old next desk' held held' passes passes' (Ok done) =
    WentOn seen says old next desk' held held' passes passes'
Tells seen says old next desk' held held' passes passes' (Err (halt.Refused why)) =
    WasRefused seen says why held held' passes passes'
Tells seen says old next desk' held held' passes passes' (Err (halt.Sim fault)) =
    WasCut seen says held held' passes passes'

-- Why a line is refused, in its place or whatever it says, and what was written of that.
pub record IsRefusedLine (place : Result (Option RelayLine) Reason) (number : ℕ) (Wrote : List ℕ → Type 0)
    (why : Refused) : Type 0 where
  pub reason : Reason
  pub placed : place ≡ Err reason
  pub says : why ≡ refused.Line (record { line = number; reason = reason })
  pub wrote : Wrote (refusal_line why)

-- what a line that was read comes to, by what it says in its place; no answer goes on
abbrev pub PlaysRelay : Result (Option RelayLine) Reason → (number : ℕ) → RelaySeen → (old next : Stage)
    → (desk' : DeskClock) → (held held' : Option (List ℕ)) → (passes passes' : ℕ) → Option Status → Type 0
PlaysRelay place number seen old next desk' held held' passes passes' None =
    (says : RelayLine) × (place ≡ Ok (Some says)) × WentOn seen says old next desk' held held' passes passes'
PlaysRelay place number seen old next desk' held held' passes passes' (Some (status.Refused why)) =
    IsRefusedLine place number (Grew held held') why × (passes' ≤ passes)
PlaysRelay place number seen old next desk' held held' passes passes' (Some status.WriteFault) =
    ((why : Refused) × IsRefusedLine place number (GrewPartly held held') why × (passes' ≤ passes))
    ⊎ ((says : RelayLine) × (place ≡ Ok (Some says)) × WasCut seen says held held' passes passes')
PlaysRelay place number seen old next desk' held held' passes passes' (Some status.Memory) =
    (says : RelayLine) × (place ≡ Ok (Some says)) × WasCut seen says held held' passes passes'
PlaysRelay place number seen old next desk' held held' passes passes' (Some _) = ⊥

-- a line that isn't played to its end was cut short
abbrev pub IsSimHalt : {A : Type 0} → Result A Halt → Type 0
IsSimHalt (Ok done) = Unit {0}
IsSimHalt (Err (halt.Refused why)) = ⊥
IsSimHalt (Err (halt.Sim fault)) = Unit {0}
