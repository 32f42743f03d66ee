-- What playing one line of a floor's script comes to. This project's profile. Cited by the contracts of the functions
-- that play one, each by the part of the line that it sees.
use Rattle.std.specs.Prelude.{◌≡◌, ℕ, ◌⊎◌, List, [], ◌++◌, Option, Some, None, Result, Ok, Err}
use Rattle.call_io.specs.Bytes.{Grew, GrewPartly}
use Rattle.line_input.specs.declared.reason.Reason.{Reason}
use Rattle.command_base.specs.Refusals.{refusal_line}
use Rattle.command_base.specs.declared.refusal.Refused.{Refused}
use Rattle.command_base.specs.declared.refusal.Refused.TheVariants as refused
use Rattle.command_base.specs.declared.status.Status.{Status}
use Rattle.command_base.specs.declared.status.Status.TheVariants as status
use Rattle.call_floor.specs.declared.entry.FloorEntry.{FloorEntry}
use Rattle.call_floor.specs.declared.event.FloorEvent.{FloorEvent}
use Rattle.floor_command.specs.FloorScript.{FloorSaid, said_after}
use Rattle.floor_command.specs.FloorText.{text_of}
use Rattle.floor_command.specs.declared.says.FloorLine.{FloorLine}
use Rattle.floor_command.specs.declared.stage.FloorStage.{FloorStage}
use Rattle.floor_command.specs.inner.FloorStage.{IsNext, StageStandsFor}
use Rattle.floor_command.specs.inner.Progress.{event_of, entries_of, passes_by}

-- What a line says in its place, what was told of it, and how often ends were passed for it.
pub record Told (place : Result (Option FloorLine) Reason) (said : FloorSaid) (events : List FloorEvent)
    (Grows : List FloorEntry → Type 0) (Counted : ℕ → Type 0) : Type 0 where
  pub says : FloorLine
  pub placed : place ≡ Ok (Some says)
  pub grows : Grows (entries_of said events says)
  pub counted : Counted (passes_by said events says)

-- Why a line is refused in its place, and what was written of that.
pub record RefusedLine (place : Result (Option FloorLine) Reason) (number : ℕ) (Wrote : List ℕ → Type 0)
    (why : Refused) : Type 0 where
  pub reason : Reason
  pub placed : place ≡ Err reason
  pub says : why ≡ refused.Line (record { line = number; reason = reason })
  pub wrote : Wrote (refusal_line why)

-- A line was played, and the stage stands for what was said with it.
pub record GoesOn (place : Result (Option FloorLine) Reason) (said : FloorSaid) (events : List FloorEvent)
    (Grows : List FloorEntry → Type 0) (Counted : ℕ → Type 0) (old next : FloorStage) : Type 0 where
  pub says : FloorLine
  pub placed : place ≡ Ok (Some says)
  pub grows : Grows (entries_of said events says)
  pub stands : StageStandsFor next (said_after said says) (events ++ event_of says)
  pub near : IsNext old next
  pub counted : Counted (passes_by said events says)

-- what a line that was read comes to, by what it says in its place, for one who hears its entries, and so grows by them
-- or by a part of them; no answer goes on. Where memory is wanted for facts or for a vehicle's place, nothing was told.
abbrev pub PlaysTo : Result (Option FloorLine) Reason → (number : ℕ) → FloorSaid → List FloorEvent
    → (old new : FloorStage) → (held held' : Option (List ℕ)) → (Grows Partly : List FloorEntry → Type 0)
    → (Counted : ℕ → Type 0) → Option Status → Type 0
PlaysTo place number said events old new held held' Grows Partly Counted None =
    GoesOn place said events Grows Counted old new
PlaysTo place number said events old new held held' Grows Partly Counted (Some (status.Refused why)) =
    RefusedLine place number (Grew held held') why × Counted 0
PlaysTo place number said events old new held held' Grows Partly Counted (Some status.WriteFault) =
    ((why : Refused) × RefusedLine place number (GrewPartly held held') why × Counted 0)
    ⊎ Told place said events Partly Counted
PlaysTo place number said events old new held held' Grows Partly Counted (Some status.Memory) =
    Told place said events Partly Counted ⊎ (Grows [] × Counted 0)
PlaysTo place number said events old new held held' Grows Partly Counted (Some _) = ⊥

-- the same where the lines of the entries are written
abbrev pub Plays : Result (Option FloorLine) Reason → (number : ℕ) → FloorSaid → List FloorEvent
    → (old new : FloorStage) → (held held' : Option (List ℕ)) → (Counted : ℕ → Type 0) → Option Status → Type 0
Plays place number said events old new held held' Counted answer =
    PlaysTo place number said events old new held held' (λ es. Grew held held' (text_of es))
    (λ es. GrewPartly held held' (text_of es)) Counted answer
