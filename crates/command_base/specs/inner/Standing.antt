-- Where a command over lines stands between two lines, and what one more line comes to. This project's profile. Cited
-- by the loop over lines.
use Rattle.std.specs.Prelude.{ℕ, ◌+◌, ◌<◌, ◌≤◌, true, List, ◌++◌, Option, Some, None}
use Rattle.call_io.specs.Bytes.{Grew}
use Rattle.line_input.specs.Lines.{lines_of, most_bytes}
use Rattle.line_input.specs.Reading.{Reading}
use Rattle.command_base.specs.declared.status.Status.{Status}
use Rattle.command_base.specs.Outcome.{Streams, Outcome, ToldBefore}
use Rattle.command_base.specs.Refusals.{Reply, in_front_of}
use Rattle.line_input.specs.Taken.{LinesSoFar}

-- The text of the lines so far stands in front of the reply to those that follow, whatever these are; and so for how
-- often ends are passed.
pub record LinesStanding (Replies : List (List ℕ) → Reply → Type 0) (most : List (List ℕ) → ℕ)
    (Rest : ℕ → List (List ℕ) → Reply → Type 0) (more_passes : ℕ → List (List ℕ) → ℕ) (start now : Streams)
    (reading : Reading) : Type 0 where
  pub lines : List (List ℕ)
  pub so_far : LinesSoFar start.left now.left reading lines
  pub text : List ℕ
  pub read : (texts : List (List ℕ)) (r : Reply) → Rest (reading.lines + 1) texts r
      → Replies (lines ++ texts) (in_front_of text r)
  pub wrote : Grew start.held now.held text
  pub counted : (texts : List (List ℕ))
      → now.passes + more_passes (reading.lines + 1) texts ≤ start.passes + most (lines ++ texts)

module _ {Seen : Type 0} (Rest : Seen → ℕ → List (List ℕ) → Reply → Type 0) (most : Seen → ℕ → List (List ℕ) → ℕ)
    (first : Seen) where
  abbrev pub RepliesFrom : List ℕ → Reply → Type 0
  RepliesFrom input r = Rest first 1 (lines_of input) r

  abbrev pub most_from : List ℕ → ℕ
  most_from input = most first 1 (lines_of input)

  -- where a command stands between two lines
  pub record CommandStanding (Stands : ℕ → Seen → Type 0) (start now : Streams) (reading : Reading) : Type 0 where
    pub seen : Seen
    pub stands : Stands reading.lines seen
    pub lines : LinesStanding (Rest first 1) (most first 1) (Rest seen) (most seen) start now reading

  -- how a command ends: with this outcome, and all that its lines gave was written before a read that failed
  abbrev pub EndsWith : (closes : List ℕ → Type 0) → (start now : Streams) → Status → Type 0
  EndsWith closes start now answer =
      Outcome RepliesFrom most_from true start now answer
      × ToldBefore RepliesFrom closes start.left now.left start.held now.held answer

  -- what a turn comes to: the command stands behind one more line, or it ended
  abbrev pub TurnsTo : (closes : List ℕ → Type 0) → (Stands : ℕ → Seen → Type 0) → (start now : Streams)
      → (old new : Reading) → Option Status → Type 0
  TurnsTo closes Stands start now old new None =
      CommandStanding Stands start now new × (old.lines < new.lines) × (new.lines ≤ most_bytes)
  TurnsTo closes Stands start now old new (Some answer) = EndsWith closes start now answer
