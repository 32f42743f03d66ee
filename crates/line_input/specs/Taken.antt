-- What a reader of lines has taken of its source since it began, and which lines it gave. This project's profile. Cited
-- by what says where a loop over the lines of a source stands between two lines.
use Rattle.std.specs.Prelude.{◌≡◌, ℕ, true, false, List, [], ◌≤◌, ◌++◌, length, Option}
use Rattle.std.specs.Io.KnownBytes.{IsAtEnd}
use Rattle.call_io.specs.Bytes.{Took}
use Rattle.line_input.specs.Lines.{AreWholeLines, lines_of, most_at_once, most_bytes}
use Rattle.line_input.specs.Reading.{MayFollow, Reading}

-- A front of the input was given in lines, and what was taken beyond it is pending.
pub record TakenSoFar (start now : Option (List ℕ)) (reading : Reading) (front : List ℕ) : Type 0 where
  pub took : Took start now (front ++ reading.feed.pending)
  pub given : reading.feed.given ≡ length front
  pub within : length front ≤ most_bytes
  pub near : length reading.feed.pending ≤ most_at_once
  pub alive : reading.failed ≡ false
  pub done : reading.feed.ended ≡ true → reading.feed.pending ≡ []
  pub «end» : reading.feed.ended ≡ true → IsAtEnd now
  pub lines : reading.feed.ended ≡ false → AreWholeLines front

-- These lines are those of that front, whatever may follow it.
pub record LinesSoFar (start now : Option (List ℕ)) (reading : Reading) (lines : List (List ℕ)) : Type 0 where
  pub front : List ℕ
  pub taken : TakenSoFar start now reading front
  pub split : (more : List ℕ) → MayFollow reading.feed more → lines_of (front ++ more) ≡ lines ++ lines_of more
  pub number : reading.lines ≡ length lines
