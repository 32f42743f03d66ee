-- What the reader of a source's bytes says of the bytes at hand when it gives the next one, or a run of them that ends
-- no line. This project's profile. Cited by the contract of `Bytes`.
use Rattle.std.specs.Prelude.{◌≡◌, ℕ, ◌+◌, ◌-◌, min, take, ◌<◌, ◌≤◌, true, false, List, [], ◌∷◌, ◌++◌, length, Option, Some, None, Result, Ok, Err}
use Rattle.std.specs.List.{AllByRecursion, before_first}
use Rattle.line_input.specs.Characters.{is_newline}
use Rattle.line_input.specs.Feed.{Feed, Draws, IsDone, IsInner}
use Rattle.line_input.specs.Lines.{most_bytes}
use Rattle.line_input.specs.declared.fault.LineFault.{LineFault}
use Rattle.line_input.specs.declared.fault.LineFault.TheVariants as fault

-- what an answer for the next byte says of the bytes at hand
abbrev pub GivesByte : (old new : Feed) → List ℕ → Result (Option ℕ) LineFault → Type 0
GivesByte old new bytes (Ok (Some b)) = (bytes ≡ b ∷ new.pending) × (new.given ≡ old.given + 1)
GivesByte old new bytes (Ok None) = (bytes ≡ []) × (new.ended ≡ true) × (new.given ≡ old.given)
GivesByte old new bytes (Err (fault.Bad bad)) = ⊥
GivesByte old new bytes (Err fault.ReadFault) = (bytes ≡ []) × (new.ended ≡ false)
GivesByte old new bytes (Err fault.TooLong) = (0 < length bytes) × (old.given ≡ most_bytes) × (bytes ≡ new.pending)

-- One byte more, or none.
pub record NextByte (old new : Feed) (left left' : Option (List ℕ)) (answer : Result (Option ℕ) LineFault)
    : Type 0 where
  pub done : IsDone new
  pub grows : old.given ≤ new.given
  pub taken : List ℕ
  pub draws : Draws old new left left' taken
  pub gives : GivesByte old new (old.pending ++ taken) answer

-- the bytes at hand before the first newline, as many as there is room for and as an input may still have
abbrev pub run_of : Feed → ℕ → List ℕ
run_of feed room = before_first is_newline (take (min room (most_bytes - feed.given)) feed.pending)

-- These bytes at hand, none of which ends a line, were given on.
pub record GivesRun (old new : Feed) (run : List ℕ) : Type 0 where
  pub pending : old.pending ≡ run ++ new.pending
  pub given : new.given ≡ old.given + length run
  pub ended : new.ended ≡ old.ended
  pub inner : AllByRecursion IsInner run
