-- What the reader of a source's bytes and the function that gathers a line say of the bytes at hand. This project's
-- profile. Scaffolding: cited by the contracts of private functions alone.
use Rattle.std.specs.Prelude.{◌≡◌, ℕ, ◌+◌, ◌<◌, ◌≤◌, true, false, List, [], ◌∷◌, ◌++◌, length, Option, Result, Ok, Err}
use Rattle.std.specs.List.{AllByRecursion}
use Rattle.line_input.specs.Characters.{newline}
use Rattle.line_input.specs.Feed.{Feed, Draws, IsDone, IsInner}
use Rattle.line_input.specs.Lines.{most_in_line, most_bytes}
use Rattle.line_input.specs.declared.fault.LineFault.{LineFault}
use Rattle.line_input.specs.declared.fault.LineFault.TheVariants as fault
use Rattle.line_input.specs.declared.gather.Ending.{Ending}
use Rattle.line_input.specs.declared.gather.Ending.TheVariants as ending

-- Nothing was taken, and all stays as it was: no byte was at hand, and the source had not ended.
pub record KeepsFeed (old new : Feed) (left left' : Option (List ℕ)) : Type 0 where
  pub done : IsDone new
  pub draws : Draws old new left left' []
  pub same : new ≡ old
  pub none : old.pending ≡ []
  pub alive : old.ended ≡ false

-- More bytes are pending, or the source ended.
pub record Refills (old new : Feed) (left left' : Option (List ℕ)) : Type 0 where
  pub done : IsDone new
  pub taken : List ℕ
  pub draws : Draws old new left left' taken
  pub pending : new.pending ≡ old.pending ++ taken
  pub given : new.given ≡ old.given
  pub empty : new.pending ≡ [] → new.ended ≡ true

-- what an answer for the next line's bytes says of the bytes at hand, where these were gathered
abbrev pub GathersText : (old new : Feed) → (bytes text : List ℕ) → Result Ending LineFault → Type 0
GathersText old new bytes text (Ok ending.Newline) =
    (bytes ≡ text ++ newline ∷ new.pending) × (new.given ≡ old.given + length text + 1)
GathersText old new bytes text (Ok ending.InputEnd) =
    (bytes ≡ text) × (new.ended ≡ true) × (new.given ≡ old.given + length text)
GathersText old new bytes text (Ok ending.Full) =
    (b : ℕ) × IsInner b × (length text ≡ most_in_line) × (bytes ≡ text ++ b ∷ new.pending)
    × (new.given ≡ old.given + length text + 1)
GathersText old new bytes text (Err (fault.Bad bad)) = ⊥
GathersText old new bytes text (Err fault.ReadFault) =
    (bytes ≡ text) × (new.ended ≡ false) × (old.given + length text ≤ new.given)
GathersText old new bytes text (Err fault.TooLong) =
    (bytes ≡ text ++ new.pending) × (0 < length new.pending) × (old.given + length text ≡ most_bytes)

-- The bytes of one line were gathered, as far as they go.
pub record GathersLine (old new : Feed) (left left' : Option (List ℕ)) (text : List ℕ)
    (answer : Result Ending LineFault)
    : Type 0 where
  pub done : IsDone new
  pub grows : old.given ≤ new.given
  pub taken : List ℕ
  pub draws : Draws old new left left' taken
  pub inner : AllByRecursion IsInner text
  pub short : length text ≤ most_in_line
  pub gathers : GathersText old new (old.pending ++ taken) text answer
