-- A line that stands whole in the bytes at hand, and is lent from there. Scaffolding: cited by the contracts of private
-- functions alone.
use Rattle.std.specs.Prelude.{◌≡◌, ℕ, ◌+◌, ◌≤◌, nat_lt, Bool, true, false, List, ◌∷◌, ◌++◌, length}
use Rattle.std.specs.List.{AllByRecursion, list_any, slice_range}
use Rattle.line_input.specs.Characters.{newline, is_newline}
use Rattle.line_input.specs.Feed.{Feed, IsDone, IsInner}
use Rattle.line_input.specs.Lines.{most_in_line}
use Rattle.line_input.specs.declared.reader.Place.{Place}
use Rattle.line_input.specs.declared.reader.Place.TheVariants as place
use Rattle.line_input.specs.inner.Held.{Held}

-- A newline stands in a part of the block from a place on exactly where that place is in front of this one.
abbrev pub EndsLines : (block : List ℕ) (at end here : ℕ) → Type 0
EndsLines block at end here =
    (k : ℕ) → at ≤ k → k ≤ end → nat_lt k here ≡ list_any is_newline (slice_range block k end)

-- A whole line was taken from the bytes at hand, with its newline.
pub record LendsLine (old new : Feed) (line : List ℕ) : Type 0 where
  pub done : IsDone new
  pub pending : old.pending ≡ line ++ newline ∷ new.pending
  pub given : new.given ≡ old.given + length line + 1
  pub ended : new.ended ≡ old.ended
  pub inner : AllByRecursion IsInner line
  pub short : length line ≤ most_in_line

-- a line was taken, or all stayed as it was
abbrev pub TakesLine : (old new : Held) → Bool → Type 0
TakesLine old new true = LendsLine old.feed new.feed new.line
TakesLine old new false = new ≡ old

-- the last line, by where it stands
abbrev pub last_line : Place → (lent gathered : List ℕ) → List ℕ
last_line place.Block lent gathered = lent
last_line place.Text lent gathered = gathered
