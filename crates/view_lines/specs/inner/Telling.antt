-- How far telling an input has come. Scaffolding: cited by the contracts of private functions alone.
use Rattle.std.specs.Prelude.{◌≡◌, ℕ, ◌≤◌, Bool, true, false, List, [], length, Option, Result, Ok, Err}
use Rattle.std.specs.Io.KnownBytes.{IsAtEnd}
use Rattle.call_io.specs.Bytes.{Grew, Took}
use Rattle.view_lines.specs.Outcome.{Outcome}
use Rattle.view_lines.specs.Told.{Told}
use Rattle.view_lines.specs.declared.answer.Answer.{Answer}
use Rattle.view_lines.specs.declared.answer.Answer.TheVariants as answer
use Rattle.view_lines.specs.declared.teller.Stop.{Stop}
use Rattle.view_lines.specs.declared.teller.Stop.TheVariants as stop
use Rattle.view_lines.specs.declared.teller.Teller.{Teller}
use Rattle.view_lines.specs.inner.Standing.{StandsAt}

-- the answer of what stopped a teller
abbrev pub answer_of : Stop → Answer
answer_of stop.Memory = answer.Memory
answer_of stop.TooLong = answer.TooLong

-- the answer where a whole input was told
abbrev pub whole_answer : (refused : Bool) → Answer
whole_answer true = answer.SomeRefused
whole_answer false = answer.Done

-- The text at hand was handed on, and all else is as it was.
pub record HandsOn {T : Type 0} (old new : Teller T) : Type 0 where
  pub text : new.text.items ≡ []
  pub kept : new.kept.items ≡ old.kept.items
  pub ended : new.ended ≡ old.ended
  pub refused : new.refused ≡ old.refused
  pub lines : new.lines ≡ old.lines

module _ {T : Type 0} (tells : List (List ℕ) → List ℕ → Told → Type 0) (ends : List (List ℕ) → Told → Type 0)
    (heard : T → List (List ℕ) → Type 0) (left left' held held' : Option (List ℕ)) where
  -- This front of the input was taken, and what is told of its whole lines was handed on.
  pub record SoFar (teller : Teller T) (front : List ℕ) : Type 0 where
    pub took : Took left left' front
    pub handed : List ℕ
    pub wrote : Grew held held' handed
    pub stands : StandsAt tells (heard teller.lines) front handed teller.kept.items teller.ended teller.refused
    pub empty : teller.text.items ≡ []

  -- what came of more bytes: all of this front was taken, or it stopped
  abbrev pub Pieced : Teller T → (front : List ℕ) → (reads : ℕ) → Result Unit Answer → Type 0
  Pieced teller front reads (Ok done) = SoFar teller front × (reads ≤ length front)
  Pieced teller front reads (Err answer) = Outcome tells ends left left' held held' answer

  -- what came of one more read: more was taken, or there was no more, or it stopped
  abbrev pub Turned : Teller T → (reads : ℕ) → Result Bool Answer → Type 0
  Turned teller reads (Ok true) = (front : List ℕ) × SoFar teller front × (reads ≤ length front)
  Turned teller reads (Ok false) = (front : List ℕ) × SoFar teller front × IsAtEnd left'
  Turned teller reads (Err answer) = Outcome tells ends left left' held held' answer
