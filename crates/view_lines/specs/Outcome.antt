-- What an answer of telling an input says of the bytes that were taken and written. The input has no bound. This
-- project's profile. Where a source or a sink doesn't tell its bytes, nothing is said of them.
use Rattle.std.specs.Prelude.{◌≡◌, ℕ, ◌≤◌, ◌⊎◌, Bool, true, false, List, [], ◌++◌, length, Option}
use Rattle.std.specs.Io.KnownBytes.{IsAtEnd}
use Rattle.std.specs.List.{AllByRecursion}
use Rattle.call_io.specs.Bytes.{Grew, GrewPartly, Took}
use Rattle.call_io.specs.Counts.{Rose}
use Rattle.line_input.specs.Feed.{IsInner}
use Rattle.line_input.specs.Lines.{lines_of}
use Rattle.view_lines.specs.Told.{AreTold, IsInputTold, Told}
use Rattle.view_lines.specs.declared.answer.Answer.{Answer}
use Rattle.view_lines.specs.declared.answer.Answer.TheVariants as answer

-- 2^64 - 1, the greatest number of a line
abbrev pub most_lines : ℕ
most_lines = 18446744073709551615

-- These bytes are whole lines, and then a part of one: whatever may come behind them.
pub record AreFront (bytes : List ℕ) (lines : List (List ℕ)) : Type 0 where
  pub part : List ℕ
  pub inner : AllByRecursion IsInner part
  pub split : (more : List ℕ) → lines_of (bytes ++ more) ≡ lines ++ lines_of (part ++ more)

-- This is what is told of the whole lines at the front of these bytes.
pub record IsFrontTold (tells : List (List ℕ) → List ℕ → Told → Type 0) (bytes : List ℕ) (t : Told) : Type 0 where
  pub lines : List (List ℕ)
  pub front : AreFront bytes lines
  pub are : AreTold tells [] lines t

module _ (tells : List (List ℕ) → List ℕ → Told → Type 0) (ends : List (List ℕ) → Told → Type 0)
    (left left' held held' : Option (List ℕ)) where
  -- The input was taken to its end, and all that is told of it was written.
  pub record ToldWhole (refused : Bool) : Type 0 where
    pub input : List ℕ
    pub took : Took left left' input
    pub «end» : IsAtEnd left'
    pub text : List ℕ
    pub told : IsInputTold tells ends input (record { text = text; refused = refused })
    pub wrote : Grew held held' text

  -- A read failed: what is told of all whole lines of what was taken was written, and nothing else.
  pub record ToldRead : Type 0 where
    pub input : List ℕ
    pub took : Took left left' input
    pub told : Told
    pub are : IsFrontTold tells input told
    pub wrote : Grew held held' told.text

  -- It was cut short: of what is told of whole lines that were taken, or of the whole input, a front was written.
  pub record ToldPartly : Type 0 where
    pub input : List ℕ
    pub took : Took left left' input
    pub front : List ℕ
    pub rest : List ℕ
    pub split : input ≡ front ++ rest
    pub told : Told
    pub are : IsFrontTold tells front told ⊎ (IsInputTold tells ends input told × IsAtEnd left')
    pub wrote : GrewPartly held held' told.text

-- There are more lines than a number counts, or as many reads: at least so many bytes were taken.
pub record TakesMost (left left' : Option (List ℕ)) : Type 0 where
  pub input : List ℕ
  pub took : Took left left' input
  pub many : most_lines ≤ length input

-- what an answer says of the bytes taken and written
abbrev pub Outcome :
    (tells : List (List ℕ) → List ℕ → Told → Type 0) → (ends : List (List ℕ) → Told → Type 0)
    → (left left' held held' : Option (List ℕ)) → Answer → Type 0
Outcome tells ends left left' held held' answer.Done = ToldWhole tells ends left left' held held' false
Outcome tells ends left left' held held' answer.SomeRefused = ToldWhole tells ends left left' held held' true
Outcome tells ends left left' held held' answer.ReadFault = ToldRead tells ends left left' held held'
Outcome tells ends left left' held held' answer.WriteFault = ToldPartly tells ends left left' held held'
Outcome tells ends left left' held held' answer.Memory = ToldPartly tells ends left left' held held'
Outcome tells ends left left' held held' answer.TooLong =
    ToldPartly tells ends left left' held held' × TakesMost left left'

-- a read failed, or else none did
abbrev pub ReadCause : Answer → (old new : ℕ) → Type 0
ReadCause answer.ReadFault old new = Rose old new
ReadCause _ old new = new ≡ old

-- a write failed, or else none did
abbrev pub WriteCause : Answer → (old new : ℕ) → Type 0
WriteCause answer.WriteFault old new = Rose old new
WriteCause _ old new = new ≡ old
