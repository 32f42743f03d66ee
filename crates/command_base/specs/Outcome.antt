-- What the answer of a command says of the bytes that it took from its input and wrote to its output, of how often it
-- passed the ends of its calls, and of the reads and writes that failed. `replies` is what the command replies to an
-- input, `most` how often it passes the ends for one at most, and `reads` whether it reads one at all. This project's
-- profile. Where a source or a sink doesn't tell its bytes, nothing is said of them.
use Rattle.std.specs.Prelude.{◌≡◌, ℕ, ◌+◌, ◌≤◌, ◌⊎◌, Bool, false, List, [], ◌++◌, length, Option}
use Rattle.std.specs.Io.KnownBytes.{IsAtEnd}
use Rattle.call_io.specs.Bytes.{Took, Grew}
use Rattle.call_io.specs.Counts.{Rose}
use Rattle.line_input.specs.Inputs.{IsSettledBy, RunsOver, StopsNear, StopsWithin}
use Rattle.line_input.specs.Lines.{IsWhole, lines_of, most_at_once, most_bytes}
use Rattle.command_base.specs.declared.status.Status.{Status}
use Rattle.command_base.specs.declared.status.Status.TheVariants as status
use Rattle.command_base.specs.Refusals.{Reply, in_front_of, line_of}

-- The bytes told by a source and a sink, and how often ends were passed.
pub record Streams : Type 0 where
  pub left : Option (List ℕ)
  pub held : Option (List ℕ)
  pub passes : ℕ

-- what these tell
abbrev pub streams_of : {I O : Type 0} → (left : I → Option (List ℕ)) → (held : O → Option (List ℕ)) → I → O
    → (passes : ℕ) → Streams
streams_of left held input output passes = record { left = left input; held = held output; passes = passes }

-- This input was taken, and answered whole: the sink grew by exactly the text of this reply to it, and ends were passed
-- no more often than it gives reason for.
pub record Answered (replies : List ℕ → Reply → Type 0) (most : List ℕ → ℕ) (old new : Streams) (input : List ℕ)
    (r : Reply) : Type 0 where
  pub took : Took old.left new.left input
  pub replied : replies input r
  pub wrote : Grew old.held new.held r.text
  pub counted : new.passes ≤ old.passes + most input

-- This input was taken, and the answer was cut short: the sink grew by exactly this text, with which a reply begins
-- whatever comes behind a front of what was taken; or, where the source is at its end, a reply to what was taken. No
-- more was taken than an input may have and what is read at once, and ends were passed no more often than what was
-- taken gives reason for.
pub record CutShort (replies : List ℕ → Reply → Type 0) (most : List ℕ → ℕ) (old new : Streams) (input : List ℕ)
    : Type 0 where
  pub took : Took old.left new.left input
  pub within : length input ≤ most_bytes + most_at_once
  pub front : List ℕ
  pub rest : List ℕ
  pub split : input ≡ front ++ rest
  pub text : List ℕ
  pub wrote : Grew old.held new.held text
  pub begins : ((more : List ℕ) → (r : Reply) × replies (front ++ more) (in_front_of text r))
      ⊎ (IsAtEnd new.left × ((r : Reply) × replies input (in_front_of text r)))
  pub counted : new.passes ≤ old.passes + most input

-- The reply is settled by a front of the input that ends in the line of this number: whatever comes behind that front,
-- it is this one. Behind it no more was taken than what was read at once with its end.
abbrev pub IsSettled : (replies : List ℕ → Reply → Type 0) → (number : ℕ) → (input : List ℕ) → Reply → Type 0
IsSettled replies number input r = IsSettledBy (λ bytes. replies bytes r) number input

-- none of the lines of these bytes is refused
abbrev pub IsUnrefused : (replies : List ℕ → Reply → Type 0) → List ℕ → Type 0
IsUnrefused replies bytes = (r : Reply) × replies bytes r × (r.status ≡ status.Done)

-- The input was read to its end, or the command reads none, and took nothing.
abbrev pub IsRead : (reads : Bool) → (left : Option (List ℕ)) → (input : List ℕ) → Type 0
IsRead reads left input = IsWhole left input ⊎ ((reads ≡ false) × (input ≡ []))

-- what an answer says of the bytes taken and written
abbrev pub Outcome : (replies : List ℕ → Reply → Type 0) → (most : List ℕ → ℕ) → (reads : Bool) → (old new : Streams)
    → Status → Type 0
Outcome replies most reads old new status.Done =
    (input : List ℕ) × (r : Reply) × Answered replies most old new input r × (r.status ≡ status.Done)
    × IsRead reads new.left input
Outcome replies most reads old new status.Usage =
    (r : Reply) × Answered replies most old new [] r × (r.status ≡ status.Usage)
Outcome replies most reads old new (status.Refused why) =
    (input : List ℕ) × (r : Reply) × Answered replies most old new input r × (r.status ≡ status.Refused why)
    × (IsSettled replies (line_of why) input r ⊎ IsWhole new.left input)
Outcome replies most reads old new (status.Broken number rule) =
    (input : List ℕ) × (r : Reply) × Answered replies most old new input r × (r.status ≡ status.Broken number rule)
    × (IsSettled replies number input r ⊎ IsWhole new.left input)
Outcome replies most reads old new status.ReadFault = (input : List ℕ) × CutShort replies most old new input
Outcome replies most reads old new status.WriteFault = (input : List ℕ) × CutShort replies most old new input
Outcome replies most reads old new status.Memory = (input : List ℕ) × CutShort replies most old new input
Outcome replies most reads old new status.TooLong =
    (input : List ℕ) × CutShort replies most old new input × RunsOver (IsUnrefused replies) input

-- All that these lines give was written: the reply to them is this text, and then what the command closes with at the
-- end of its input, if it does.
pub record ToldAll (replies : List ℕ → Reply → Type 0) (Closes : List ℕ → Type 0) (held held' : Option (List ℕ))
    (bytes : List ℕ) : Type 0 where
  pub text : List ℕ
  pub wrote : Grew held held' text
  pub closing : Reply
  pub replied : replies bytes (in_front_of text closing)
  pub done : closing.status ≡ status.Done
  pub closes : Closes closing.text

-- All that these lines give was written, and then a part of what a line behind them gives, or none.
pub record ToldMore (replies : List ℕ → Reply → Type 0) (Closes : List ℕ → Type 0) (held held' : Option (List ℕ))
    (lines : List (List ℕ)) : Type 0 where
  pub text : List ℕ
  pub part : List ℕ
  pub wrote : Grew held held' (text ++ part)
  pub closing : Reply
  pub replied : (bytes : List ℕ) → lines_of bytes ≡ lines → replies bytes (in_front_of text closing)
  pub done : closing.status ≡ status.Done
  pub closes : Closes closing.text

-- What an answer says of all that was written before a read. Where a read failed, what was taken stops within a line,
-- and all that the lines before it give was written: nothing was kept back while more was read. Where there was no
-- memory, no more was taken than to the line that wanted it, or to the end of the input, and what was read at once with
-- that, and all that the lines before it give was written.
abbrev pub ToldBefore : (replies : List ℕ → Reply → Type 0) → (closes : List ℕ → Type 0)
    → (left left' held held' : Option (List ℕ)) → Status → Type 0
ToldBefore replies closes left left' held held' status.ReadFault =
    (input : List ℕ) × Took left left' input × StopsWithin (λ bytes. ToldAll replies closes held held' bytes) input
ToldBefore replies closes left left' held held' status.Memory =
    (input : List ℕ) × Took left left' input × StopsNear (λ lines. ToldMore replies closes held held' lines) input
ToldBefore replies closes left left' held held' _ = Unit {0}

-- it closes with nothing
abbrev pub ClosesSilently : List ℕ → Type 0
ClosesSilently text = text ≡ []

-- what an answer says of the source's count of faults: a read failed, or else none did
abbrev pub ReadCause : Status → (old new : ℕ) → Type 0
ReadCause status.ReadFault old new = Rose old new
ReadCause _ old new = new ≡ old

-- what an answer says of the sink's count of faults: a write failed, or else none did
abbrev pub WriteCause : Status → (old new : ℕ) → Type 0
WriteCause status.WriteFault old new = Rose old new
WriteCause _ old new = new ≡ old

-- the answers of a command that read all that it needed and wrote all that it owed
abbrev pub IsUncut : Status → Type 0
IsUncut status.Usage = ⊥
IsUncut status.ReadFault = ⊥
IsUncut status.WriteFault = ⊥
IsUncut status.Memory = ⊥
IsUncut _ = Unit {0}

-- an answer that was cut short, and not by a failed write
abbrev pub IsCutSilently : Status → Type 0
IsCutSilently status.Memory = Unit {0}
IsCutSilently status.ReadFault = Unit {0}
IsCutSilently status.TooLong = Unit {0}
IsCutSilently _ = ⊥

-- The answer is the status of the reply to these bytes, and its whole text was written.
pub record IsWholeReply (replies : List ℕ → Reply → Type 0) (bytes : List ℕ) (held held' : Option (List ℕ))
    (answer : Status) : Type 0 where
  pub reply : Reply
  pub replied : replies bytes reply
  pub status : reply.status ≡ answer
  pub wrote : Grew held held' reply.text
