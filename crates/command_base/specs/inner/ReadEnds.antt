-- How reading one more line ends. This project's profile. Cited by the function that reads a command's next line, and
-- by the one that ends a command whose next line couldn't be read.
use Rattle.std.specs.Prelude.{◌≡◌, ℕ, Bool, List, Option, Result, Ok, Err}
use Rattle.line_input.specs.Reading.{Reading, ReadsLine}
use Rattle.line_input.specs.declared.fault.LineFault.{LineFault}
use Rattle.line_input.specs.declared.fault.LineFault.TheVariants as fault
use Rattle.command_base.specs.declared.refusal.Refused.TheVariants as refused
use Rattle.command_base.specs.declared.status.Status.{Status}
use Rattle.command_base.specs.declared.status.Status.TheVariants as status
use Rattle.command_base.specs.Ends.{EndsWithText}
use Rattle.command_base.specs.Refusals.{refusal_line}

-- what an answer says where a line couldn't be read: it is refused, or nothing more is written
abbrev pub FailsWith : LineFault → (held held' : Option (List ℕ)) → (answer : Status) → Type 0
FailsWith (fault.Bad bad) held held' answer =
    EndsWithText held held' (refusal_line (refused.Line bad)) (status.Refused (refused.Line bad)) answer
FailsWith fault.ReadFault held held' answer = (answer ≡ status.ReadFault) × (held' ≡ held)
FailsWith fault.TooLong held held' answer = (answer ≡ status.TooLong) × (held' ≡ held)

-- The next line wasn't read, which ends the command: it can't be, or what was pending in front of it couldn't be
-- written.
pub data EndsReading (old new : Reading) (left left' held held' : Option (List ℕ)) (answer : Status) : Type 0 where
  by_line : (f : LineFault) → ReadsLine old new left left' (Err f) → FailsWith f held held' answer
      → EndsReading old new left left' held held' answer
  in_front : answer ≡ status.WriteFault → left' ≡ left → held' ≡ held → EndsReading old new left left' held held' answer

-- what reading one more line comes to: true is a line, false the end of the input, and an answer ends the command
abbrev pub ReadsOn : (old new : Reading) → (left left' held held' : Option (List ℕ)) → Result Bool Status → Type 0
ReadsOn old new left left' held held' (Ok found) = ReadsLine old new left left' (Ok found) × (held' ≡ held)
ReadsOn old new left left' held held' (Err answer) = EndsReading old new left left' held held' answer
