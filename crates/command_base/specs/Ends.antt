-- How a command ends with a text. This project's profile. Cited by the functions that end a command.
use Rattle.std.specs.Prelude.{◌≡◌, ℕ, ◌⊎◌, List, Option}
use Rattle.call_io.specs.Bytes.{Grew, GrewPartly}
use Rattle.command_base.specs.declared.status.Status.{Status}
use Rattle.command_base.specs.declared.status.Status.TheVariants as status

-- a text was written and this is the answer to that, or a part of it and writing failed
abbrev pub EndsWithText : (held held' : Option (List ℕ)) → List ℕ → (wanted answer : Status) → Type 0
EndsWithText held held' text wanted answer =
    ((answer ≡ wanted) × Grew held held' text) ⊎ ((answer ≡ status.WriteFault) × GrewPartly held held' text)
