-- What a line of `decode` comes to, by what it has in its place. Cited by the functions that describe a set.
use Rattle.std.specs.Prelude.{ℕ, ◌+◌, List, [], ◌∷◌, Option, Some, None, Result}
use Rattle.call_io.specs.Bytes.{Grew}
use Rattle.line_input.specs.declared.reason.Reason.{Reason}
use Rattle.set_commands.specs.Decode.{AreDecoded, IsLineDecoded}
use Rattle.command_base.specs.LineCommands.{EndsLine, GoesOn}
use Rattle.command_base.specs.Refusals.{Reply}
use Rattle.command_base.specs.declared.status.Status.{Status}

-- the reply to a line with this in its place, and to those behind it
abbrev pub FromPlace : Result (Option (List ℕ)) Reason → ℕ → List (List ℕ) → Reply → Type 0
FromPlace place number [] r = ⊥
FromPlace place number (line ∷ texts) r = IsLineDecoded number place (AreDecoded (number + 1) texts) r

-- what the line comes to
abbrev pub TakesPlace : Result (Option (List ℕ)) Reason → ℕ → (held held' : Option (List ℕ)) → Option Status → Type 0
TakesPlace place number held held' None =
    (text : List ℕ) × GoesOn (FromPlace place) AreDecoded number [] text × Grew held held' text
TakesPlace place number held held' (Some answer) = EndsLine (FromPlace place) number [] held held' answer
