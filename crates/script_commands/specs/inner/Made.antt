-- How a script that is made is written, line by line and call by call. This project's profile. Cited by the contracts
-- of private functions of `make`.
use Rattle.std.specs.Prelude.{◌≡◌, ℕ, List, [], ◌∷◌, ◌++◌}
use Rattle.line_input.specs.Characters.{newline}
use Rattle.script_commands.specs.declared.make.CallTimes.{CallTimes}
use Rattle.script_commands.specs.Make.{call_lines, text_of_lines}

-- a line was appended, and a newline
pub record AppendsLine (old new line : List ℕ) : Type 0 where
  pub says : new ≡ old ++ (line ++ newline ∷ [])

-- the text of the call of a number
unfoldable pub text_of_call : ℕ → CallTimes → List ℕ
text_of_call call times = text_of_lines (call_lines call times)
