-- Bytes that are judged before they are parted into lines. Scaffolding: cited by the contracts of private functions
-- alone.
use Rattle.std.specs.Prelude.{ℕ, Bool, ◌||◌}
use Rattle.line_input.specs.Characters.{is_newline}
use Rattle.line_input.specs.Lines.{is_printable}

-- whether a byte may stand in a line, or ends one
abbrev pub is_plain : ℕ → Bool
is_plain b = is_printable b || is_newline b
