-- The lines of a text: where they end, which are refused whatever they say, and which are passed over. This project's
-- profile. Cited by the contracts of `Line` and `Lines`, by the definition of a
-- script, and by what stands on them of an input.
use Rattle.std.specs.Prelude.{◌≡◌, ◌≤◌, ◌⊎◌, ◌++◌, ℕ, ◌==◌, ◌&&◌, nat_le, nat_lt, Bool, true, false, List, [], ◌∷◌, length, Option, Some, None, Result, Ok, Err, if◌then◌else◌}
use Rattle.std.specs.Io.KnownBytes.{IsAtEnd}
use Rattle.std.specs.List.{list_all, onto_first}
use Rattle.line_input.specs.Characters.{newline, space, number_sign, tilde}
use Rattle.line_input.specs.declared.reason.BadLine.{BadLine}
use Rattle.line_input.specs.declared.reason.Reason.{Reason}
use Rattle.line_input.specs.declared.reason.Reason.TheVariants as reason

-- the most bytes of a line, without its newline
abbrev pub most_in_line : ℕ
most_in_line = 512

-- the most bytes of an input
abbrev pub most_bytes : ℕ
most_bytes = 16777216

-- the most bytes that are read at once
abbrev pub most_at_once : ℕ
most_at_once = 8192

-- The lines of these bytes. Each ends with a newline; the last may lack it.
unfoldable pub lines_of : List ℕ → List (List ℕ)
lines_of [] = []
lines_of (b ∷ bytes) = if b == newline then [] ∷ lines_of bytes else onto_first b (lines_of bytes)

-- a line with its number; the first line of a text has number 1
pub record Numbered : Type 0 where
  pub number : ℕ
  pub text : List ℕ

-- what a line says, or why it is refused, with its number
abbrev pub line_answer : {A : Type 0} → Numbered → Result A Reason → Result A BadLine
line_answer l (Ok says) = Ok says
line_answer l (Err why) = Err (record { line = l.number; reason = why })

-- whether a byte may stand in a line: a printable character of ASCII, or a space
abbrev pub is_printable : ℕ → Bool
is_printable b = nat_le space b && nat_le b tilde

-- why a line is refused whatever it says: it has more than 512 bytes, or a byte that may not stand in a line
abbrev pub line_fault : List ℕ → Option Reason
line_fault text =
    if nat_lt most_in_line (length text) then Some reason.LineLong
    else if list_all is_printable text then None
    else Some reason.Text

-- whether a line is empty, or begins with `#`
abbrev pub is_comment : List ℕ → Bool
is_comment [] = true
is_comment (b ∷ _) = b == number_sign

-- a line that is passed over; it counts among the lines
abbrev pub IsPassedOver : List ℕ → Type 0
IsPassedOver text = (line_fault text ≡ None) × (is_comment text ≡ true)

-- a line that says something: 1 to 512 bytes, each from 32 to 126, the first of them no `#`
abbrev pub IsLine : List ℕ → Type 0
IsLine text = (line_fault text ≡ None) × (is_comment text ≡ false)

-- these bytes are whole lines: there are none, or a newline ends them
abbrev pub AreWholeLines : List ℕ → Type 0
AreWholeLines bytes = (bytes ≡ []) ⊎ ((before : List ℕ) × (bytes ≡ before ++ newline ∷ []))

-- The input was read to its end, and has no more bytes than it may have.
pub record IsWhole (left : Option (List ℕ)) (input : List ℕ) : Type 0 where
  pub «end» : IsAtEnd left
  pub within : length input ≤ most_bytes
