-- What is told of the lines of an input with one set of data in hexadecimal each: the object of each line that isn't
-- passed over, in order, whether or not it is refused. This project's profile. Cited by `tell_sets`.
use Rattle.std.specs.Prelude.{◌≡◌, ℕ, ◌+◌, List, length}
use Rattle.set_commands.specs.Decode.{judged_set}
use Rattle.set_objects.specs.Told.{IsLineTold}
use Rattle.view_lines.specs.Told.{Told, nothing_told}

-- what is told of a line behind these lines
abbrev pub IsSetTold : (before : List (List ℕ)) → List ℕ → Told → Type 0
IsSetTold before line t = IsLineTold (length before + 1) (judged_set line) t

-- at the end nothing is told
abbrev pub IsEndTold : List (List ℕ) → Told → Type 0
IsEndTold lines t = t ≡ nothing_told
