-- The characters that the formats of lines name, each by its code in ASCII, ISO/IEC 646. Cited by the definitions of
-- lines, of words, of a script and of an entry's line.
use Rattle.std.specs.Prelude.{ℕ, ◌==◌, Bool, codes, slice_index}

abbrev pub newline : ℕ
newline = slice_index (codes "\n") 0

abbrev pub space : ℕ
space = slice_index (codes " ") 0

-- `#`
abbrev pub number_sign : ℕ
number_sign = slice_index (codes "#") 0

-- `-`
abbrev pub minus : ℕ
minus = slice_index (codes "-") 0

-- the digit `0`
abbrev pub digit_zero : ℕ
digit_zero = slice_index (codes "0") 0

-- the digit `1`
abbrev pub digit_one : ℕ
digit_one = slice_index (codes "1") 0

-- the digit `9`
abbrev pub digit_nine : ℕ
digit_nine = slice_index (codes "9") 0

-- `~`, the last of the printable characters
abbrev pub tilde : ℕ
tilde = slice_index (codes "~") 0

abbrev pub is_newline : ℕ → Bool
is_newline b = b == newline

abbrev pub is_space : ℕ → Bool
is_space b = b == space
