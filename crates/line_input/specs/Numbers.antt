-- The numbers of lines: decimal, without a zero in front of other digits, with `-` in front of a negative one, and no
-- `-0`. This project's profile. Cited by the readers of numbers, and by the definitions of lines.
use Rattle.std.specs.Prelude.{ℕ, ◌+◌, ◌-◌, ◌*◌, ◌^◌, ◌&&◌, ◌||◌, ◌==◌, nat_le, nat_lt, ℤ, pos, neg_ℤ, Bool, List, [], ◌∷◌, slice_index, codes, Option, Some, None, if◌then◌else◌}
use Rattle.std.specs.List.{list_all}
use Rattle.std.specs.Str.{bytes_eq}
use Rattle.line_input.specs.Characters.{digit_zero, digit_nine, minus}

-- whether a byte is a decimal digit
abbrev pub is_digit : ℕ → Bool
is_digit c = nat_le digit_zero c && nat_le c digit_nine

-- the number that digits spell behind a number spelled so far
abbrev pub number_after : ℕ → List ℕ → ℕ
number_after n [] = n
number_after n (c ∷ cs) = number_after (10 * n + (c - digit_zero)) cs

-- the number that digits spell
abbrev pub number_of : List ℕ → ℕ
number_of digits = number_after 0 digits

-- whether all bytes are digits, and the first is none of 0
abbrev pub is_plain_number : List ℕ → Bool
is_plain_number text = list_all is_digit text && nat_lt digit_zero (slice_index text 0)

-- a number from 1 on, below a limit
abbrev pub positive_below : ℕ → List ℕ → Option ℕ
positive_below limit text =
    if is_plain_number text && nat_lt (number_of text) limit then Some (number_of text) else None

-- a number from 1 to 4294967295
abbrev pub positive : List ℕ → Option ℕ
positive text = positive_below (2 ^ 32) text

-- whether a text is a number from 0 on
abbrev pub is_natural : List ℕ → Bool
is_natural text = is_plain_number text || bytes_eq text (codes "0")

-- a number from 0 on, below a limit
abbrev pub natural_below : ℕ → List ℕ → Option ℕ
natural_below limit text = if is_natural text && nat_lt (number_of text) limit then Some (number_of text) else None

-- the negative of a number from 1 to most
abbrev pub negative_from : ℕ → List ℕ → Option ℤ
negative_from most digits =
    if is_plain_number digits && nat_le (number_of digits) most then Some (neg_ℤ (pos (number_of digits))) else None

-- a number from 0 on, below a limit
abbrev pub signed_natural : Option ℕ → Option ℤ
signed_natural (Some n) = Some (pos n)
signed_natural None = None

-- a number from the negative of the limit on, below the limit
abbrev pub signed_within : ℕ → List ℕ → Option ℤ
signed_within limit [] = None
signed_within limit (c ∷ cs) =
    if c == minus then negative_from limit cs else signed_natural (natural_below limit (c ∷ cs))
