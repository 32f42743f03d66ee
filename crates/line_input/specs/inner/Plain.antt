-- How a number from 1 on begins. Scaffolding: cited by the contracts of private functions alone.
use Rattle.std.specs.Prelude.{ℕ, Bool, List, ◌&&◌, nat_lt, nat_le, slice_index}
use Rattle.line_input.specs.Characters.{digit_zero, digit_nine}

-- whether the first byte is a digit from 1 to 9
abbrev pub begins_plain_number : List ℕ → Bool
begins_plain_number text = nat_lt digit_zero (slice_index text 0) && nat_le (slice_index text 0) digit_nine
