-- Octets in hexadecimal, of either case. This project's profile. Cited by the definitions of the lines of a script and
-- of `encode`.
use Rattle.std.specs.Prelude.{ℕ, nat_lt, List, [], length, codes, Option, Some, None, if◌then◌else◌}
use Rattle.std.specs.Result.{result_ok}
use Rattle.std.specs.Str.{bytes_eq}
use Rattle.hex.specs.Hex.{decode_of}

-- the octets that hexadecimal spells: an even number of digits, at least two
abbrev pub octets_of : List ℕ → Option (List ℕ)
octets_of text = if nat_lt 0 (length text) then result_ok (decode_of text) else None

-- the octets that hexadecimal spells, or none for a hyphen
abbrev pub content_of : List ℕ → Option (List ℕ)
content_of text = if bytes_eq text (codes "-") then Some [] else octets_of text
