-- What the readers of hexadecimal say of the octets that they decoded. This project's profile. Scaffolding: cited by
-- the contracts of private functions alone.
use Rattle.std.specs.Prelude.{◌≡◌, ℕ, ◌<◌, ◌≤◌, nat_le, List, ◌++◌, length, drop, Ok, Option, Some, None, if◌then◌else◌}
use Rattle.msd_fit.specs.Candidates.{most_together}
use Rattle.hex.specs.Hex.{decode_of}

-- the bytes end as the octets of some hexadecimal in front, and behind as they were
abbrev pub DecodesTo : (text old new : List ℕ) → Type 0
DecodesTo text old new =
    (octets : List ℕ) × (0 < length text) × (length octets ≤ length old) × (decode_of text ≡ Ok octets)
    × (new ≡ octets ++ drop (length octets) old)

-- the text is empty, no hexadecimal, or of more octets than there is room for
abbrev pub DecodesNone : (text : List ℕ) (room : ℕ) → Type 0
DecodesNone text room = (octets : List ℕ) → 0 < length text → decode_of text ≡ Ok octets → room < length octets

-- octets, where they are no more than a candidate may have
abbrev pub few_of : Option (List ℕ) → Option (List ℕ)
few_of (Some octets) = if nat_le (length octets) most_together then Some octets else None
few_of None = None
