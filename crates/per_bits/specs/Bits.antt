-- Bit lists and what they stand for: the bits of a number, the number that bits read, the bits of octets,
-- the octets that bits pad to, and a part of borrowed octets at its place. After ITU-T X.691 (02/2021),
-- unaligned variant: bit-fields with the most significant bit first (11.3), and zero bits behind a complete
-- encoding up to whole octets (11.1). Cited by every contract of this crate.
use Rattle.std.specs.Prelude.{◌≡◌, ℕ, ◌+◌, ◌-◌, ◌*◌, ◌/◌, ◌%◌, ◌^◌, ◌≤◌, Bool, true, false, nat_eq, List, [], ◌∷◌, ◌++◌, length, take, drop, replicate, zero, suc}
use Rattle.std.specs.List.{flat_map}

-- the low bits of n, as many as width says, most significant first
unfoldable pub digits : ℕ → ℕ → List Bool
digits zero n = []
digits (suc width) n = nat_eq (n / 2 ^ width % 2) 1 ∷ digits width n

-- the number that the bits read, most significant first
abbrev pub value_of : List Bool → ℕ
value_of [] = 0
value_of (true ∷ bits) = 2 ^ length bits + value_of bits
value_of (false ∷ bits) = value_of bits

-- eight bits for each octet, one octet behind the other
abbrev pub octet_bits : List ℕ → List Bool
octet_bits octets = flat_map (digits 8) octets

-- the octets that the bits read, eight bits each; fewer than eight bits at the end are left out
abbrev pub octets_of : List Bool → List ℕ
octets_of (a ∷ b ∷ c ∷ d ∷ e ∷ f ∷ g ∷ h ∷ bits) = value_of (a ∷ b ∷ c ∷ d ∷ e ∷ f ∷ g ∷ h ∷ []) ∷ octets_of bits
octets_of _ = []

-- the fewest zero bits that make whole octets of so many bits
abbrev pub padding : ℕ → List Bool
padding n = replicate ((8 - n % 8) % 8) false

-- the octets of the bits after the fewest zero bits that make whole octets
abbrev pub padded : List Bool → List ℕ
padded bits = octets_of (bits ++ padding (length bits))

-- A part of borrowed octets: all bits of the octets, where the part begins among them, and the bits of
-- the part. For a cursor: where it stands, and the bits that are left.
pub record Part : Type 0 where
  pub all : List Bool
  pub start : ℕ
  pub bits : List Bool

-- how many octets and how many bits a buffer holds: the size of a set of data in this project's profile
abbrev pub room_octets : ℕ
room_octets = 140

abbrev pub room_bits : ℕ
room_bits = 1120

-- how many octets can be borrowed at most
abbrev pub most_borrowed : ℕ
most_borrowed = 65535

-- the bits of the part stand in all at its start, and all are those of at most so many octets
pub record IsInPlace (p : Part) : Type 0 where
  pub within : p.start + length p.bits ≤ length p.all
  pub bits : p.bits ≡ take (length p.bits) (drop p.start p.all)
  pub few : length p.all ≤ 8 * most_borrowed

-- p lies in q: its bits are those of q at its place
pub record LiesIn (p q : Part) : Type 0 where
  pub all : p.all ≡ q.all
  pub starts : q.start ≤ p.start
  pub within : p.start + length p.bits ≤ q.start + length q.bits
  pub bits : p.bits ≡ take (length p.bits) (drop (p.start - q.start) q.bits)

-- all bits of the octets
abbrev pub all_bits : List ℕ → Part
all_bits octets = record { all = octet_bits octets; start = 0; bits = octet_bits octets }

-- the part that begins at the place start in the octets and has len bits, or fewer where the octets end
abbrev pub part_at : List ℕ → ℕ → ℕ → Part
part_at octets start len =
    record { all = octet_bits octets; start = start; bits = take len (drop start (octet_bits octets)) }

-- the first n bits of p
abbrev pub front : Part → ℕ → Part
front p n = record { all = p.all; start = p.start; bits = take n p.bits }

-- the rest of p behind its first n bits
abbrev pub behind : Part → ℕ → Part
behind p n = record { all = p.all; start = p.start + n; bits = drop n p.bits }
