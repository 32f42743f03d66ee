-- The strings of unaligned PER that stand in whole octets or count something, as relations between a value and
-- its bits, and a section of additions as it is read. After ITU-T X.691 (02/2021), unaligned variant: normally
-- small numbers (11.6) and normally small lengths (11.9.3.4), length determinants (11.9), open types (11.2),
-- extension additions (19.7 to 19.9), and of X.690 (02/2021) the contents octets of a relative object
-- identifier (8.20). Lengths above 127 and small numbers above 63 are left out: this project's profile. Cited
-- by the views Octs, Oid and Additions, by the laws, and by the readers and writers of the kinds.
use Rattle.std.specs.Prelude.{◌≡◌, ℕ, ◌+◌, ◌-◌, ◌*◌, ◌<◌, ◌≤◌, ◌≢◌, Bool, true, false, nat_lt, IsTrue, List, [], ◌∷◌, ◌++◌, length, take, drop, map, Option, Some, None, is_some}
use Rattle.std.specs.List.{AllByRecursion, list_any}
use Rattle.per_bits.specs.Bits.{digits, value_of, octet_bits, octets_of, Part}

-- how many octets a string or an open type has at most
abbrev pub most_octets : ℕ
most_octets = 127

-- b is a zero bit and n, at most 63, in six bits
abbrev pub Small : ℕ → List Bool → Type 0
Small n b = (n ≤ 63) × (b ≡ false ∷ digits 6 n)

-- b is a zero bit and n, at most 127, in seven bits
abbrev pub Length : ℕ → List Bool → Type 0
Length n b = (n ≤ most_octets) × (b ≡ false ∷ digits 7 n)

-- each number is one of an octet
abbrev pub AreOctets : List ℕ → Type 0
AreOctets octets = AllByRecursion (λ o. o < 256) octets

-- b is an open type: the length of the octets, 1 to 127, and their bits
pub record Open (octets : List ℕ) (b : List Bool) : Type 0 where
  pub some : 1 ≤ length octets
  pub few : length octets ≤ most_octets
  pub each : AreOctets octets
  pub bits : b ≡ (false ∷ digits 7 (length octets)) ++ octet_bits octets

-- Arcs to the end, where begins tells that the next octet begins an arc. No arc begins with 80 hexadecimal, an
-- octet below 80 hexadecimal ends its arc, and the last arc is over at the end.
abbrev pub ArcsFrom : Bool → List ℕ → Type 0
ArcsFrom begins [] = IsTrue begins
ArcsFrom begins (o ∷ octets) = (IsTrue begins → o ≢ 128) × ArcsFrom (nat_lt o 128) octets

-- the octets of a relative object identifier: one arc or more
abbrev pub IsOid : List ℕ → Type 0
IsOid octets = (octets ≢ []) × ArcsFrom true octets

-- An addition of a section: its octets, or None where it is absent.
abbrev pub Member : Type 0
Member = Option (List ℕ)

-- b is an open type for each present member, in order
abbrev pub Opens : List Member → List Bool → Type 0
Opens [] b = b ≡ []
Opens (None ∷ members) b = Opens members b
Opens (Some octets ∷ members) b = (a c : List Bool) × Open octets a × Opens members c × (b ≡ a ++ c)

-- b is exactly one section of additions with these members: their number, 1 to 64, as a normally small length,
-- which is the number less one behind a zero bit; a presence bit for each, at least one of them 1; and the
-- present ones
pub record Section (members : List Member) (b : List Bool) : Type 0 where
  pub some : 1 ≤ length members
  pub few : length members ≤ 64
  pub present : IsTrue (list_any is_some members)
  pub spelled :
      (count bodies : List Bool) × Small (length members - 1) count × Opens members bodies
      × (b ≡ count ++ map is_some members ++ bodies)

-- b is exactly one section of additions
abbrev pub IsSection : List Bool → Type 0
IsSection b = (members : List Member) × Section members b

-- ---- reading a section

-- the octets of the open type that the bits begin with
abbrev pub open_octets : List Bool → List ℕ
open_octets b = octets_of (take (8 * value_of (take 8 b)) (drop 8 b))

-- what stands behind it
abbrev pub behind_open : List Bool → List Bool
behind_open b = drop (8 + 8 * value_of (take 8 b)) b

-- the members with these presence bits, whose open types the bits begin with
abbrev pub opens_of : List Bool → List Bool → List Member
opens_of [] b = []
opens_of (false ∷ present) b = None ∷ opens_of present b
opens_of (true ∷ present) b = Some (open_octets b) ∷ opens_of present (behind_open b)

-- How many members a section has, and which: the one reading of a section. The laws say that it gives the
-- members of which the bits are a section.
abbrev pub member_count : List Bool → ℕ
member_count b = value_of (take 7 b) + 1

unfoldable pub members_of : List Bool → List Member
members_of b = opens_of (take (member_count b) (drop 7 b)) (drop (7 + member_count b) b)

-- The present members with their indices, from index i on.
abbrev pub present_members : ℕ → List Member → List (ℕ × List ℕ)
present_members i [] = []
present_members i (None ∷ members) = present_members (i + 1) members
present_members i (Some octets ∷ members) = (i, octets) ∷ present_members (i + 1) members

-- The same, each as the part of all bits that has its octets. The first open type begins at the place at; its
-- octets stand behind its length of eight bits.
abbrev pub present_parts : List Bool → ℕ → ℕ → List Member → List (ℕ × Part)
present_parts all i at [] = []
present_parts all i at (None ∷ members) = present_parts all (i + 1) at members
present_parts all i at (Some octets ∷ members) =
    (i, record { all = all; start = at + 8; bits = octet_bits octets })
    ∷ present_parts all (i + 1) (at + (8 + 8 * length octets)) members

-- The indices rise, from i on, and each part stands behind the one before it, the first not before at.
abbrev pub AreInOrder : ℕ → ℕ → List (ℕ × Part) → Type 0
AreInOrder i at [] = Unit {0}
AreInOrder i at ((j, p) ∷ parts) = (i ≤ j) × (at ≤ p.start) × AreInOrder (j + 1) (p.start + length p.bits) parts
