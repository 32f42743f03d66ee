-- The elements that a spelling of unaligned PER is made of: their kinds, how many bits each kind has, and what
-- is refused in an element's own bits. After ITU-T X.691 (02/2021), clauses 11 (fields), 12 (boolean), 13
-- (integer), 14 (enumerated), 17 (octet string), 19 (sequence), 25 (relative object identifier) and 30
-- (known-multiplier character strings); the limits, the alphabet, the reasons and their values are this
-- project's profile. Cited by the definitions of spelling and of refusal and by every reader.
use Rattle.std.specs.Prelude.{ℕ, zero, suc, ◌+◌, ◌-◌, ◌*◌, ◌^◌, ◌<◌, ◌≤◌, ◌==◌, ◌&&◌, ◌||◌, nat_lt, nat_le, ℤ, pos, ◌-ℤ◌, int_lt, unsigned_abs, Bool, true, false, List, [], ◌∷◌, ◌++◌, length, Option, Some, None, if◌then◌else◌}
use Rattle.std.specs.List.{list_any}
pub use Rattle.per_bits.specs.Alphabet.{alphabet}
use Rattle.per_bits.specs.Bits.{value_of, octets_of}
use Rattle.per_bits.specs.declared.refusals.Reason.{Reason}
use Rattle.per_bits.specs.declared.refusals.Reason.TheVariants.{OutOfRange, LongLength, SmallLarge, NoAddition, EmptyOpen, BadOid, Version}

pub data Kind : Type 0 where
  -- a BOOLEAN, and an extension mark, which has the same bit
  truth : Kind
  -- the presence bits of one SEQUENCE together, as many as it has OPTIONAL and DEFAULT components
  presence : ℕ → Kind
  -- a whole number from the first bound to the second
  whole : ℤ → ℤ → Kind
  -- a character of the VIN alphabet
  character : Kind
  -- the index of a root of an enumeration with so many roots
  root : ℕ → Kind
  -- a small number, 0 to 63: the index of an enumeration's addition, or one less than the number of a
  -- section's additions
  small : Kind
  -- the length of an octet string, of an object identifier, of an open type
  string_length : Kind
  oid_length : Kind
  open_length : Kind
  -- the presence bits of one section of so many additions together
  additions : ℕ → Kind
  -- so many octets of an octet string or an open type together; of an object identifier
  string_octets : ℕ → Kind
  oid_octets : ℕ → Kind
  -- the number of a format, which is to be one of those listed
  format : List ℕ → Kind

-- w is the least width in which each of the numbers 0 to n can be written
pub record IsLeastWidth (n w : ℕ) : Type 0 where
  pub enough : n < 2 ^ w
  pub least : (v : ℕ) → n < 2 ^ v → w ≤ v

-- the first width from w on in which n can be written, if it is at most w + fuel
unfoldable pub width_from : ℕ → ℕ → ℕ → ℕ
width_from zero w n = w
width_from (suc fuel) w n = elim (nat_lt n (2 ^ w)) as (λ _. ℕ) [ true ↦ w | false ↦ width_from fuel (suc w) n ]

-- That least width: n can be written in n bits at most. A law says that IsLeastWidth n (width_of n).
unfoldable pub width_of : ℕ → ℕ
width_of n = width_from n 0 n

-- how many numbers stand above low up to high
abbrev pub span : ℤ → ℤ → ℕ
span low high = unsigned_abs (high -ℤ low)

-- the width of a whole number from low to high
abbrev pub whole_width : ℤ → ℤ → ℕ
whole_width low high = width_of (span low high)

-- the width of a root's index, of so many roots
abbrev pub root_width : ℕ → ℕ
root_width roots = width_of (roots - 1)

-- how many bits an element has
unfoldable pub width : Kind → ℕ
width (presence n) = n
width truth = 1
width (whole low high) = whole_width low high
width character = 6
width (root roots) = root_width roots
width small = 7
width string_length = 8
width oid_length = 8
width open_length = 8
width (additions n) = n
width (string_octets n) = 8 * n
width (oid_octets n) = 8 * n
width (format known) = 8

-- What is refused in an element's bits: how many bits behind its first one, why, and with which value.
pub record Fault : Type 0 where
  pub offset : ℕ
  pub reason : Reason
  pub value : ℕ

-- the first bit, or 0 where there is none
abbrev pub first_bit : List Bool → Bool
first_bit [] = false
first_bit (b ∷ bits) = b

-- a fault that stands at the element's first bit
abbrev pub at_once : Reason → ℕ → Option Fault
at_once reason value = Some (record { offset = 0; reason = reason; value = value })

-- A length is refused where its first bit is 1: it is above 127.
abbrev pub length_fault : List Bool → Option Fault
length_fault bits = if first_bit bits then at_once LongLength (value_of bits) else None

-- A length that may not be 0 is refused as long as every other, and then where it is 0.
abbrev pub nonzero_length_fault : Reason → List Bool → Option Fault
nonzero_length_fault reason bits =
    if first_bit bits then at_once LongLength (value_of bits)
    else (if value_of bits == 0 then at_once reason 0 else None)

-- whether nothing follows
abbrev pub is_last : List ℕ → Bool
is_last [] = true
is_last (o ∷ octets) = false

-- The first octet that breaks the rule of object identifiers, where the octets stand at octets behind the first
-- one: 80 hexadecimal where an arc begins, or the last one where its high bit is set. begins tells that the next
-- octet begins an arc.
abbrev pub oid_fault : Bool → ℕ → List ℕ → Option Fault
oid_fault begins at [] = None
oid_fault begins at (o ∷ octets) =
    if (begins && o == 128) || (is_last octets && nat_le 128 o)
    then Some (record { offset = 8 * at; reason = BadOid; value = o })
    else oid_fault (nat_lt o 128) (at + 1) octets

-- what is refused in the bits of an element that has all of them, if anything is
unfoldable pub fault : Kind → List Bool → Option Fault
fault (whole low high) bits =
    if int_lt (high -ℤ low) (pos (value_of bits)) then at_once OutOfRange (value_of bits) else None
fault character bits = if nat_le (length alphabet) (value_of bits) then at_once OutOfRange (value_of bits) else None
fault (root roots) bits = if nat_le roots (value_of bits) then at_once OutOfRange (value_of bits) else None
fault small bits = if first_bit bits then at_once SmallLarge (value_of bits) else None
fault string_length bits = length_fault bits
fault oid_length bits = nonzero_length_fault BadOid bits
fault open_length bits = nonzero_length_fault EmptyOpen bits
fault (additions n) bits = if value_of bits == 0 then at_once NoAddition n else None
fault (oid_octets n) bits = oid_fault true 0 (octets_of bits)
fault (format known) bits = if list_any (λ id. id == value_of bits) known then None else at_once Version (value_of bits)
fault _ bits = None

-- an element: its kind and its bits
pub record Element : Type 0 where
  pub kind : Kind
  pub bits : List Bool

abbrev pub element : Kind → List Bool → Element
element kind bits = record { kind = kind; bits = bits }

-- the bits of elements, one behind the other
abbrev pub bits_of : List Element → List Bool
bits_of [] = []
bits_of (e ∷ es) = e.bits ++ bits_of es
