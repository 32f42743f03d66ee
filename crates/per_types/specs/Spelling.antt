-- Which elements spell a value of a type, by cases on the type: the encoding rules of ITU-T X.691 (02/2021),
-- unaligned variant, clauses 11 to 14, 17, 19, 25 and 30, for the kinds of this project's profile. A DEFAULT
-- component whose value is its default may be absent or written out, and with another value it is written out.
-- Cited by each reader and writer and by the laws of spelling.
use Rattle.std.specs.Prelude.{◌≡◌, ◌≢◌, ℕ, zero, suc, ◌-◌, ◌<◌, ℤ, pos, ◌+ℤ◌, ◌≤ℤ◌, Bool, true, false, IsTrue, List, [], ◌∷◌, ◌++◌, length, map, slice_index, Option, Some, None, is_some}
use Rattle.std.specs.List.{Contains}
use Rattle.per_bits.specs.Bits.{digits, value_of, octet_bits}
use Rattle.per_bits.specs.Parts.{Small, Length, Open, IsOid, AreOctets, Member, Section}
use Rattle.per_types.specs.Kinds as kind
use Rattle.per_types.specs.Kinds.{Element, element, bits_of, alphabet, IsLeastWidth, span}
use Rattle.per_types.specs.Types.{Tree, truth, number, text, bytes, root, added, record_of, Fields, no_fields, field, absent, Ty, boolean, integer, characters, octet_string, relative_oid, enumerated, format, sequence, Components, no_components, required, optional, default, presence_count}

-- v lies from low to high, and b reads v - low in the least width that the range needs
pub record Whole (low high v : ℤ) (b : List Bool) : Type 0 where
  pub above : low ≤ℤ v
  pub below : v ≤ℤ high
  pub width : IsLeastWidth (span low high) (length b)
  pub reads : low +ℤ pos (value_of b) ≡ v

-- c is a character of the alphabet, and b reads its index in six bits
pub record Character (c : ℕ) (b : List Bool) : Type 0 where
  pub width : length b ≡ 6
  pub known : value_of b < length alphabet
  pub reads : slice_index alphabet (value_of b) ≡ c

-- i is the index of one of so many roots, and b reads it in the least width that they need
pub record RootIndex (roots i : ℕ) (b : List Bool) : Type 0 where
  pub width : IsLeastWidth (roots - 1) (length b)
  pub known : i < roots
  pub reads : value_of b ≡ i

abbrev pub TruthElements : Bool → List Element → Type 0
TruthElements v es = es ≡ element kind.truth (v ∷ []) ∷ []

abbrev pub WholeElements : ℤ → ℤ → ℤ → List Element → Type 0
WholeElements low high v es = (b : List Bool) × Whole low high v b × (es ≡ element (kind.whole low high) b ∷ [])

-- the presence bits of a SEQUENCE with n OPTIONAL and DEFAULT components
abbrev pub PresenceElements : ℕ → List Bool → List Element → Type 0
PresenceElements n present es = (length present ≡ n) × (es ≡ element (kind.presence n) present ∷ [])

abbrev pub CharacterElements : ℕ → List Element → Type 0
CharacterElements c es = (b : List Bool) × Character c b × (es ≡ element kind.character b ∷ [])

-- the characters of a text of known length, one behind the other
abbrev pub TextElements : ℕ → List ℕ → List Element → Type 0
TextElements zero [] es = es ≡ []
TextElements (suc n) (c ∷ cs) es =
    (a rest : List Element) × CharacterElements c a × TextElements n cs rest × (es ≡ a ++ rest)
TextElements _ _ es = ⊥

abbrev pub SmallElements : ℕ → List Element → Type 0
SmallElements n es = (b : List Bool) × Small n b × (es ≡ element kind.small b ∷ [])

-- the length of an octet string
abbrev pub LengthElements : ℕ → List Element → Type 0
LengthElements n es = (b : List Bool) × Length n b × (es ≡ element kind.string_length b ∷ [])

abbrev pub StringElements : List ℕ → List Element → Type 0
StringElements os es =
    (b : List Bool) × Length (length os) b × AreOctets os
    × (es ≡ element kind.string_length b ∷ element (kind.string_octets (length os)) (octet_bits os) ∷ [])

abbrev pub OidElements : List ℕ → List Element → Type 0
OidElements os es =
    (b : List Bool) × Length (length os) b × AreOctets os × IsOid os
    × (es ≡ element kind.oid_length b ∷ element (kind.oid_octets (length os)) (octet_bits os) ∷ [])

-- a root of an extensible enumeration: its mark is 0, and its index follows
abbrev pub RootElements : ℕ → ℕ → List Element → Type 0
RootElements roots i es =
    (b : List Bool) × RootIndex roots i b
    × (es ≡ element kind.truth (false ∷ []) ∷ element (kind.root roots) b ∷ [])

-- an addition of an extensible enumeration: its mark is 1, and its index follows as a small number
abbrev pub AddedElements : ℕ → List Element → Type 0
AddedElements i es = (b : List Bool) × Small i b × (es ≡ element kind.truth (true ∷ []) ∷ element kind.small b ∷ [])

abbrev pub FormatElements : List ℕ → ℕ → List Element → Type 0
FormatElements known v es =
    (b : List Bool) × (length b ≡ 8) × Contains known (value_of b) × (v ≡ value_of b)
    × (es ≡ element (kind.format known) b ∷ [])

-- an open type: its length and its octets
abbrev pub open_cut : List ℕ → List Element
open_cut os =
    element kind.open_length (false ∷ digits 7 (length os))
    ∷ element (kind.string_octets (length os)) (octet_bits os) ∷ []

abbrev pub OpenElements : List ℕ → List Element → Type 0
OpenElements os es = Open os (bits_of es) × (es ≡ open_cut os)

-- the open types of the present additions, one behind the other
abbrev pub opens_cut : List Member → List Element
opens_cut [] = []
opens_cut (None ∷ members) = opens_cut members
opens_cut (Some os ∷ members) = open_cut os ++ opens_cut members

-- A section of additions: the elements are cut as the members say, and their bits are a section of these members.
abbrev pub section_cut : List Member → List Element
section_cut members =
    element kind.small (false ∷ digits 6 (length members - 1))
    ∷ element (kind.additions (length members)) (map is_some members) ∷ opens_cut members

abbrev pub SectionElements : List Member → List Element → Type 0
SectionElements members es = Section members (bits_of es) × (es ≡ section_cut members)

-- the extension mark, where the SEQUENCE has one: 1 where there are additions
abbrev pub mark_elements : Bool → Option (List Member) → List Element
mark_elements false more = []
mark_elements true more = element kind.truth (is_some more ∷ []) ∷ []

-- the additions, which a SEQUENCE without a mark doesn't have
abbrev pub MoreElements : Bool → Option (List Member) → List Element → Type 0
MoreElements marked None es = es ≡ []
MoreElements false (Some members) es = ⊥
MoreElements true (Some members) es = SectionElements members es

-- The elements of a value. Where canonical is true, no component that equals its default is written out.
-- Present has the components, whose presence bits are given.
abbrev mutual
  pub Elements : Bool → Ty → Tree → List Element → Type 0
  Elements canonical boolean (truth v) es = TruthElements v es
  Elements canonical (integer low high) (number v) es = WholeElements low high v es
  Elements canonical (characters n) (text cs) es = TextElements n cs es
  Elements canonical octet_string (bytes os) es = StringElements os es
  Elements canonical relative_oid (bytes os) es = OidElements os es
  Elements canonical (enumerated roots) (root i) es = RootElements roots i es
  Elements canonical (enumerated roots) (added i) es = AddedElements i es
  Elements canonical (format known) (number (pos v)) es = FormatElements known v es
  Elements canonical (sequence marked cs) (record_of fs more) es =
      (present : List Bool) × (parts sect : List Element) × Present canonical cs fs present parts
      × MoreElements marked more sect
      × (es ≡ mark_elements marked more ++ element (kind.presence (presence_count cs)) present ∷ (parts ++ sect))
  Elements canonical _ _ es = ⊥

  pub Present : Bool → Components → Fields → List Bool → List Element → Type 0
  Present canonical no_components no_fields [] es = es ≡ []
  Present canonical (required t cs) (field v fs) present es =
      (a rest : List Element) × Elements canonical t v a × Present canonical cs fs present rest × (es ≡ a ++ rest)
  Present canonical (optional t cs) (absent fs) (false ∷ present) es = Present canonical cs fs present es
  Present canonical (optional t cs) (field v fs) (true ∷ present) es =
      (a rest : List Element) × Elements canonical t v a × Present canonical cs fs present rest × (es ≡ a ++ rest)
  Present canonical (default t d cs) (field v fs) (false ∷ present) es = (v ≡ d) × Present canonical cs fs present es
  Present canonical (default t d cs) (field v fs) (true ∷ present) es =
      (a rest : List Element) × (IsTrue canonical → v ≢ d) × Elements canonical t v a
      × Present canonical cs fs present rest × (es ≡ a ++ rest)
  Present canonical _ _ _ es = ⊥

-- the bits are a spelling of the value
abbrev pub Spells : Ty → Tree → List Bool → Type 0
Spells t v b = (es : List Element) × Elements false t v es × (b ≡ bits_of es)

-- the bits are the canonical spelling of the value: each component that equals its default is absent
abbrev pub Canonical : Ty → Tree → List Bool → Type 0
Canonical t v b = (es : List Element) × Elements true t v es × (b ≡ bits_of es)
