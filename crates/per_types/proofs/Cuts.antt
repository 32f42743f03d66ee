-- The elements of a section, each with bits of its own: what the plan of a section asks for is what the section is
-- cut into.
use Rattle.std.proofs.Common.{◌≡◌, ◌-◌, ◌≤◌, Bool, false, List, [], ◌∷◌, ◌++◌, length, map, Some, None, refl, sym, ap, subst, ◌∙◌, append_assoc}
use Rattle.std.specs.Prelude.{IsTrue, is_some}
use Rattle.std.specs.List.{list_any}
use Rattle.per_bits.specs.Bits.{digits, octet_bits}
use Rattle.per_bits.specs.Parts.{Small, Length, AreOctets, Member, Opens, Section}
use Rattle.per_types.specs.Kinds as kind
use Rattle.per_types.specs.Kinds.{Element, element, bits_of}
use Rattle.per_types.specs.Spelling.{open_cut, opens_cut, section_cut, SectionElements}

abbrev pub LooseOpens : List Member → List Element → Type 0
LooseOpens [] es = es ≡ []
LooseOpens (None ∷ members) es = LooseOpens members es
LooseOpens (Some os ∷ members) es =
    (b : List Bool) × (rest : List Element) × (1 ≤ length os) × Length (length os) b × AreOctets os × LooseOpens members rest
    × (es ≡ element kind.open_length b ∷ element (kind.string_octets (length os)) (octet_bits os) ∷ rest)

abbrev pub LooseSection : List Member → List Element → Type 0
LooseSection members es =
    (b : List Bool) × (rest : List Element) × (1 ≤ length members) × (length members ≤ 64) × IsTrue (list_any is_some members)
    × Small (length members - 1) b × LooseOpens members rest
    × (es ≡ element kind.small b ∷ element (kind.additions (length members)) (map is_some members) ∷ rest)

-- ---- from loose elements

loose_opens_bits : (members : List Member) (es : List Element) → LooseOpens members es → Opens members (bits_of es)
loose_opens_bits [] es s = ap bits_of s
loose_opens_bits (None ∷ members) es s = loose_opens_bits members es s
loose_opens_bits (Some os ∷ members) es s = (
  s.0 ++ octet_bits os,
  bits_of s.1,
  record { some = s.2; few = s.3.0; each = s.4; bits = ap (λ (x : List Bool). x ++ octet_bits os) s.3.1 },
  loose_opens_bits members s.1 s.5,
  ap bits_of s.6 ∙ sym (append_assoc s.0 (octet_bits os) (bits_of s.1)),
)

loose_opens_cut : (members : List Member) (es : List Element) → LooseOpens members es → es ≡ opens_cut members
loose_opens_cut [] es s = s
loose_opens_cut (None ∷ members) es s = loose_opens_cut members es s
loose_opens_cut (Some os ∷ members) es s =
    s.6
    ∙ ap (λ (b : List Bool). element kind.open_length b ∷ element (kind.string_octets (length os)) (octet_bits os) ∷ s.1) s.3.1
    ∙ ap (λ (rest : List Element). open_cut os ++ rest) (loose_opens_cut members s.1 s.5)

loose_bits : (members : List Member) (es : List Element) → LooseSection members es → Section members (bits_of es)
loose_bits members es s =
    record {
      some = s.2;
      few = s.3;
      present = s.4;
      spelled = (s.0, bits_of s.1, s.5, loose_opens_bits members s.1 s.6, ap bits_of s.7 ∙ sym (append_assoc s.0 (map is_some members) (bits_of s.1)));
    }

pub from_loose : (members : List Member) (es : List Element) → LooseSection members es → SectionElements members es
from_loose members es s = (
  loose_bits members es s,
  s.7
      ∙ ap (λ (b : List Bool). element kind.small b ∷ element (kind.additions (length members)) (map is_some members) ∷ s.1) s.5.1
      ∙ ap (λ (rest : List Element). element kind.small (false ∷ digits 6 (length members - 1)) ∷ element (kind.additions (length members)) (map is_some members) ∷ rest) (loose_opens_cut members s.1 s.6),
)

-- ---- to loose elements

opens_loose : (members : List Member) (b : List Bool) → Opens members b → LooseOpens members (opens_cut members)
opens_loose [] b h = refl
opens_loose (None ∷ members) b h = opens_loose members b h
opens_loose (Some os ∷ members) b (a, c, spelled, more, is) =
    (false ∷ digits 7 (length os), opens_cut members, spelled.some, (spelled.few, refl), spelled.each, opens_loose members c more, refl)

pub section_loose : (members : List Member) (b : List Bool) → Section members b → LooseSection members (section_cut members)
section_loose members b h = (
  false ∷ digits 6 (length members - 1),
  opens_cut members,
  h.some,
  h.few,
  h.present,
  (h.spelled.2.0, refl),
  opens_loose members h.spelled.1 h.spelled.3,
  refl,
)

pub to_loose : (members : List Member) (es : List Element) → SectionElements members es → LooseSection members es
to_loose members es s = subst (LooseSection members) (sym s.1) (section_loose members (bits_of es) s.0)

-- ---- the bits of what a section is cut into

opens_bits_of : (members : List Member) (b : List Bool) → Opens members b → bits_of (opens_cut members) ≡ b
opens_bits_of [] b h = sym h
opens_bits_of (None ∷ members) b h = opens_bits_of members b h
opens_bits_of (Some os ∷ members) b (a, c, spelled, more, is) =
    sym (append_assoc (false ∷ digits 7 (length os)) (octet_bits os) (bits_of (opens_cut members)))
    ∙ ap (λ (l : List Bool). l ++ bits_of (opens_cut members)) (sym spelled.bits)
    ∙ ap (λ (l : List Bool). a ++ l) (opens_bits_of members c more)
    ∙ sym is

pub section_bits_of : (members : List Member) (b : List Bool) → Section members b → bits_of (section_cut members) ≡ b
section_bits_of members b h =
    sym (append_assoc (false ∷ digits 6 (length members - 1)) (map is_some members) (bits_of (opens_cut members)))
    ∙ ap (λ (l : List Bool). (false ∷ digits 6 (length members - 1)) ++ map is_some members ++ l) (opens_bits_of members h.spelled.1 h.spelled.3)
    ∙ ap (λ (l : List Bool). l ++ map is_some members ++ h.spelled.1) (sym h.spelled.2.1)
    ∙ sym h.spelled.4

-- a section of these members is spelled by what it is cut into
pub section_is_spelled : (members : List Member) (b : List Bool) → Section members b → SectionElements members (section_cut members)
section_is_spelled members b h =
    let P : List Bool → Type 0 = λ l. Section members l in
    (subst P (sym (section_bits_of members b h)) h, refl)
