-- The canonical spelling is a spelling, and each value has one at most.
use Rattle.std.proofs.Common.{◌≡◌, ℕ, zero, suc, ◌-◌, ◌<◌, Bool, true, false, eqb, ◌&&◌, List, [], ◌∷◌, ◌++◌, length, Option, Some, None, refl, sym, ap, ◌∙◌, arith, inl, inr}
use Rattle.std.specs.Prelude.{ℤ, pos, ◌+ℤ◌, slice_index}
use Rattle.std.specs.List.{position_or_len}
use Rattle.std.proofs.lemmas.Int.{ints}
use Rattle.std.proofs.lemmas.Bool.{eqb-true, cases_eq}
use Rattle.per_bits.specs.Bits.{value_of, octet_bits}
use Rattle.per_bits.specs.Parts.{Small, Length, Member}
use Rattle.per_bits.proofs.Digits.{same_bits}
use Rattle.per_types.specs.Kinds as kind
use Rattle.per_types.specs.Kinds.{Element, element, bits_of, alphabet, span}
use Rattle.per_types.proofs.Widths.{same_width}
use Rattle.per_types.specs.Types.{Tree, truth, number, text, bytes, root, added, record_of, Fields, no_fields, field, absent, Ty, boolean, integer, characters, octet_string, relative_oid, enumerated, format, sequence, Components, no_components, required, optional, default, presence_count}
use Rattle.per_types.specs.Spelling.{Whole, Character, RootIndex, TextElements, SectionElements, MoreElements, mark_elements, Elements, Present, Spells, Canonical}

-- ---- a canonical spelling is a spelling

mutual
  elements_any : (t : Ty) (v : Tree) (es : List Element) → Elements true t v es → Elements false t v es
  elements_any boolean (truth v) es s = s
  elements_any (integer low high) (number v) es s = s
  elements_any (characters n) (text cs) es s = s
  elements_any octet_string (bytes os) es s = s
  elements_any relative_oid (bytes os) es s = s
  elements_any (enumerated roots) (root i) es s = s
  elements_any (enumerated roots) (added i) es s = s
  elements_any (format known) (number (pos v)) es s = s
  elements_any (sequence marked cs) (record_of fs more) es s = (s.0, s.1, s.2, present_any cs fs s.0 s.1 s.3, s.4, s.5)
  elements_any _ _ es s = absurd s

  present_any : (cs : Components) (fs : Fields) (present : List Bool) (es : List Element) → Present true cs fs present es → Present false cs fs present es
  present_any no_components no_fields [] es s = s
  present_any (required t cs) (field v fs) present es s = (s.0, s.1, elements_any t v s.0 s.2, present_any cs fs present s.1 s.3, s.4)
  present_any (optional t cs) (absent fs) (false ∷ present) es s = present_any cs fs present es s
  present_any (optional t cs) (field v fs) (true ∷ present) es s = (s.0, s.1, elements_any t v s.0 s.2, present_any cs fs present s.1 s.3, s.4)
  present_any (default t d cs) (field v fs) (false ∷ present) es s = (s.0, present_any cs fs present es s.1)
  present_any (default t d cs) (field v fs) (true ∷ present) es s = (s.0, s.1, (λ h. absurd cc), elements_any t v s.0 s.3, present_any cs fs present s.1 s.4, s.5)
  present_any _ _ _ es s = absurd s

pub canonical_spells : (t : Ty) (v : Tree) (b : List Bool) → Canonical t v b → Spells t v b
canonical_spells t v b c = (c.0, elements_any t v c.0 c.1, c.2)

-- ---- one spelling of each number

all_below : (ℕ → Bool) → ℕ → Bool
all_below f zero = true
all_below f (suc n) = f n && all_below f n

and_true : (a b : Bool) → (a && b) ≡ true → (a ≡ true) × (b ≡ true)
and_true true b h = (refl, h)
and_true false b h = absurd cc

below_at : (f : ℕ → Bool) (n i : ℕ) → all_below f n ≡ true → i < n → f i ≡ true
unfolding all_below
below_at f zero i h lt = absurd (omega arith)
below_at f (suc n) i h lt =
    let both = and_true (f n) (all_below f n) h in
    elim (cases_eq i n) [
      | inl same ↦ ap f same ∙ both.0
      | inr other ↦ below_at f n i both.1 (omega arith)
    ]

-- the place of a character in the alphabet
spot : ℕ → ℕ
spot c = position_or_len (λ x. eqb x c) alphabet

spots : all_below (λ i. eqb (spot (slice_index alphabet i)) i) 33 ≡ true
unfolding all_below spot
spots = refl

spot_of : (i : ℕ) → i < length alphabet → spot (slice_index alphabet i) ≡ i
spot_of i h = eqb-true (spot (slice_index alphabet i)) i (below_at (λ j. eqb (spot (slice_index alphabet j)) j) 33 i spots h)

-- each character stands once in the alphabet
pub alphabet_once : (i j : ℕ) → i < length alphabet → j < length alphabet → slice_index alphabet i ≡ slice_index alphabet j → i ≡ j
alphabet_once i j h k e = sym (spot_of i h) ∙ ap spot e ∙ spot_of j k

one_whole : (low high v : ℤ) (b c : List Bool) → Whole low high v b → Whole low high v c → b ≡ c
one_whole low high v b c s r = same_bits b c (same_width (span low high) (length b) (length c) s.width r.width) (reads (value_of b) (value_of c) (s.reads ∙ sym r.reads))
  where
    reads : (m n : ℕ) → low +ℤ pos m ≡ low +ℤ pos n → m ≡ n
    reads m n e = omega (arith, ints)

one_character : (c : ℕ) (a b : List Bool) → Character c a → Character c b → a ≡ b
one_character c a b s r = same_bits a b (s.width ∙ sym r.width) (alphabet_once (value_of a) (value_of b) s.known r.known (s.reads ∙ sym r.reads))

one_root : (roots i : ℕ) (a b : List Bool) → RootIndex roots i a → RootIndex roots i b → a ≡ b
one_root roots i a b s r = same_bits a b (same_width (roots - 1) (length a) (length b) s.width r.width) (s.reads ∙ sym r.reads)

one_small : (n : ℕ) (a b : List Bool) → Small n a → Small n b → a ≡ b
one_small n a b s r = s.1 ∙ sym r.1

one_length : (n : ℕ) (a b : List Bool) → Length n a → Length n b → a ≡ b
one_length n a b s r = s.1 ∙ sym r.1

-- ---- one list of elements of each value

joins : (es ds a b c d : List Element) → es ≡ a ++ b → ds ≡ c ++ d → a ≡ c → b ≡ d → es ≡ ds
joins es ds a b c d h k e f = rw (h, k, e, f) refl

pub one_text : (n : ℕ) (cs : List ℕ) (es ds : List Element) → TextElements n cs es → TextElements n cs ds → es ≡ ds
one_text zero [] es ds s r = s ∙ sym r
one_text (suc n) (c ∷ cs) es ds s r =
    joins es ds s.0 s.1 r.0 r.1 s.4 r.4
    (s.2.2 ∙ ap (λ (b : List Bool). element kind.character b ∷ []) (one_character c s.2.0 r.2.0 s.2.1 r.2.1) ∙ sym r.2.2) (one_text n cs s.1 r.1 s.3 r.3)
one_text zero (c ∷ cs) es ds s r = absurd s
one_text (suc n) [] es ds s r = absurd s

pub one_section : (members : List Member) (es ds : List Element) → SectionElements members es → SectionElements members ds → es ≡ ds
one_section members es ds s r = s.1 ∙ sym r.1

pub one_more : (marked : Bool) (more : Option (List Member)) (es ds : List Element) → MoreElements marked more es → MoreElements marked more ds → es ≡ ds
one_more marked None es ds s r = s ∙ sym r
one_more false (Some members) es ds s r = absurd s
one_more true (Some members) es ds s r = one_section members es ds s r

behind_length : (k : kind.Kind) (a b : List Bool) (e : Element) → a ≡ b → (element k a ∷ e ∷ []) ≡ (element k b ∷ e ∷ [])
behind_length k a b e h = rw h refl

alone : (k : kind.Kind) (a b : List Bool) → a ≡ b → (element k a ∷ []) ≡ (element k b ∷ [])
alone k a b h = rw h refl

behind_mark : (m : List Bool) (k : kind.Kind) (a b : List Bool) → a ≡ b → (element kind.truth m ∷ element k a ∷ []) ≡ (element kind.truth m ∷ element k b ∷ [])
behind_mark m k a b h = rw h refl

one_sequence : (es ds mark a b c d : List Element) (n : ℕ) (p q : List Bool) → es ≡ mark ++ element (kind.presence n) p ∷ (a ++ b) → ds ≡ mark ++ element (kind.presence n) q ∷ (c ++ d) → p ≡ q → a ≡ c → b ≡ d → es ≡ ds
one_sequence es ds mark a b c d n p q h k e f g = rw (h, k, e, f, g) refl

mutual
  one_elements : (t : Ty) (v : Tree) (es ds : List Element) → Elements true t v es → Elements true t v ds → es ≡ ds
  one_elements boolean (truth v) es ds s r = s ∙ sym r
  one_elements (integer low high) (number v) es ds s r = s.2 ∙ alone (kind.whole low high) s.0 r.0 (one_whole low high v s.0 r.0 s.1 r.1) ∙ sym r.2
  one_elements (characters n) (text cs) es ds s r = one_text n cs es ds s r
  one_elements octet_string (bytes os) es ds s r = s.3 ∙ behind_length kind.string_length s.0 r.0 (element (kind.string_octets (length os)) (octet_bits os)) (one_length (length os) s.0 r.0 s.1 r.1) ∙ sym r.3
  one_elements relative_oid (bytes os) es ds s r = s.4 ∙ behind_length kind.oid_length s.0 r.0 (element (kind.oid_octets (length os)) (octet_bits os)) (one_length (length os) s.0 r.0 s.1 r.1) ∙ sym r.4
  one_elements (enumerated roots) (root i) es ds s r = s.2 ∙ behind_mark (false ∷ []) (kind.root roots) s.0 r.0 (one_root roots i s.0 r.0 s.1 r.1) ∙ sym r.2
  one_elements (enumerated roots) (added i) es ds s r = s.2 ∙ behind_mark (true ∷ []) kind.small s.0 r.0 (one_small i s.0 r.0 s.1 r.1) ∙ sym r.2
  one_elements (format known) (number (pos v)) es ds s r = s.4 ∙ alone (kind.format known) s.0 r.0 (same_bits s.0 r.0 (s.1 ∙ sym r.1) (sym s.3 ∙ r.3)) ∙ sym r.4
  one_elements (sequence marked cs) (record_of fs more) es ds s r =
      let parts = one_present cs fs s.0 r.0 s.1 r.1 s.3 r.3 in
      one_sequence es ds (mark_elements marked more) s.1 s.2 r.1 r.2 (presence_count cs) s.0 r.0 s.5 r.5 parts.0 parts.1 (one_more marked more s.2 r.2 s.4 r.4)
  one_elements _ _ es ds s r = absurd s

  one_present : (cs : Components) (fs : Fields) (p q : List Bool) (es ds : List Element) → Present true cs fs p es → Present true cs fs q ds → (p ≡ q) × (es ≡ ds)
  one_present no_components no_fields [] [] es ds s r = (refl, s ∙ sym r)
  one_present (required t cs) (field v fs) p q es ds s r =
      let others = one_present cs fs p q s.1 r.1 s.3 r.3 in
      (others.0, joins es ds s.0 s.1 r.0 r.1 s.4 r.4 (one_elements t v s.0 r.0 s.2 r.2) others.1)
  one_present (optional t cs) (absent fs) (false ∷ p) (false ∷ q) es ds s r =
      let others = one_present cs fs p q es ds s r in (ap (λ (x : List Bool). false ∷ x) others.0, others.1)
  one_present (optional t cs) (field v fs) (true ∷ p) (true ∷ q) es ds s r =
      let others = one_present cs fs p q s.1 r.1 s.3 r.3 in
      (ap (λ (x : List Bool). true ∷ x) others.0, joins es ds s.0 s.1 r.0 r.1 s.4 r.4 (one_elements t v s.0 r.0 s.2 r.2) others.1)
  one_present (default t d cs) (field v fs) (false ∷ p) (false ∷ q) es ds s r =
      let others = one_present cs fs p q es ds s.1 r.1 in (ap (λ (x : List Bool). false ∷ x) others.0, others.1)
  one_present (default t d cs) (field v fs) (true ∷ p) (true ∷ q) es ds s r =
      let others = one_present cs fs p q s.1 r.1 s.4 r.4 in
      (ap (λ (x : List Bool). true ∷ x) others.0, joins es ds s.0 s.1 r.0 r.1 s.5 r.5 (one_elements t v s.0 r.0 s.3 r.3) others.1)
  one_present (default t d cs) (field v fs) (false ∷ p) (true ∷ q) es ds s r = absurd (r.2 refl s.0)
  one_present (default t d cs) (field v fs) (true ∷ p) (false ∷ q) es ds s r = absurd (s.2 refl r.0)
  one_present no_components no_fields [] (x ∷ q) es ds s r = absurd r
  one_present (optional t cs) (absent fs) (false ∷ p) [] es ds s r = absurd r
  one_present (optional t cs) (absent fs) (false ∷ p) (true ∷ q) es ds s r = absurd r
  one_present (optional t cs) (field v fs) (true ∷ p) [] es ds s r = absurd r
  one_present (optional t cs) (field v fs) (true ∷ p) (false ∷ q) es ds s r = absurd r
  one_present (default t d cs) (field v fs) (x ∷ p) [] es ds s r = absurd r
  one_present _ _ _ _ es ds s r = absurd s

pub one_canonical : (t : Ty) (v : Tree) (b c : List Bool) → Canonical t v b → Canonical t v c → b ≡ c
one_canonical t v b c s r = s.2 ∙ ap bits_of (one_elements t v s.0 r.0 s.1 r.1) ∙ sym r.2
