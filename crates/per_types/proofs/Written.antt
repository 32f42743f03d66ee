-- What writers append is spelled so.
use Rattle.std.proofs.Common.{◌≡◌, ℕ, suc, ◌+◌, ◌-◌, ◌*◌, ◌/◌, ◌%◌, ◌^◌, ◌<◌, ◌≤◌, Bool, true, false, nat_eq, List, [], ◌∷◌, ◌++◌, length, Result, Ok, Err, refl, ap, sym, subst, ◌∙◌, add-one, append-nil, arith}
use Rattle.std.specs.Prelude.{FitsSigned, OnOk, OnErr, slice_index, ℤ, pos, unsigned_abs, ◌-ℤ◌, ◌+ℤ◌, ◌≤ℤ◌}
use Rattle.std.specs.List.{Contains}
use Rattle.std.specs.Int.{from_bool}
use Rattle.std.proofs.lemmas.Int.{ints}
use Rattle.std.proofs.Common.{w64}
use Rattle.std.proofs.Math.Nat.{mod-eq_of_lt, div-eq_of_lt}
use Rattle.std.proofs.lemmas.List.{length-append}
use Rattle.per_bits.specs.Bits.{Part, digits, value_of, octet_bits, octets_of, room_bits}
use Rattle.per_bits.specs.Parts.{Member, Section, IsOid}
use Rattle.per_bits.proofs.Digits.{length_digits, value_digits, digits_low}
use Rattle.per_bits.proofs.Octets.{octet_bits_of, are_octets_of}
use Rattle.per_types.specs.Kinds as kind
use Rattle.per_types.specs.Kinds.{Element, element, bits_of, alphabet, span, whole_width, root_width, width_of}
use Rattle.per_types.specs.Spelling.{TruthElements, WholeElements, PresenceElements, CharacterElements, SmallElements, LengthElements, StringElements, OidElements, RootElements, AddedElements, FormatElements, section_cut, SectionElements}
use Rattle.per_types.specs.Writing.{AppendsSpelling}
use Rattle.per_types.proofs.Cuts.{section_bits_of, section_is_spelled}
use Rattle.per_types.proofs.Elementwise.{span_is}
use Rattle.per_types.proofs.Widths.{width_enough, width_least, has_width}
use Rattle.std.proofs.lemmas.Grind.{pow_more}

-- elements that spell something have these bits
pub record Spelled (Is : List Element → Type 0) (b : List Bool) : Type 0 where
  pub elements : List Element
  pub spell : Is elements
  pub bits : bits_of elements ≡ b

-- What appends the bits of such elements, or nothing where they don't fit, writes them.
pub written : {X E : Type 0} (Is : List Element → Type 0) (old new b : List Bool) (n : ℕ) (r : Result X E) → Spelled Is b → length b ≡ n
    → OnOk r ((length old + n ≤ room_bits) × (new ≡ old ++ b)) → OnErr r ((room_bits < length old + n) × (new ≡ old)) → AppendsSpelling Is old r new
written Is old new b n (Ok x) s long ok full =
    let same : length (bits_of s.elements) ≡ length b = ap length s.bits in
    (s.elements, s.spell, omega arith, ok.1 ∙ ap (λ l. old ++ l) (sym s.bits))
written Is old new b n (Err e) s long ok full =
    let same : length (bits_of s.elements) ≡ length b = ap length s.bits in
    (s.elements, s.spell, omega arith, full.1)

-- one element alone
pub alone : (kind : kind.Kind) (b : List Bool) → bits_of (element kind b ∷ []) ≡ b
alone kind b = append-nil b

-- a number with room for one bit more begins with 0
pub zero_first : (width n : ℕ) → n < 2 ^ width → digits (suc width) n ≡ false ∷ digits width n
unfolding digits
zero_first width n h = ap (λ x. nat_eq (x % 2) 1 ∷ digits width n) (div-eq_of_lt h)

-- the bit of a truth value
pub one_bit : (b : Bool) (n : ℕ) → n ≡ from_bool b → digits 1 n ≡ b ∷ []
unfolding digits
one_bit true n e = rw e refl
one_bit false n e = rw e refl

-- ---- each kind

pub truth_spelled : (b : Bool) (n : ℕ) → n ≡ from_bool b → Spelled (TruthElements b) (digits 1 n)
truth_spelled b n e = record { elements = element kind.truth (b ∷ []) ∷ []; spell = refl; bits = sym (one_bit b n e) }

pub small_spelled : (n m : ℕ) → m ≡ n → n ≤ 63 → Spelled (SmallElements n) (digits 7 m)
small_spelled n m e few =
    let below : n < 2 ^ 6 = omega arith in
    record {
      elements = element kind.small (false ∷ digits 6 n) ∷ [];
      spell = (false ∷ digits 6 n, (few, refl), refl);
      bits = alone kind.small (false ∷ digits 6 n) ∙ sym (zero_first 6 n below) ∙ ap (digits 7) (sym e);
    }

pub length_spelled : (n m : ℕ) → m ≡ n → n ≤ 127 → Spelled (LengthElements n) (digits 8 m)
length_spelled n m e few =
    let below : n < 2 ^ 7 = omega arith in
    record {
      elements = element kind.string_length (false ∷ digits 7 n) ∷ [];
      spell = (false ∷ digits 7 n, (few, refl), refl);
      bits = alone kind.string_length (false ∷ digits 7 n) ∙ sym (zero_first 7 n below) ∙ ap (digits 8) (sym e);
    }

pub presence_spelled : (n v m : ℕ) → m ≡ v → Spelled (PresenceElements n (digits n v)) (digits n m)
presence_spelled n v m e = record {
  elements = element (kind.presence n) (digits n v) ∷ [];
  spell = (length_digits n v, refl);
  bits = alone (kind.presence n) (digits n v) ∙ ap (digits n) (sym e);
}

pub character_spelled : (c i m : ℕ) → m ≡ i → i < 33 → slice_index alphabet i ≡ c → Spelled (CharacterElements c) (digits 6 m)
character_spelled c i m e known there =
    let below : i < 2 ^ 6 = omega arith in
    let reads : value_of (digits 6 i) ≡ i = value_digits 6 i ∙ mod-eq_of_lt below in
    let within : value_of (digits 6 i) < 33 = omega arith in
    record {
      elements = element kind.character (digits 6 i) ∷ [];
      spell = (digits 6 i, record { width = length_digits 6 i; known = within; reads = ap (λ k. slice_index alphabet k) reads ∙ there }, refl);
      bits = alone kind.character (digits 6 i) ∙ ap (digits 6) (sym e);
    }

pub whole_sum_is : (low v : ℤ) → low ≤ℤ v → low +ℤ pos (unsigned_abs (v -ℤ low)) ≡ v
whole_sum_is low v h = rw (span_is low v h) (omega (arith, ints))

pub whole_spelled : (low high v : ℤ) (width n : ℕ) → width ≡ whole_width low high → low ≤ℤ v → v ≤ℤ high → n ≡ unsigned_abs (v -ℤ low) → n < 2 ^ width → Spelled (WholeElements low high v) (digits width n)
whole_spelled low high v width n wide above below e small = record {
  elements = element (kind.whole low high) (digits width n) ∷ [];
  spell = (
    digits width n,
    record {
      above = above;
      below = below;
      width = has_width (span low high) (length (digits width n)) (length_digits width n ∙ wide);
      reads = ap (λ k. low +ℤ pos k) (value_digits width n ∙ mod-eq_of_lt small ∙ e) ∙ whole_sum_is low v above;
    },
    refl,
  );
  bits = alone (kind.whole low high) (digits width n);
}

pub whole_fits : (low high v : ℤ) → low ≤ℤ v → v ≤ℤ high → unsigned_abs (v -ℤ low) ≤ unsigned_abs (high -ℤ low)
whole_fits low high v above below = grind (arith, ints)

pub span_below : (low high : ℤ) → low ≤ℤ high → FitsSigned w64 low → FitsSigned w64 high → unsigned_abs (high -ℤ low) < 2 ^ 64
span_below low high ordered l h = omega (arith, ints, span_is low high ordered)

pub ordered_by : (low v high : ℤ) → low ≤ℤ v → v ≤ℤ high → low ≤ℤ high
ordered_by low v high a b = omega (arith, ints)

pub format_spelled : (known : List ℕ) (v m : ℕ) → m ≡ v → v < 256 → Contains known v → Spelled (FormatElements known v) (digits 8 m)
format_spelled known v m e small there =
    let reads : value_of (digits 8 v) ≡ v = value_digits 8 v ∙ mod-eq_of_lt small in
    let P : ℕ → Type 0 = λ k. Contains known k in
    record {
      elements = element (kind.format known) (digits 8 v) ∷ [];
      spell = (digits 8 v, length_digits 8 v, subst P (sym reads) there, sym reads, refl);
      bits = alone (kind.format known) (digits 8 v) ∙ ap (digits 8) (sym e);
    }

pub root_spelled : (roots i width m : ℕ) → width ≡ root_width roots → i < roots → i < 2 ^ width → m ≡ i → Spelled (RootElements roots i) (digits (width + 1) m)
root_spelled roots i width m wide known small e = record {
  elements = element kind.truth (false ∷ []) ∷ element (kind.root roots) (digits width i) ∷ [];
  spell = (
    digits width i,
    record { width = has_width (roots - 1) (length (digits width i)) (length_digits width i ∙ wide); known = known; reads = value_digits width i ∙ mod-eq_of_lt small },
    refl,
  );
  bits =
      ap (λ l. false ∷ l) (append-nil (digits width i)) ∙ sym (zero_first width i small)
      ∙ ap (λ k. digits k i) (sym (add-one width)) ∙ ap (digits (width + 1)) (sym e);
}

added_bits : (i : ℕ) → i ≤ 63 → digits 8 (128 + i) ≡ true ∷ false ∷ digits 6 i
unfolding digits
added_bits i few =
    let first : (128 + i) / 2 ^ 7 % 2 ≡ 1 = omega arith in
    let second : (128 + i) / 2 ^ 6 % 2 ≡ 0 = omega arith in
    let low : (128 + i) % 2 ^ 6 ≡ i % 2 ^ 6 = omega arith in
    ap (λ x. nat_eq x 1 ∷ nat_eq ((128 + i) / 2 ^ 6 % 2) 1 ∷ digits 6 (128 + i)) first
    ∙ ap (λ x. true ∷ nat_eq x 1 ∷ digits 6 (128 + i)) second
    ∙ ap (λ l. true ∷ false ∷ l) (digits_low 6 (128 + i) i low)

pub added_spelled : (i m : ℕ) → i ≤ 63 → m ≡ 128 + i → Spelled (AddedElements i) (digits 8 m)
added_spelled i m few e = record {
  elements = element kind.truth (true ∷ []) ∷ element kind.small (false ∷ digits 6 i) ∷ [];
  spell = (false ∷ digits 6 i, (few, refl), refl);
  bits = ap (λ l. true ∷ l) (append-nil (false ∷ digits 6 i)) ∙ sym (added_bits i few) ∙ ap (digits 8) (sym e);
}

-- the bits of a length and of octets
string_bits : (p q : Part) (count m : ℕ) → p ≡ q → length q.bits ≡ 8 * count → count ≤ 127 → count ≡ length (octets_of q.bits) → m ≡ count
    → (false ∷ digits 7 (length (octets_of q.bits))) ++ (octet_bits (octets_of q.bits) ++ []) ≡ digits 8 m ++ p.bits
string_bits p q count m e whole few number is =
    let below : count < 2 ^ 7 = omega arith in
    ap (λ l. (false ∷ digits 7 (length (octets_of q.bits))) ++ l) (append-nil (octet_bits (octets_of q.bits)) ∙ octet_bits_of count q.bits whole ∙ ap (λ (r : Part). r.bits) (sym e))
    ∙ ap (λ n. (false ∷ digits 7 n) ++ p.bits) (sym number)
    ∙ ap (λ l. l ++ p.bits) (sym (zero_first 7 count below) ∙ ap (digits 8) (sym is))

pub string_spelled : (p q : Part) (count m : ℕ) → p ≡ q → length q.bits ≡ 8 * count → count ≤ 127 → count ≡ length (octets_of q.bits) → m ≡ count
    → Spelled (StringElements (octets_of q.bits)) (digits 8 m ++ p.bits)
string_spelled p q count m e whole few number is = record {
  elements = element kind.string_length (false ∷ digits 7 (length (octets_of q.bits))) ∷ element (kind.string_octets (length (octets_of q.bits))) (octet_bits (octets_of q.bits)) ∷ [];
  spell = (false ∷ digits 7 (length (octets_of q.bits)), (omega arith, refl), are_octets_of count q.bits whole, refl);
  bits = string_bits p q count m e whole few number is;
}

pub oid_spelled : (p q : Part) (count m : ℕ) → p ≡ q → length q.bits ≡ 8 * count → count ≤ 127 → count ≡ length (octets_of q.bits) → m ≡ count → IsOid (octets_of q.bits)
    → Spelled (OidElements (octets_of q.bits)) (digits 8 m ++ p.bits)
oid_spelled p q count m e whole few number is oid = record {
  elements = element kind.oid_length (false ∷ digits 7 (length (octets_of q.bits))) ∷ element (kind.oid_octets (length (octets_of q.bits))) (octet_bits (octets_of q.bits)) ∷ [];
  spell = (false ∷ digits 7 (length (octets_of q.bits)), (omega arith, refl), are_octets_of count q.bits whole, oid, refl);
  bits = string_bits p q count m e whole few number is;
}

pub string_long : (p q : Part) (count m : ℕ) → p ≡ q → length q.bits ≡ 8 * count → length (digits 8 m ++ p.bits) ≡ 8 + 8 * count
string_long p q count m e whole = length-append (digits 8 m) p.bits ∙ omega (arith, length_digits 8 m, ap (λ (r : Part). length r.bits) e)

-- the index of a root fits in the width of roots
pub root_fits : (roots i width : ℕ) → roots < 256 → width ≡ root_width roots → i < roots → (i < 2 ^ width) × (width ≤ 8)
root_fits roots i width small wide known =
    let enough : roots - 1 < 2 ^ width_of (roots - 1) = width_enough (roots - 1) in
    let least : width_of (roots - 1) ≤ 8 = width_least (roots - 1) 8 (omega arith) in
    (omega (arith, ap (λ k. 2 ^ k) wide), omega arith)

-- and in one bit more
pub fits_more : (n width : ℕ) → n < 2 ^ width → n < 2 ^ (width + 1)
fits_more n width h = omega (arith, pow_more 2 width)

-- an error that can't have come
pub never_full : {X E : Type 0} (r : Result X E) (P Q : Type 0) → (P → ⊥) → OnErr r P → OnErr r Q
never_full (Ok x) P Q never h = tt
never_full (Err e) P Q never h = absurd (never h)

-- the elements of a section
pub section_elements : (members : List Member) (b : List Bool) → Section members b → Spelled (SectionElements members) b
section_elements members b h =
    record { elements = section_cut members; spell = section_is_spelled members b h; bits = section_bits_of members b h }
