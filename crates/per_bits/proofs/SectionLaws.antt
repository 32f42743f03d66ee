-- Open types and sections of additions: what their bits are, and how reading them goes on.
use Rattle.std.proofs.Common.{◌≡◌, ℕ, ◌+◌, ◌-◌, ◌*◌, ◌/◌, ◌%◌, ◌^◌, ◌<◌, ◌≤◌, ◌≢◌, zero, suc, Bool, true, false, cond, nat_eq, nat_lt, nat_le, ◌&&◌, ◌||◌, List, [], ◌∷◌, ◌++◌, Option, None, Some, slice_get, length, take, drop, map, replicate, refl, ap, sym, subst, ◌∙◌, arith}
use Rattle.std.specs.Prelude.{IsTrue, is_some}
use Rattle.std.specs.List.{list_any}
use Rattle.std.proofs.lemmas.Bool.Decides.{nat_tests}
use Rattle.std.proofs.lemmas.Nat.{pow_pos}
use Rattle.std.specs.Iterator.{MakesProgress, item_count}
use Rattle.std.proofs.Math.Nat.{mod-eq_of_lt}
use Rattle.std.proofs.Math.Seq.{take-add}
use Rattle.std.proofs.lemmas.List.{length-append, length-take, length-drop, length-map, take-append-drop, append_assoc, append-nil, take_at, drop_at, drop_more, drop-drop, drop-map}
use Rattle.std.proofs.lemmas.Option.{get_or_from_slice_get, slice_get_within}
use Rattle.per_bits.specs.Bits.{digits, value_of, octet_bits, octets_of, Part, front, behind}
use Rattle.per_bits.specs.Parts.{Open, Member, Opens, Section, IsSection, open_octets, behind_open, opens_of, member_count, members_of, present_members, present_parts}
use Rattle.per_bits.proofs.Digits.{length_digits, value_digits, digits_value}
use Rattle.per_bits.proofs.Octets.{octet_bits_of, length_octets_of, are_octets_of, octets_of_bits}
use Rattle.per_bits.proofs.Places.{length_octet_bits}

-- ---- open types

pub length_of_length : (n : ℕ) → length (false ∷ digits 7 n) ≡ 8
length_of_length n = ap suc (length_digits 7 n)

pub length_of_open : (octets : List ℕ) (a : List Bool) → Open octets a → length a ≡ 8 + 8 * length octets
length_of_open octets a h =
    ap length h.bits
    ∙ length-append (false ∷ digits 7 (length octets)) (octet_bits octets)
    ∙ omega (arith, length_of_length (length octets), length_octet_bits octets)

-- an open type with what follows it, cut behind its length
open_cut : (octets : List ℕ) (a rest : List Bool) → Open octets a → a ++ rest ≡ (false ∷ digits 7 (length octets)) ++ (octet_bits octets ++ rest)
open_cut octets a rest h = ap (λ l. l ++ rest) h.bits ∙ append_assoc (false ∷ digits 7 (length octets)) (octet_bits octets) rest

pub number_of_open : (octets : List ℕ) (a rest : List Bool) → Open octets a → value_of (take 8 (a ++ rest)) ≡ length octets
number_of_open octets a rest h =
    let few : length octets < 2 ^ 7 = omega (arith, h.few) in
    ap (λ l. value_of (take 8 l)) (open_cut octets a rest h)
    ∙ ap value_of (take_at (false ∷ digits 7 (length octets)) (octet_bits octets ++ rest) 8 (length_of_length (length octets)))
    ∙ value_digits 7 (length octets)
    ∙ mod-eq_of_lt few

pub content_of_open : (octets : List ℕ) (a rest : List Bool) → Open octets a → take (8 * length octets) (drop 8 (a ++ rest)) ≡ octet_bits octets
content_of_open octets a rest h =
    ap (λ l. take (8 * length octets) (drop 8 l)) (open_cut octets a rest h)
    ∙ ap (take (8 * length octets)) (drop_at (false ∷ digits 7 (length octets)) (octet_bits octets ++ rest) 8 (length_of_length (length octets)))
    ∙ take_at (octet_bits octets) rest (8 * length octets) (length_octet_bits octets)

pub rest_of_open : (octets : List ℕ) (a rest : List Bool) → Open octets a → drop (8 + 8 * length octets) (a ++ rest) ≡ rest
rest_of_open octets a rest h = drop_at a rest (8 + 8 * length octets) (length_of_open octets a h)

-- eight bits that read at most 127 are a length
pub length_read : (bits : List Bool) (n : ℕ) → 8 ≤ length bits → n ≡ value_of (take 8 bits) → n ≤ 127 → take 8 bits ≡ false ∷ digits 7 n
unfolding digits
length_read bits n long e few =
    let eight : length (take 8 bits) ≡ 8 = length-take 8 bits ∙ omega arith in
    let high : n / 2 ^ 7 % 2 ≡ 0 = omega arith in
    sym (ap (digits 8) e ∙ ap (λ w. digits w (value_of (take 8 bits))) (sym eight) ∙ digits_value (take 8 bits))
    ∙ ap (λ x. nat_eq x 1 ∷ digits 7 n) high

-- the open type that stands in front of the bits
pub open_in_front : (bits : List Bool) (n : ℕ) → n ≡ value_of (take 8 bits) → 1 ≤ n → n ≤ 127 → 8 + 8 * n ≤ length bits → Open (octets_of (take (8 * n) (drop 8 bits))) (take (8 + 8 * n) bits)
open_in_front bits n e some few long =
    let content : length (take (8 * n) (drop 8 bits)) ≡ 8 * n = length-take (8 * n) (drop 8 bits) ∙ omega (arith, length-drop 8 bits) in
    let count : length (octets_of (take (8 * n) (drop 8 bits))) ≡ n = length_octets_of n (take (8 * n) (drop 8 bits)) content in
    record {
      some = omega arith;
      few = omega arith;
      each = are_octets_of n (take (8 * n) (drop 8 bits)) content;
      bits =
          take-add 8 (8 * n) bits
          ∙ ap (λ l. l ++ take (8 * n) (drop 8 bits)) (length_read bits n (omega arith) e few)
          ∙ ap (λ k. (false ∷ digits 7 k) ++ take (8 * n) (drop 8 bits)) (sym count)
          ∙ ap (λ l. (false ∷ digits 7 (length (octets_of (take (8 * n) (drop 8 bits))))) ++ l) (sym (octet_bits_of n (take (8 * n) (drop 8 bits)) content));
    }

-- ---- the open types that presence bits promise

-- Presence bits, read as open types in front of the bits: what stands behind them, if they are there.
abbrev pub open_size : List Bool → ℕ
open_size bits = 8 + 8 * value_of (take 8 bits)

abbrev pub open_stands : List Bool → Bool
open_stands bits = nat_le 8 (length bits) && nat_lt 0 (value_of (take 8 bits)) && nat_lt (value_of (take 8 bits)) 128 && nat_le (open_size bits) (length bits)

abbrev pub rest_behind : List Bool → List Bool → Option (List Bool)
rest_behind [] bits = Some bits
rest_behind (false ∷ present) bits = rest_behind present bits
rest_behind (true ∷ present) bits = cond (open_stands bits) (rest_behind present (drop (open_size bits) bits)) None

-- what an open type in front says of the test
pub open_tested : (octets : List ℕ) (a rest : List Bool) → Open octets a → open_stands (a ++ rest) ≡ true
open_tested octets a rest h =
    let n : value_of (take 8 (a ++ rest)) ≡ length octets = number_of_open octets a rest h in
    let long : length (a ++ rest) ≡ 8 + 8 * length octets + length rest = length-append a rest ∙ omega (arith, length_of_open octets a h) in
    let some : 1 ≤ length octets = h.some in
    let few : length octets ≤ 127 = h.few in
    grind (arith, nat_tests)

pub open_passed : (octets : List ℕ) (a rest present : List Bool) → Open octets a → rest_behind (true ∷ present) (a ++ rest) ≡ rest_behind present rest
open_passed octets a rest present h =
    ap (λ b. cond b (rest_behind present (drop (open_size (a ++ rest)) (a ++ rest))) None) (open_tested octets a rest h)
    ∙ ap (λ n. rest_behind present (drop (8 + 8 * n) (a ++ rest))) (number_of_open octets a rest h)
    ∙ ap (rest_behind present) (rest_of_open octets a rest h)

-- the open types of members stand behind their presence bits
pub opens_passed : (members : List Member) (b rest : List Bool) → Opens members b → rest_behind (map is_some members) (b ++ rest) ≡ Some rest
opens_passed [] b rest h = ap (λ l. Some (l ++ rest)) h
opens_passed (None ∷ members) b rest h = opens_passed members b rest h
opens_passed (Some octets ∷ members) b rest (a, c, spelled, more, e) =
    ap (λ l. rest_behind (true ∷ map is_some members) (l ++ rest)) e
    ∙ ap (λ l. rest_behind (true ∷ map is_some members) l) (append_assoc a c rest)
    ∙ open_passed octets a (c ++ rest) (map is_some members) spelled
    ∙ opens_passed members c rest more

-- the test, split into what it says
tested_open : (bits : List Bool) → open_stands bits ≡ true → (1 ≤ value_of (take 8 bits)) × (value_of (take 8 bits) ≤ 127) × (open_size bits ≤ length bits)
tested_open bits h = grind (arith, nat_tests)

cond_is_some : {X : Type 0} (b : Bool) (x : Option X) (y : X) → cond b x None ≡ Some y → (b ≡ true) × (x ≡ Some y)
cond_is_some true x y e = (refl, e)
cond_is_some false x y e = absurd (cc)

-- and what stands there comes from members
pub members_from : (present bits rest : List Bool) → rest_behind present bits ≡ Some rest → (members : List Member) × (map is_some members ≡ present) × ((b : List Bool) × Opens members b × (bits ≡ b ++ rest))
members_from [] bits rest e = ([], refl, ([], refl, cc))
members_from (false ∷ present) bits rest e =
    let more = members_from present bits rest e in
    (None ∷ more.0, ap (λ l. false ∷ l) more.1, more.2)
members_from (true ∷ present) bits rest e =
    let stands = cond_is_some (open_stands bits) (rest_behind present (drop (open_size bits) bits)) rest e in
    let fits = tested_open bits stands.0 in
    let more = members_from present (drop (open_size bits) bits) rest stands.1 in (
      Some (octets_of (take (8 * value_of (take 8 bits)) (drop 8 bits))) ∷ more.0,
      ap (λ l. true ∷ l) more.1,
      (
        take (open_size bits) bits ++ more.2.0,
        (take (open_size bits) bits, more.2.0, open_in_front bits (value_of (take 8 bits)) refl fits.0 fits.1 fits.2, more.2.1, refl),
        sym (take-append-drop (open_size bits) bits) ∙ ap (λ l. take (open_size bits) bits ++ l) more.2.2 ∙ sym (append_assoc (take (open_size bits) bits) more.2.0 rest),
      ),
    )

-- ---- sections

some_set : (present : List Bool) → value_of present ≢ 0 → IsTrue (list_any (λ b. b) present)
some_set [] h = absurd (h refl)
some_set (true ∷ present) h = refl
some_set (false ∷ present) h = some_set present h

set_some : (present : List Bool) → IsTrue (list_any (λ b. b) present) → value_of present ≢ 0
set_some [] h = cc
set_some (true ∷ present) h = λ e. absurd (omega (arith, pow_pos (length present)))
set_some (false ∷ present) h = set_some present h

any_of_map : (members : List Member) → list_any (λ b. b) (map is_some members) ≡ list_any is_some members
any_of_map [] = refl
any_of_map (m ∷ members) = ap (λ b. is_some m || b) (any_of_map members)

-- what a section's bits are, by place
pub record SectionParts (members : List Member) (bits : List Bool) : Type 0 where
  pub long : 7 + length members ≤ length bits
  pub count : value_of (take 7 bits) + 1 ≡ length members
  pub present : take (length members) (drop 7 bits) ≡ map is_some members
  pub some : value_of (take (length members) (drop 7 bits)) ≢ 0
  pub opens : Opens members (drop (7 + length members) bits)

pub section_parts : (members : List Member) (bits : List Bool) → Section members bits → SectionParts members bits
section_parts members bits h =
    let few : length members - 1 < 2 ^ 6 = omega (arith, h.few) in
    let seven : length h.spelled.0 ≡ 7 = ap length h.spelled.2.1 ∙ ap suc (length_digits 6 (length members - 1)) in
    let flat : bits ≡ h.spelled.0 ++ (map is_some members ++ h.spelled.1) = h.spelled.4 ∙ append_assoc h.spelled.0 (map is_some members) h.spelled.1 in
    let behind : drop 7 bits ≡ map is_some members ++ h.spelled.1 = ap (drop 7) flat ∙ drop_at h.spelled.0 (map is_some members ++ h.spelled.1) 7 seven in
    let set : take (length members) (drop 7 bits) ≡ map is_some members = ap (take (length members)) behind ∙ take_at (map is_some members) h.spelled.1 (length members) (length-map members is_some) in
    let rest : drop (7 + length members) bits ≡ h.spelled.1 =
    sym (drop-drop (length members) 7 bits) ∙ ap (drop (length members)) behind ∙ drop_at (map is_some members) h.spelled.1 (length members) (length-map members is_some) in
    let number : value_of (take 7 bits) ≡ length members - 1 =
    ap (λ l. value_of (take 7 l)) flat
    ∙ ap value_of (take_at h.spelled.0 (map is_some members ++ h.spelled.1) 7 seven)
    ∙ ap value_of h.spelled.2.1
    ∙ value_digits 6 (length members - 1)
    ∙ mod-eq_of_lt few in
    let P : List Bool → Type 0 = λ l. Opens members l in
    record {
      long = omega (arith, ap length flat, length-append h.spelled.0 (map is_some members ++ h.spelled.1), length-append (map is_some members) h.spelled.1, length-map members is_some);
      count = omega (arith, h.some);
      present = set;
      some = λ e. set_some (map is_some members) (any_of_map members ∙ h.present) (sym (ap value_of set) ∙ e);
      opens = subst P (sym rest) h.spelled.3;
    }

-- bits that read a number of one bit less begin with 0
zero_front : (width : ℕ) (bits : List Bool) (n : ℕ) → length bits ≡ suc width → n ≡ value_of bits → n < 2 ^ width → bits ≡ false ∷ digits width n
zero_front width [] n long e small = absurd (omega arith)
zero_front width (true ∷ bits) n long e small =
    let l : length bits ≡ width = omega arith in
    absurd (omega (arith, ap (λ k. 2 ^ k) l))
zero_front width (false ∷ bits) n long e small =
    let l : length bits ≡ width = omega arith in
    ap (λ x. false ∷ x) (sym (ap (digits width) e ∙ ap (λ w. digits w (value_of bits)) (sym l) ∙ digits_value bits))

pub section_of : (members : List Member) (bits : List Bool) → SectionParts members bits → length members ≤ 64 → Section members bits
section_of members bits h few =
    let seven : length (take 7 bits) ≡ 7 = length-take 7 bits ∙ omega (arith, h.long) in
    let number : length members - 1 ≡ value_of (take 7 bits) = omega (arith, h.count) in
    let small : length members - 1 < 2 ^ 6 = omega arith in
    record {
      some = omega (arith, h.count);
      few = few;
      present = sym (any_of_map members) ∙ some_set (map is_some members) (λ e. h.some (ap value_of h.present ∙ e));
      spelled = (
        take 7 bits,
        drop (7 + length members) bits,
        (omega arith, zero_front 6 (take 7 bits) (length members - 1) seven number small),
        h.opens,
        sym (take-append-drop 7 bits)
            ∙ ap (λ l. take 7 bits ++ l)
            (sym (take-append-drop (length members) (drop 7 bits))
            ∙ ap (λ l. l ++ drop (length members) (drop 7 bits)) h.present
            ∙ ap (λ l. map is_some members ++ l) (drop-drop (length members) 7 bits))
            ∙ sym (append_assoc (take 7 bits) (map is_some members) (drop (7 + length members) bits)),
      );
    }

-- ---- what the code finds in front

-- what stands in front of bits that begin with an open type
pub record OpenFront (bits : List Bool) : Type 0 where
  pub long : 8 ≤ length bits
  pub some : 1 ≤ value_of (take 8 bits)
  pub few : value_of (take 8 bits) ≤ 127
  pub fits : 8 + 8 * value_of (take 8 bits) ≤ length bits

pub open_front : (octets : List ℕ) (a rest bits : List Bool) → Open octets a → bits ≡ a ++ rest → OpenFront bits
open_front octets a rest bits h e =
    let n : value_of (take 8 bits) ≡ length octets = ap (λ l. value_of (take 8 l)) e ∙ number_of_open octets a rest h in
    let l : length bits ≡ 8 + 8 * length octets + length rest = ap length e ∙ length-append a rest ∙ omega (arith, length_of_open octets a h) in
    record {
      long = omega arith;
      some = omega (arith, h.some);
      few = omega (arith, h.few);
      fits = omega arith;
    }

none_stands_if : (bits : List Bool) (stands : Bool) → open_stands bits ≡ stands → ((octets : List ℕ) (a rest : List Bool) → Open octets a → bits ≡ a ++ rest → ⊥) → open_stands bits ≡ false
none_stands_if bits false e none = e
none_stands_if bits true e none =
    let fits = tested_open bits e in
    absurd (none (octets_of (take (8 * value_of (take 8 bits)) (drop 8 bits))) (take (open_size bits) bits) (drop (open_size bits) bits)
    (open_in_front bits (value_of (take 8 bits)) refl fits.0 fits.1 fits.2) (sym (take-append-drop (open_size bits) bits)))

-- where no open type stands in front, the test says so
pub none_stands : (bits : List Bool) → ((octets : List ℕ) (a rest : List Bool) → Open octets a → bits ≡ a ++ rest → ⊥) → open_stands bits ≡ false
none_stands bits none = none_stands_if bits (open_stands bits) refl none

pub bits_from : (present : List Bool) (i : ℕ) (b : Bool) → slice_get present i ≡ Some b → drop i present ≡ b ∷ drop (i + 1) present
bits_from present i b e =
    drop_more present i b (slice_get_within present i b e) ∙ ap (λ x. x ∷ drop (i + 1) present) (get_or_from_slice_get present i b b e)

-- one presence bit more, of an absent addition
pub passed_absent : (present bits : List Bool) (i : ℕ) → slice_get present i ≡ Some false → rest_behind (drop (i + 1) present) bits ≡ rest_behind (drop i present) bits
passed_absent present bits i e = ap (λ l. rest_behind l bits) (sym (bits_from present i false e))

-- and of a present one
pub passed_present : (present bits rest : List Bool) (i : ℕ) (octets : List ℕ) (a : List Bool) → slice_get present i ≡ Some true → Open octets a → bits ≡ a ++ rest
    → rest_behind (drop (i + 1) present) rest ≡ rest_behind (drop i present) bits
passed_present present bits rest i octets a e h is =
    sym (ap (λ l. rest_behind l bits) (bits_from present i true e) ∙ ap (rest_behind (true ∷ drop (i + 1) present)) is ∙ open_passed octets a rest (drop (i + 1) present) h)

-- and of one whose open type isn't there
pub passed_none : (present bits : List Bool) (i : ℕ) → slice_get present i ≡ Some true → ((octets : List ℕ) (a rest : List Bool) → Open octets a → bits ≡ a ++ rest → ⊥) → rest_behind (drop i present) bits ≡ None
passed_none present bits i e none =
    ap (λ l. rest_behind l bits) (bits_from present i true e)
    ∙ ap (λ b. cond b (rest_behind (drop (i + 1) present) (drop (open_size bits) bits)) None) (none_stands bits none)

pub section_from : (bits : List Bool) (count : ℕ) → 7 + count ≤ length bits → value_of (take 7 bits) + 1 ≡ count → count ≤ 64 → value_of (take count (drop 7 bits)) ≢ 0
    → rest_behind (take count (drop 7 bits)) (drop (7 + count) bits) ≡ Some [] → (members : List Member) × Section members bits
section_from bits count long number few some passed =
    let found = members_from (take count (drop 7 bits)) (drop (7 + count) bits) [] passed in
    let size : length found.0 ≡ count =
    sym (length-map found.0 is_some) ∙ ap length found.1 ∙ length-take count (drop 7 bits) ∙ omega (arith, length-drop 7 bits) in
    let all : found.2.0 ≡ drop (7 + count) bits = sym (found.2.2 ∙ append-nil found.2.0) in
    let P : List Bool → Type 0 = λ l. Opens found.0 l in
    let opens = subst P (all ∙ ap (λ n. drop (7 + n) bits) (sym size)) found.2.1 in (
      found.0,
      section_of found.0 bits
          (record {
            long = omega arith;
            count = omega arith;
            present = ap (λ n. take n (drop 7 bits)) size ∙ sym found.1;
            some = λ e. some (ap (λ n. value_of (take n (drop 7 bits))) (sym size) ∙ e);
            opens = opens;
          })
          (omega arith),
    )

pub section_passed : (members : List Member) (bits : List Bool) (count : ℕ) → Section members bits → value_of (take 7 bits) + 1 ≡ count → rest_behind (take count (drop 7 bits)) (drop (7 + count) bits) ≡ Some []
section_passed members bits count h number =
    let parts = section_parts members bits h in
    let size : count ≡ length members = omega (arith, parts.count) in
    ap (λ n. rest_behind (take n (drop 7 bits)) (drop (7 + n) bits)) size
    ∙ ap (λ l. rest_behind l (drop (7 + length members) bits)) parts.present
    ∙ ap (rest_behind (map is_some members)) (sym (append-nil (drop (7 + length members) bits)))
    ∙ opens_passed members (drop (7 + length members) bits) [] parts.opens

-- ---- the iterator

-- The octets of the open types that presence bits promise in front of p, with their indices from i on: behind
-- eight bits of length as many octets as these read.
abbrev pub open_parts : ℕ → List Bool → Part → List (ℕ × Part)
open_parts i [] p = []
open_parts i (false ∷ present) p = open_parts (i + 1) present p
open_parts i (true ∷ present) p = (i, front (behind p 8) (8 * value_of (take 8 p.bits))) ∷ open_parts (i + 1) present (behind p (8 + 8 * value_of (take 8 p.bits)))

pub parts_skip : (n i : ℕ) (present : List Bool) (p : Part) → take n present ≡ replicate n false → open_parts i present p ≡ open_parts (i + n) (drop n present) p
parts_skip zero i present p e = ap (λ k. open_parts k present p) (omega arith)
parts_skip (suc n) i [] p e = refl
parts_skip (suc n) i (false ∷ present) p e =
    let more : take n present ≡ replicate n false = cc in
    parts_skip n (i + 1) present p more ∙ ap (λ k. open_parts k (drop n present) p) (omega arith)
parts_skip (suc n) i (true ∷ present) p e = absurd (cc)

-- absent members have no open types
pub members_skip : (n : ℕ) (members : List Member) (bits : List Bool) → take n (map is_some members) ≡ replicate n false → Opens members bits → Opens (drop n members) bits
members_skip zero members bits e h = h
members_skip (suc n) [] bits e h = h
members_skip (suc n) (None ∷ members) bits e h =
    let more : take n (map is_some members) ≡ replicate n false = cc in
    members_skip n members bits more h
members_skip (suc n) (Some octets ∷ members) bits e h = absurd (cc)

-- what a present member behind n absent ones says of the bits
pub record PresentFront (present bits : List Bool) : Type 0 where
  pub here : OpenFront bits
  pub others : (members : List Member) × (map is_some members ≡ present) × Opens members (drop (8 + 8 * value_of (take 8 bits)) bits)

present_first : (members : List Member) (present bits : List Bool) → map is_some members ≡ true ∷ present → Opens members bits → PresentFront present bits
present_first [] present bits e h = absurd (cc)
present_first (None ∷ members) present bits e h = absurd (cc)
present_first (Some octets ∷ members) present bits e (a, c, spelled, more, is) =
    let n : value_of (take 8 bits) ≡ length octets = ap (λ l. value_of (take 8 l)) is ∙ number_of_open octets a c spelled in
    let rest : c ≡ drop (8 + 8 * value_of (take 8 bits)) bits =
    sym (ap (λ k. drop (8 + 8 * k) bits) n ∙ ap (drop (8 + 8 * length octets)) is ∙ rest_of_open octets a c spelled) in
    let P : List Bool → Type 0 = λ l. Opens members l in
    let same : map is_some members ≡ present = cc in
    record {
      here = open_front octets a c bits spelled is;
      others = (members, same, subst P rest more);
    }

pub present_front : (n : ℕ) (members : List Member) (present bits : List Bool) → map is_some members ≡ present → Opens members bits → take n present ≡ replicate n false → slice_get present n ≡ Some true
    → PresentFront (drop (n + 1) present) bits
present_front n members present bits e h absent found =
    present_first (drop n members) (drop (n + 1) present) bits
    (sym (drop-map is_some n members) ∙ ap (drop n) e ∙ bits_from present n true found)
    (members_skip n members bits (ap (take n) e ∙ absent) h)

abbrev at_place : List Bool → ℕ → List Bool → Part
at_place all start bits = record { all = all; start = start; bits = bits }

-- what the iterator gives are the members' octets in their places
pub parts_are : (members : List Member) (i : ℕ) (p : Part) (bits : List Bool) → p.bits ≡ bits → Opens members bits → open_parts i (map is_some members) p ≡ present_parts p.all i p.start members
parts_are [] i p bits e h = refl
parts_are (None ∷ members) i p bits e h = parts_are members (i + 1) p bits e h
parts_are (Some octets ∷ members) i p bits e (a, c, spelled, more, is) =
    let all : p.bits ≡ a ++ c = e ∙ is in
    let n : value_of (take 8 p.bits) ≡ length octets = ap (λ l. value_of (take 8 l)) all ∙ number_of_open octets a c spelled in
    let content : take (8 * value_of (take 8 p.bits)) (drop 8 p.bits) ≡ octet_bits octets =
    ap (λ k. take (8 * k) (drop 8 p.bits)) n ∙ ap (λ l. take (8 * length octets) (drop 8 l)) all ∙ content_of_open octets a c spelled in
    let rest : drop (8 + 8 * value_of (take 8 p.bits)) p.bits ≡ c =
    ap (λ k. drop (8 + 8 * k) p.bits) n ∙ ap (drop (8 + 8 * length octets)) all ∙ rest_of_open octets a c spelled in
    ap (λ l. (i, at_place p.all (p.start + 8) l) ∷ open_parts (i + 1) (map is_some members) (behind p (8 + 8 * value_of (take 8 p.bits)))) content
    ∙ ap (λ l. (i, at_place p.all (p.start + 8) (octet_bits octets)) ∷ l)
    (parts_are members (i + 1) (behind p (8 + 8 * value_of (take 8 p.bits))) c rest more
    ∙ ap (λ k. present_parts p.all (i + 1) (p.start + (8 + 8 * k)) members) n)

-- the next of them stands behind n absent ones
pub next_part : (i n : ℕ) (present : List Bool) (p : Part) → take n present ≡ replicate n false → slice_get present n ≡ Some true
    → open_parts i present p ≡ (i + n, front (behind p 8) (8 * value_of (take 8 p.bits))) ∷ open_parts (i + n + 1) (drop (n + 1) present) (behind p (8 + 8 * value_of (take 8 p.bits)))
next_part i n present p absent found = parts_skip n i present p absent ∙ ap (λ l. open_parts (i + n) l p) (bits_from present n true found)

-- a list of parts that gave its first one has fewer left
pub goes : (can : List (ℕ × Part) → Type 0) → ((l : List (ℕ × Part)) → can l) → (s t : List (ℕ × Part)) (x : ℕ × Part) → s ≡ x ∷ t → MakesProgress can (item_count (λ rest. rest)) s (Some x) t
goes can always s t x e = record {
  on = λ _. (always t, tt, subst (λ l. length t < length l) (sym e) (omega arith));
  keeps = always t;
  rests = λ _. tt;
}

-- ---- reading inverts spelling

pub open_read : (octets : List ℕ) (a rest : List Bool) → Open octets a → open_octets (a ++ rest) ≡ octets
open_read octets a rest h =
    ap (λ n. octets_of (take (8 * n) (drop 8 (a ++ rest)))) (number_of_open octets a rest h)
    ∙ ap octets_of (content_of_open octets a rest h)
    ∙ octets_of_bits octets h.each

pub open_left : (octets : List ℕ) (a rest : List Bool) → Open octets a → behind_open (a ++ rest) ≡ rest
open_left octets a rest h =
    ap (λ n. drop (8 + 8 * n) (a ++ rest)) (number_of_open octets a rest h) ∙ rest_of_open octets a rest h

pub opens_read : (members : List Member) (b : List Bool) → Opens members b → opens_of (map is_some members) b ≡ members
opens_read [] b h = refl
opens_read (None ∷ members) b h = ap (λ ms. None ∷ ms) (opens_read members b h)
opens_read (Some octets ∷ members) b (a, c, spelled, more, e) =
    ap (λ l. Some (open_octets l) ∷ opens_of (map is_some members) (behind_open l)) e
    ∙ ap (λ os. Some os ∷ opens_of (map is_some members) (behind_open (a ++ c))) (open_read octets a c spelled)
    ∙ ap (λ l. Some octets ∷ opens_of (map is_some members) l) (open_left octets a c spelled)
    ∙ ap (λ ms. Some octets ∷ ms) (opens_read members c more)

pub members_read : (members : List Member) (b : List Bool) → Section members b → members_of b ≡ members
unfolding members_of
members_read members b h =
    let parts = section_parts members b h in
    ap (λ n. opens_of (take n (drop 7 b)) (drop (7 + n) b)) parts.count
    ∙ ap (λ l. opens_of l (drop (7 + length members) b)) parts.present
    ∙ opens_read members (drop (7 + length members) b) parts.opens

-- a section is one of the members that are read
pub section_read : (b : List Bool) → IsSection b → Section (members_of b) b
section_read b s =
    let P : List Member → Type 0 = λ ms. Section ms b in
    subst P (sym (members_read s.0 b s.1)) s.1

-- the open types that are read are those that the presence bits promise
pub view_same : (members : List Member) (present : List Bool) (i : ℕ) (p : Part) → map is_some members ≡ present → Opens members p.bits → present_parts p.all i p.start (opens_of present p.bits) ≡ open_parts i present p
view_same members present i p e h =
    ap (λ l. present_parts p.all i p.start (opens_of l p.bits)) (sym e)
    ∙ ap (present_parts p.all i p.start) (opens_read members p.bits h)
    ∙ sym (parts_are members i p p.bits refl h)
    ∙ ap (λ l. open_parts i l p) e

-- what the iterator of a section begins with
pub iterated : (q present rest : Part) → present.bits ≡ take (member_count q.bits) (drop 7 q.bits) → rest ≡ behind q (7 + member_count q.bits)
    → present_parts rest.all 0 rest.start (opens_of present.bits rest.bits) ≡ present_parts q.all 0 (q.start + (7 + member_count q.bits)) (members_of q.bits)
unfolding members_of
iterated q present rest e f =
    ap (λ (r : Part). present_parts r.all 0 r.start (opens_of present.bits r.bits)) f
    ∙ ap (λ l. present_parts q.all 0 (q.start + (7 + member_count q.bits)) (opens_of l (drop (7 + member_count q.bits) q.bits))) e

-- the octets of the parts
pub octets_read : (all : List Bool) (i at : ℕ) (members : List Member) (b : List Bool) → Opens members b → map (λ (x : ℕ × Part). (x.0, octets_of x.1.bits)) (present_parts all i at members) ≡ present_members i members
octets_read all i at [] b h = refl
octets_read all i at (None ∷ members) b h = octets_read all (i + 1) at members b h
octets_read all i at (Some octets ∷ members) b (a, c, spelled, more, e) =
    ap (λ os. (i, os) ∷ map (λ (x : ℕ × Part). (x.0, octets_of x.1.bits)) (present_parts all (i + 1) (at + (8 + 8 * length octets)) members)) (octets_of_bits octets spelled.each)
    ∙ ap (λ l. (i, octets) ∷ l) (octets_read all (i + 1) (at + (8 + 8 * length octets)) members c more)
