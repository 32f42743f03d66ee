-- The reading of a list of octets is what they show, or where they stop.
use Rattle.std.proofs.Common.{◌≡◌, ℕ, zero, suc, ◌+◌, ◌-◌, ◌*◌, ◌/◌, ◌<◌, ◌≤◌, Bool, true, false, List, [], ◌∷◌, ◌++◌, length, take, drop, replicate, Option, Some, None, Result, Ok, Err, refl, sym, ap, subst, ◌∙◌, arith, append_assoc, append-nil, ◌⊎◌, inl, inr}
use Rattle.std.specs.Prelude.{◌==◌, ◌||◌, nat_lt, min, ◌↔◌, MatchResult}
use Rattle.std.proofs.lemmas.Bool.Decides.{nat_tests}
use Rattle.std.proofs.lemmas.Bool.{cases_lt}
use Rattle.std.proofs.lemmas.Grind.{flat_map-append}
use Rattle.std.proofs.lemmas.Result.{err_from_is_err_and}
use Rattle.std.specs.Result.{IsErrAnd, IfErr}
use Rattle.std.proofs.lemmas.List.{length-append, length-take, length-replicate, take_at, drop_at, take-append-drop}
use Rattle.per_bits.specs.Bits.{Part, octet_bits, octets_of, padding, padded, all_bits, behind}
use Rattle.per_bits.specs.Parts.{AreOctets}
use Rattle.per_bits.specs.declared.refusals.Refusal.{Refusal}
use Rattle.per_bits.specs.declared.refusals.Reason.TheVariants.{Size}
use Rattle.per_bits.proofs.Octets.{octet_bits_of, length_octets_of, octets_of_bits}
use Rattle.per_bits.proofs.Places.{length_octet_bits, take_octets}
use Rattle.per_types.specs.Kinds.{Element, bits_of, width}
use Rattle.per_types.specs.Types.{Tree}
use Rattle.per_types.specs.Spelling.{Spells, Canonical}
use Rattle.per_types.specs.Stops.{Read, Takes, element_at}
use Rattle.per_types.specs.Reading.{format_at}
use Rattle.per_types.proofs.Canonicals.{canonical_spells, one_canonical}
use Rattle.msd_codec.specs.Formats.{module_of, SetElements}
use Rattle.msd_codec.specs.Sets.{HasSize, Shows, ShowsTree, StopsAtPadding, StopsAtAppended, StopsAt, at_size, at_element, at_padding, at_appended, AreCanonical}
use Rattle.msd_codec.specs.Reading.{rest_fault, pad_fault, appended_fault, pad_count, unless, set_at, finished, reading_of}
use Rattle.msd_values.specs.declared.msd.Msd.{Msd}
use Rattle.msd_values.specs.Description.{description}
use Rattle.msd_codec.specs.Places.{MessageEnds, StandInPlace}
use Rattle.msd_codec.specs.Trees.{tree}
use Rattle.msd_codec.proofs.Values.{set_of}
use Rattle.msd_codec.proofs.Alike.{AreAlike, are_alike, described}
use Rattle.msd_codec.proofs.Steps.{ok_same, set_err}
use Rattle.msd_codec.proofs.BothFormats.{only_set}
use Rattle.msd_codec.proofs.Rest.{pads_whole, pads_zero, pads_at, all_zero, FirstOne, first_one, appended_zero, appended_at, all_appended_zero, FirstSome, first_some, padding_refusal, appended_refusal}

-- ---- the reading of octets

-- a reading's answer is the value that the octets show, or where they stop
abbrev pub IsAnswer : List ℕ → Result Tree Refusal → Type 0
IsAnswer octets (Ok v) = ShowsTree octets v
IsAnswer octets (Err refusal) = StopsAt octets refusal

-- ---- a spelling in octets, and what follows it

-- where the padded spelling ends, in bits and in octets
abbrev end_of : List Bool → ℕ
end_of b = length b + pad_count (length b)

padding_long : (n : ℕ) → length (padding n) ≡ pad_count n
padding_long n = length-replicate (pad_count n) false

with_padding_long : (b : List Bool) → length (b ++ padding (length b)) ≡ 8 * (end_of b / 8)
with_padding_long b = length-append b (padding (length b)) ∙ ap (λ n. length b + n) (padding_long (length b)) ∙ pads_whole (length b)

padded_bits : (b : List Bool) → octet_bits (padded b) ≡ b ++ padding (length b)
padded_bits b = octet_bits_of (end_of b / 8) (b ++ padding (length b)) (with_padding_long b)

padded_long : (b : List Bool) → length (padded b) ≡ end_of b / 8
padded_long b = length_octets_of (end_of b / 8) (b ++ padding (length b)) (with_padding_long b)

-- the bits that pad
abbrev pads : List ℕ → List Bool → List Bool
pads octets b = take (pad_count (length b)) (drop (length b) (octet_bits octets))

-- the octets behind the padded spelling
abbrev others : List ℕ → List Bool → List ℕ
others octets b = drop (end_of b / 8) octets

rest_pads : (octets : List ℕ) (b : List Bool) (refusal : Refusal) → pad_fault (length b) (pads octets b) ≡ Some refusal → rest_fault octets (length b) ≡ Some refusal
rest_pads octets b refusal e = ap (λ o. elim o as (λ _. Option Refusal) [ Some r ↦ Some r | None ↦ appended_fault (end_of b) (others octets b) ]) e

rest_others : (octets : List ℕ) (b : List Bool) → pad_fault (length b) (pads octets b) ≡ None → rest_fault octets (length b) ≡ appended_fault (end_of b) (others octets b)
rest_others octets b e = ap (λ o. elim o as (λ _. Option Refusal) [ Some r ↦ Some r | None ↦ appended_fault (end_of b) (others octets b) ]) e

begins : (octets : List ℕ) (b rest : List Bool) → octet_bits octets ≡ b ++ rest → drop (length b) (octet_bits octets) ≡ rest
begins octets b rest e = ap (drop (length b)) e ∙ drop_at b rest (length b) refl

fits : (octets : List ℕ) (b rest : List Bool) → octet_bits octets ≡ b ++ rest → pad_count (length b) ≤ length rest
fits octets b rest e =
    let long : 8 * length octets ≡ length b + length rest = sym (length_octet_bits octets) ∙ ap length e ∙ length-append b rest in
    omega arith

pads_long : (octets : List ℕ) (b rest : List Bool) → octet_bits octets ≡ b ++ rest → length (pads octets b) ≡ pad_count (length b)
pads_long octets b rest e =
    ap (λ (l : List Bool). length (take (pad_count (length b)) l)) (begins octets b rest e) ∙ length-take (pad_count (length b)) rest ∙ omega (arith, fits octets b rest e)

few_octets : (n : ℕ) (os : List ℕ) → AreOctets os → AreOctets (take n os)
few_octets zero os h = tt
few_octets (suc n) [] h = tt
few_octets (suc n) (o ∷ os) h = (h.0, few_octets n os h.1)

take_past : {X : Type 0} (a b : List X) (n : ℕ) → take (length a + n) (a ++ b) ≡ a ++ take n b
take_past [] b n = ap (λ k. take k b) (let none : 0 + n ≡ n = omega arith in none)
take_past {X} (x ∷ a) b n = ap (λ k. take k (x ∷ (a ++ b))) (let next : suc (length a) + n ≡ suc (length a + n) = omega arith in next) ∙ ap (λ (k : List X). x ∷ k) (take_past a b n)

-- where only zero bits pad, the octets are the padded spelling and others
are_padded : (octets : List ℕ) (b rest : List Bool) → AreOctets octets → octet_bits octets ≡ b ++ rest → pad_fault (length b) (pads octets b) ≡ None → octets ≡ padded b ++ others octets b
are_padded octets b rest small e none =
    let zero_bits : pads octets b ≡ padding (length b) = all_zero (pads octets b) (length b) none ∙ ap (λ n. replicate n false) (pads_long octets b rest e) in
    let front : take (8 * (end_of b / 8)) (octet_bits octets) ≡ b ++ padding (length b) =
    ap (λ n. take n (octet_bits octets)) (sym (pads_whole (length b)))
    ∙ ap (take (end_of b)) e
    ∙ take_past b rest (pad_count (length b))
    ∙ ap (λ (l : List Bool). b ++ l) (ap (take (pad_count (length b))) (sym (begins octets b rest e)) ∙ zero_bits) in
    let first : take (end_of b / 8) octets ≡ padded b =
    sym (octets_of_bits (take (end_of b / 8) octets) (few_octets (end_of b / 8) octets small)) ∙ ap octets_of (sym (take_octets (end_of b / 8) octets) ∙ front) in
    sym (take-append-drop (end_of b / 8) octets) ∙ ap (λ (l : List ℕ). l ++ others octets b) first

-- ---- what is answered is so

shown : (octets : List ℕ) (v : Tree) (es : List Element) (rest : List Bool) → AreOctets octets → HasSize octets → SetElements v es → octet_bits octets ≡ bits_of es ++ rest
    → pad_fault (length (bits_of es)) (pads octets (bits_of es)) ≡ None → appended_fault (end_of (bits_of es)) (others octets (bits_of es)) ≡ None → ShowsTree octets v
shown octets v es rest small size spelled e none no_others = record {
  size = size;
  spelling = bits_of es;
  spells = (es, spelled, refl);
  appended = length (others octets (bits_of es));
  made = are_padded octets (bits_of es) rest small e none ∙ ap (λ (l : List ℕ). padded (bits_of es) ++ l) (all_appended_zero (others octets (bits_of es)) (end_of (bits_of es)) no_others);
}

padding_stops : (octets : List ℕ) (v : Tree) (es : List Element) (rest : List Bool) (refusal : Refusal) → HasSize octets → SetElements v es → octet_bits octets ≡ bits_of es ++ rest
    → FirstOne (pads octets (bits_of es)) (length (bits_of es)) refusal → StopsAtPadding octets refusal
padding_stops octets v es rest refusal size spelled e f =
    let b = bits_of es in
    let here : pads octets b ≡ take (pad_count (length b)) rest = ap (take (pad_count (length b))) (begins octets b rest e) in
    let split : rest ≡ (replicate f.zeros false ++ true ∷ f.rest) ++ drop (pad_count (length b)) rest =
    sym (take-append-drop (pad_count (length b)) rest) ∙ ap (λ (l : List Bool). l ++ drop (pad_count (length b)) rest) (sym here ∙ f.bits_are) in
    let more : rest ≡ replicate f.zeros false ++ true ∷ (f.rest ++ drop (pad_count (length b)) rest) =
    split ∙ append_assoc (replicate f.zeros false) (true ∷ f.rest) (drop (pad_count (length b)) rest) in
    let long : pad_count (length b) ≡ f.zeros + suc (length f.rest) =
    sym (pads_long octets b rest e) ∙ ap length f.bits_are ∙ length-append (replicate f.zeros false) (true ∷ f.rest) ∙ ap (λ n. n + suc (length f.rest)) (length-replicate f.zeros false) in
    record {
      size = size;
      value = v;
      spelling = b;
      spells = (es, spelled, refl);
      zeros = f.zeros;
      pads = omega (arith, long, padding_long (length b));
      rest = f.rest ++ drop (pad_count (length b)) rest;
      bits = e ∙ ap (λ (l : List Bool). b ++ l) more ∙ sym (append_assoc b (replicate f.zeros false) (true ∷ (f.rest ++ drop (pad_count (length b)) rest)));
      refused = f.refused;
    }

appended_stops : (octets : List ℕ) (v : Tree) (es : List Element) (rest : List Bool) (refusal : Refusal) → AreOctets octets → HasSize octets → SetElements v es → octet_bits octets ≡ bits_of es ++ rest
    → pad_fault (length (bits_of es)) (pads octets (bits_of es)) ≡ None → FirstSome (others octets (bits_of es)) (end_of (bits_of es)) refusal → StopsAtAppended octets refusal
appended_stops octets v es rest refusal small size spelled e none f =
    let b = bits_of es in
    let place : end_of b + 8 * f.zeros ≡ 8 * (length (padded b) + f.zeros) = omega (arith, pads_whole (length b), padded_long b) in
    record {
      size = size;
      value = v;
      spelling = b;
      spells = (es, spelled, refl);
      zeros = f.zeros;
      octet = f.octet;
      rest = f.rest;
      made = are_padded octets b rest small e none ∙ ap (λ (l : List ℕ). padded b ++ l) f.octets_are ∙ sym (append_assoc (padded b) (replicate f.zeros 0) (f.octet ∷ f.rest));
      some = f.some;
      refused = f.refused ∙ ap (λ n. appended_refusal n f.octet) place;
    }

-- behind a spelling
after : (octets : List ℕ) (v : Tree) (es : List Element) (rest : List Bool) → AreOctets octets → HasSize octets → SetElements v es → octet_bits octets ≡ bits_of es ++ rest → IsAnswer octets (unless (rest_fault octets (length (bits_of es))) v)
after octets v es rest small size spelled e =
    let b = bits_of es in
    let answered : Option Refusal → Type 0 = λ o. IsAnswer octets (unless o v) in
    elim (pad_fault (length b) (pads octets b)) as (λ o. pad_fault (length b) (pads octets b) ≡ o → answered (rest_fault octets (length b))) [
      | Some refusal ↦ λ f. subst answered (sym (rest_pads octets b refusal f)) (at_padding (padding_stops octets v es rest refusal size spelled e (first_one (pads octets b) (length b) refusal f)))
      | None ↦ λ f. subst answered (sym (rest_others octets b f))
          (elim (appended_fault (end_of b) (others octets b)) as (λ o. appended_fault (end_of b) (others octets b) ≡ o → answered o) [
            | Some refusal ↦ λ g. at_appended (appended_stops octets v es rest refusal small size spelled e f (first_some (others octets b) (end_of b) refusal g))
            | None ↦ λ g. shown octets v es rest small size spelled e f g
          ] refl)
    ] refl

finished_is : (octets : List ℕ) → AreOctets octets → HasSize octets → (r : Read Tree) → r ≡ set_at (all_bits octets) → IsAnswer octets (finished octets r)
finished_is octets small size (Ok x) e =
    let takes = (only_set (all_bits octets) (Ok x)).0 e in
    let there : length (bits_of takes.0) ≡ x.1.start = sym (ap (λ (p : Part). p.start) takes.3 ∙ (let none : 0 + length (bits_of takes.0) ≡ length (bits_of takes.0) = omega arith in none)) in
    subst (λ n. IsAnswer octets (unless (rest_fault octets n) x.0)) there (after octets x.0 takes.0 x.1.bits small size takes.1 takes.2)
finished_is octets small size (Err d) e =
    at_element (record { size = size; left = d.1; stops = (only_set (all_bits octets) (Err d)).0 e })

-- ---- the size

abbrev pub has_no_size : List ℕ → Bool
has_no_size octets = (length octets == 0) || nat_lt 140 (length octets)

size_known : (n : ℕ) → ((1 ≤ n) × (n ≤ 140)) ⊎ ((n ≡ 0) ⊎ (140 < n))
size_known zero = inr (inl refl)
size_known (suc n) = elim (cases_lt 140 (suc n)) [ inl h ↦ inr (inr h) | inr h ↦ inl (omega arith, h) ]

sized : (n : ℕ) → 1 ≤ n → n ≤ 140 → ((n == 0) || nat_lt 140 n) ≡ false
sized n a b = grind (arith, nat_tests)

unsized : (n : ℕ) → (n ≡ 0) ⊎ (140 < n) → ((n == 0) || nat_lt 140 n) ≡ true
unsized n (inl e) = grind (arith, nat_tests)
unsized n (inr h) = grind (arith, nat_tests)

pub read_sized : (octets : List ℕ) → HasSize octets → reading_of octets ≡ finished octets (set_at (all_bits octets))
unfolding reading_of
read_sized octets size = rw (sized (length octets) size.0 size.1) refl

pub read_unsized : (octets : List ℕ) → (length octets ≡ 0) ⊎ (140 < length octets) → reading_of octets ≡ Err (record { place = 0; reason = Size; value = min 141 (length octets) })
unfolding reading_of
read_unsized octets h = rw (unsized (length octets) h) refl

pub reading_is : (octets : List ℕ) → AreOctets octets → IsAnswer octets (reading_of octets)
reading_is octets small =
    elim (size_known (length octets)) [
      | inl size ↦ subst (IsAnswer octets) (sym (read_sized octets size)) (finished_is octets small size (set_at (all_bits octets)) refl)
      | inr h ↦ subst (IsAnswer octets) (sym (read_unsized octets h)) (at_size (record { size = h; refused = refl }))
    ]

-- ---- and nothing else is so

-- octets that begin with a spelling are read as it and what follows
pub read_spelled : (octets : List ℕ) (v : Tree) (b rest : List Bool) → HasSize octets → Spells (module_of v) v b → octet_bits octets ≡ b ++ rest → reading_of octets ≡ unless (rest_fault octets (length b)) v
read_spelled octets v b rest size spells e =
    let es = spells.0 in
    let behind_it : drop (length (bits_of es)) (octet_bits octets) ≡ rest = ap (λ (l : List Bool). drop (length l) (octet_bits octets)) (sym spells.2) ∙ begins octets b rest e in
    let takes : Takes (SetElements) (all_bits octets) v (behind (all_bits octets) (length (bits_of es))) =
    (es, spells.1, e ∙ ap (λ (l : List Bool). l ++ rest) spells.2 ∙ ap (λ (l : List Bool). bits_of es ++ l) (sym behind_it), refl) in
    let none : 0 + length (bits_of es) ≡ length b = omega (arith, ap length spells.2) in
    read_sized octets size
    ∙ ap (finished octets) (sym ((only_set (all_bits octets) (Ok (v, behind (all_bits octets) (length (bits_of es))))).1 takes))
    ∙ ap (λ n. unless (rest_fault octets n) v) none

octet_bits_append : (a b : List ℕ) → octet_bits (a ++ b) ≡ octet_bits a ++ octet_bits b
octet_bits_append a b = flat_map-append _ a b

-- padded octets and others
record Padded (octets : List ℕ) (b : List Bool) (more : List ℕ) : Type 0 where
  bits : octet_bits octets ≡ b ++ (padding (length b) ++ octet_bits more)
  pads_none : pad_fault (length b) (pads octets b) ≡ None
  others_are : others octets b ≡ more

is_padded : (octets : List ℕ) (b : List Bool) (more : List ℕ) → octets ≡ padded b ++ more → Padded octets b more
is_padded octets b more e =
    let bits : octet_bits octets ≡ b ++ (padding (length b) ++ octet_bits more) =
    ap octet_bits e ∙ octet_bits_append (padded b) more ∙ ap (λ (l : List Bool). l ++ octet_bits more) (padded_bits b) ∙ append_assoc b (padding (length b)) (octet_bits more) in
    let front : pads octets b ≡ padding (length b) =
    ap (take (pad_count (length b))) (begins octets b (padding (length b) ++ octet_bits more) bits) ∙ take_at (padding (length b)) (octet_bits more) (pad_count (length b)) (padding_long (length b)) in
    record {
      bits = bits;
      pads_none = ap (pad_fault (length b)) front ∙ pads_zero (pad_count (length b)) (length b);
      others_are = ap (drop (end_of b / 8)) e ∙ drop_at (padded b) more (end_of b / 8) (padded_long b);
    }

pub shows_read : (octets : List ℕ) (v : Tree) → ShowsTree octets v → Ok v ≡ reading_of octets
shows_read octets v s =
    let p = is_padded octets s.spelling (replicate s.appended 0) s.made in
    let no_fault : rest_fault octets (length s.spelling) ≡ None =
    rest_others octets s.spelling p.pads_none ∙ ap (appended_fault (end_of s.spelling)) p.others_are ∙ appended_zero s.appended (end_of s.spelling) in
    sym (read_spelled octets v s.spelling _ s.size s.spells p.bits ∙ ap (λ o. unless o v) no_fault)

padding_read : (octets : List ℕ) (refusal : Refusal) → StopsAtPadding octets refusal → reading_of octets ≡ Err refusal
padding_read octets refusal s =
    let b = s.spelling in
    let tail = replicate s.zeros false ++ true ∷ s.rest in
    let bits : octet_bits octets ≡ b ++ tail = s.bits ∙ append_assoc b (replicate s.zeros false) (true ∷ s.rest) in
    let size : pad_count (length b) ≡ length (replicate s.zeros false) + suc (pad_count (length b) - suc s.zeros) = omega (arith, s.pads, padding_long (length b), length-replicate s.zeros false) in
    let front : pads octets b ≡ replicate s.zeros false ++ true ∷ take (pad_count (length b) - suc s.zeros) s.rest =
    ap (take (pad_count (length b))) (begins octets b tail bits) ∙ ap (λ n. take n tail) size ∙ take_past (replicate s.zeros false) (true ∷ s.rest) (suc (pad_count (length b) - suc s.zeros)) in
    let found : pad_fault (length b) (pads octets b) ≡ Some (padding_refusal (length b + s.zeros)) = ap (pad_fault (length b)) front ∙ pads_at s.zeros (length b) _ in
    read_spelled octets s.value b tail s.size s.spells bits ∙ ap (λ o. unless o s.value) (rest_pads octets b _ found) ∙ ap (λ (r : Refusal). Err r) (sym s.refused)

appended_read : (octets : List ℕ) (refusal : Refusal) → StopsAtAppended octets refusal → reading_of octets ≡ Err refusal
appended_read octets refusal s =
    let b = s.spelling in
    let p = is_padded octets b (replicate s.zeros 0 ++ s.octet ∷ s.rest) (s.made ∙ append_assoc (padded b) (replicate s.zeros 0) (s.octet ∷ s.rest)) in
    let place : end_of b + 8 * s.zeros ≡ 8 * (length (padded b) + s.zeros) = omega (arith, pads_whole (length b), padded_long b) in
    let found : rest_fault octets (length b) ≡ Some (appended_refusal (8 * (length (padded b) + s.zeros)) s.octet) =
    rest_others octets b p.pads_none ∙ ap (appended_fault (end_of b)) p.others_are ∙ appended_at s.zeros (end_of b) s.octet s.rest s.some ∙ ap (λ n. Some (appended_refusal n s.octet)) place in
    read_spelled octets s.value b _ s.size s.spells p.bits ∙ ap (λ o. unless o s.value) found ∙ ap (λ (r : Refusal). Err r) (sym s.refused)

pub stops_read : (octets : List ℕ) (refusal : Refusal) → StopsAt octets refusal → Err refusal ≡ reading_of octets
stops_read octets refusal (at_size s) = sym (read_unsized octets s.size ∙ ap (λ (r : Refusal). Err r) (sym s.refused))
stops_read octets refusal (at_element s) = sym (read_sized octets s.size ∙ ap (finished octets) (sym ((only_set (all_bits octets) (Err (refusal, s.left))).1 s.stops)))
stops_read octets refusal (at_padding s) = sym (padding_read octets refusal s)
stops_read octets refusal (at_appended s) = sym (appended_read octets refusal s)

pub answer_read : (octets : List ℕ) (answer : Result Tree Refusal) → IsAnswer octets answer → answer ≡ reading_of octets
answer_read octets (Ok v) s = shows_read octets v s
answer_read octets (Err refusal) s = stops_read octets refusal s

pub answer_is : (octets : List ℕ) (answer : Result Tree Refusal) → AreOctets octets → answer ≡ reading_of octets → IsAnswer octets answer
answer_is octets answer small e = subst (IsAnswer octets) (sym e) (reading_is octets small)

-- ---- the laws

pub read_exactly : (octets : List ℕ) (v : Tree) → AreOctets octets → (reading_of octets ≡ Ok v) ↔ ShowsTree octets v
read_exactly octets v small = (λ e. answer_is octets (Ok v) small (sym e), λ s. sym (shows_read octets v s))

pub refused_exactly : (octets : List ℕ) (refusal : Refusal) → AreOctets octets → (reading_of octets ≡ Err refusal) ↔ StopsAt octets refusal
refused_exactly octets refusal small = (λ e. answer_is octets (Err refusal) small (sym e), λ s. sym (stops_read octets refusal s))

pub decided : (octets : List ℕ) → AreOctets octets → ((msd : Msd) × Shows octets msd) ⊎ ((refusal : Refusal) × StopsAt octets refusal)
decided octets small =
    elim (reading_of octets) as (λ (r : Result Tree Refusal). IsAnswer octets r → ((msd : Msd) × Shows octets msd) ⊎ ((refusal : Refusal) × StopsAt octets refusal)) [
      | Ok v ↦ λ s. let msd = set_of v s.spells.0 s.spells.1 in inl (msd.0, subst (ShowsTree octets) (sym msd.1) s)
      | Err refusal ↦ λ s. inr (refusal, s)
    ] (reading_is octets small)

pub one_shown : (octets : List ℕ) (v w : Tree) → ShowsTree octets v → ShowsTree octets w → v ≡ w
one_shown octets v w s r = let e = shows_read octets v s ∙ sym (shows_read octets w r) in cc e

pub one_stop : (octets : List ℕ) (r s : Refusal) → StopsAt octets r → StopsAt octets s → r ≡ s
one_stop octets r s a b = let e = stops_read octets r a ∙ sym (stops_read octets s b) in cc e

pub shown_alike : (octets : List ℕ) (v w : Msd) → Shows octets v → Shows octets w → AreAlike v w
shown_alike octets v w s r = are_alike v w (one_shown octets (tree v) (tree w) s r)

pub one_text : (octets : List ℕ) (v w : Msd) → Shows octets v → Shows octets w → description v ≡ description w
one_text octets v w s r = described v w (shown_alike octets v w s r)

pub apart : (octets : List ℕ) (v : Tree) (refusal : Refusal) → ShowsTree octets v → StopsAt octets refusal → ⊥
apart octets v refusal shows stops = let e = shows_read octets v shows ∙ sym (stops_read octets refusal stops) in cc e

some_octet : (b : List Bool) → 1 ≤ length b → 1 ≤ length (padded b)
some_octet b h = omega (arith, padded_long b, pads_whole (length b))

-- a set has the eight bits of its format at least
no_bits : Part
no_bits = record { all = []; start = 0; bits = [] }

no_format : (e : Refusal × Part) × (set_at no_bits ≡ Err e)
unfolding element_at width format_at no_bits
no_format = (_, set_err no_bits _ refl)

long_enough : (v : Tree) (b : List Bool) → Spells (module_of v) v b → 1 ≤ length b
unfolding no_bits
long_enough v [] s =
    let nothing_left : drop (length (bits_of s.0)) [] ≡ [] = ap (λ (l : List Bool). drop (length l) []) (sym s.2) in
    let takes : Takes (SetElements) no_bits v (behind no_bits (length (bits_of s.0))) =
    (s.0, s.1, s.2 ∙ sym (append-nil (bits_of s.0)) ∙ ap (λ (l : List Bool). bits_of s.0 ++ l) (sym nothing_left), refl) in
    let e = (only_set no_bits (Ok (v, behind no_bits (length (bits_of s.0))))).1 takes ∙ no_format.1 in
    absurd (cc e)
long_enough v (x ∷ b) s = omega arith

pub canonical_shows : (octets : List ℕ) (v : Tree) → AreCanonical octets v → length octets ≤ 140 → ShowsTree octets v
canonical_shows octets v c few =
    let spells = canonical_spells (module_of v) v c.spelling c.canonical in
    record {
      size = (subst (λ (l : List ℕ). 1 ≤ length l) (sym c.made) (some_octet c.spelling (long_enough v c.spelling spells)), few);
      spelling = c.spelling;
      spells = spells;
      appended = 0;
      made = c.made ∙ sym (append-nil (padded c.spelling));
    }

-- what was written is what is read
pub read_again : (octets : List ℕ) (v w : Tree) → AreCanonical octets v → ShowsTree octets w → w ≡ v
read_again octets v w c s = one_shown octets w v s (canonical_shows octets v c s.size.1)

-- two spellings that begin the same bits are one
spelled_once : (v w : Tree) (b c x y : List Bool) → Spells (module_of v) v b → Spells (module_of w) w c → b ++ x ≡ c ++ y → v ≡ w
spelled_once v w b c x y sb sc e =
    let all : Part = record { all = b ++ x; start = 0; bits = b ++ x } in
    let first : Takes (SetElements) all v (behind all (length (bits_of sb.0))) =
    (sb.0, sb.1, ap (λ (l : List Bool). l ++ x) sb.2 ∙ ap (λ (l : List Bool). bits_of sb.0 ++ l) (sym (ap (λ (l : List Bool). drop (length (bits_of sb.0)) (l ++ x)) sb.2 ∙ drop_at (bits_of sb.0) x (length (bits_of sb.0)) refl)), refl) in
    let second : Takes (SetElements) all w (behind all (length (bits_of sc.0))) =
    (sc.0, sc.1, e ∙ ap (λ (l : List Bool). l ++ y) sc.2 ∙ ap (λ (l : List Bool). bits_of sc.0 ++ l) (sym (ap (drop (length (bits_of sc.0))) (e ∙ ap (λ (l : List Bool). l ++ y) sc.2) ∙ drop_at (bits_of sc.0) y (length (bits_of sc.0)) refl)), refl) in
    let one = (only_set all (Ok (v, behind all (length (bits_of sb.0))))).1 first in
    let two = (only_set all (Ok (w, behind all (length (bits_of sc.0))))).1 second in
    (ok_same _ _ (one ∙ sym two)).0

pub canonical_one : (v w : Tree) (o p : List ℕ) → AreCanonical o v → AreCanonical p w → (o ≡ p) ↔ (v ≡ w)
canonical_one v w o p c d = (same_value, same_octets)
  where
    same_octets : v ≡ w → o ≡ p
    same_octets e = c.made ∙ ap padded (one_canonical (module_of w) w c.spelling d.spelling (subst (λ (t : Tree). Canonical (module_of t) t c.spelling) e c.canonical) d.canonical) ∙ sym d.made

    same_value : o ≡ p → v ≡ w
    same_value e = spelled_once v w c.spelling d.spelling (padding (length c.spelling)) (padding (length d.spelling)) (canonical_spells (module_of v) v c.spelling c.canonical) (canonical_spells (module_of w) w d.spelling d.canonical)
        (sym (padded_bits c.spelling) ∙ ap octet_bits (sym c.made ∙ e ∙ d.made) ∙ padded_bits d.spelling)

-- ---- what `decode` answers

module _ (octets : List ℕ) (p : Part) (size : HasSize octets) (is : p ≡ all_bits octets) where
  pub refused : (e : Refusal) (q : Part) → set_at p ≡ Err (e, q) → reading_of octets ≡ Err e
  refused e q h = read_sized octets size ∙ ap (λ (x : Part). finished octets (set_at x)) (sym is) ∙ ap (finished octets) h

  pub rest_refused : (e : Refusal) (q : Part) (v : Tree) (place : ℕ) → set_at p ≡ Ok (v, q) → place ≡ q.start → rest_fault octets place ≡ Some e → reading_of octets ≡ Err e
  rest_refused e q v place h there f =
      read_sized octets size ∙ ap (λ (x : Part). finished octets (set_at x)) (sym is) ∙ ap (finished octets) h ∙ ap (λ n. unless (rest_fault octets n) v) (sym there) ∙ ap (λ o. unless o v) f

  pub passed : (q : Part) (v : Tree) (place : ℕ) → set_at p ≡ Ok (v, q) → place ≡ q.start → rest_fault octets place ≡ None → reading_of octets ≡ Ok v
  passed q v place h there f =
      read_sized octets size ∙ ap (λ (x : Part). finished octets (set_at x)) (sym is) ∙ ap (finished octets) h ∙ ap (λ n. unless (rest_fault octets n) v) (sym there) ∙ ap (λ o. unless o v) f

  pub in_place : (q : Part) (msd : Msd) → set_at p ≡ Ok (tree msd, q) → MessageEnds msd q.start → StandInPlace (octet_bits octets) msd
  in_place q msd h ends =
      let takes = (only_set p (Ok (tree msd, q))).0 (sym h) in
      let there : q.start ≡ length (bits_of takes.0) = ap (λ (x : Part). x.start) takes.3 ∙ ap (λ (x : Part). x.start + length (bits_of takes.0)) is ∙ omega arith in
      record {
        elements = takes.0;
        spelled = takes.1;
        behind_it = q.bits;
        begins = ap (λ (x : Part). x.bits) (sym is) ∙ takes.2;
        ends = subst (λ (n : ℕ). MessageEnds msd n) there ends;
      }

pub exit_stopped : {X : Type 0} (octets : List ℕ) (r : Result X Refusal) (e : Refusal) → AreOctets octets → IsErrAnd r (λ y. y ≡ e) → reading_of octets ≡ Err e → IfErr r (λ refusal. StopsAt octets refusal)
exit_stopped octets r e small is same = let p = err_from_is_err_and r is in rw (p.1, p.2) (answer_is octets (Err e) small (sym same))

-- the answer, seen by view, is that of the reading
abbrev pub IsReadAs : {X : Type 0} → (X → Tree) → List ℕ → Result X Refusal → Type 0
IsReadAs view octets r = MatchResult r (λ x. reading_of octets ≡ Ok (view x)) (λ e. reading_of octets ≡ Err e)

pub exit_read : {X : Type 0} (view : X → Tree) (octets : List ℕ) (r : Result X Refusal) (e : Refusal) → IsErrAnd r (λ y. y ≡ e) → reading_of octets ≡ Err e → IsReadAs view octets r
exit_read view octets r e is same = let p = err_from_is_err_and r is in rw (p.1, p.2) same

pub size_refused : (octets : List ℕ) (n : ℕ) → (length octets ≡ 0) ⊎ (140 < length octets) → n ≡ min 141 (length octets) → reading_of octets ≡ Err (record { place = 0; reason = Size; value = n })
size_refused octets n h e = read_unsized octets h ∙ ap (λ (k : ℕ). Err (record { place = 0; reason = Size; value = k })) (sym e)
