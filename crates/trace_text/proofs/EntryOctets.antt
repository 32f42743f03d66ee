-- The octets of a set and their 280 digits.
use Rattle.std.proofs.Common.{◌≡◌, ℕ, suc, zero, ◌+◌, ◌*◌, ◌/◌, ◌%◌, ◌<◌, ◌==◌, not, Bool, true, ◌&&◌, ◌||◌, eqb, ltb, List, [], ◌∷◌, length, slice_index, Option, Some, None, unwrap_or, Result, Ok, Err, refl, sym, ap, ◌∙◌, arith}
use Rattle.std.specs.List.{list_all}
use Rattle.std.proofs.lemmas.Bool.{agree_below, agree_below_at, cond_both, eqb-true, lt-ltb}
use Rattle.hex.specs.Hex.{IsBytes, decode_pairs, digit_or_error, encode_lower, encode_with, hex_digit_value, lower_digits, pair_value, value_at, ◌>>=◌}
use Rattle.hex.specs.declared.error.FromHexError.{FromHexError}
use Rattle.hex.proofs.HexLemmas.{decode_of-encode_lower, decode_of-even, decode_of-ok, length-encode_with}
use Rattle.per_bits.specs.Parts.{AreOctets}
use Rattle.line_input.specs.Characters.{is_space}
use Rattle.trace_text.specs.EntryLines.{IsSet, is_lower_digit, set_octets}
use Rattle.trace_text.specs.Hexadecimal.{octets_of}
use Rattle.trace_text.proofs.EntryWords.{IsWord}
use Rattle.line_input.proofs.NumberLemmas.{first_true, second_true}
use Rattle.trace_text.proofs.OctetsLemmas.{octets_of-decodes, set_octets-digits}

pub bytes-octets : (octets : List ℕ) → AreOctets octets → IsBytes octets
bytes-octets [] each i = omega arith
bytes-octets (o ∷ octets) each zero = each.0
bytes-octets (o ∷ octets) each (suc i) = bytes-octets octets each.1 i

octets-bytes : (octets : List ℕ) → IsBytes octets → AreOctets octets
octets-bytes [] each = tt
octets-bytes (o ∷ octets) each = (each 0, octets-bytes octets (λ i. each (suc i)))

-- the sixteen digits are of lower case
table : agree_below (λ d. is_lower_digit (slice_index lower_digits d)) (λ d. true) 16 ≡ true
table = refl

lower-digit : (d : ℕ) → d < 16 → is_lower_digit (slice_index lower_digits d) ≡ true
lower-digit d below = agree_below_at (λ d. is_lower_digit (slice_index lower_digits d)) (λ d. true) 16 d table below

pub lower-encode : (octets : List ℕ) → AreOctets octets → list_all is_lower_digit (encode_lower octets) ≡ true
unfolding encode_with
lower-encode [] each = refl
lower-encode (o ∷ octets) each =
    let byte : o < 256 = each.0 in
    rw (lower-digit (o / 16) (omega arith), lower-digit (o % 16) (omega arith)) (lower-encode octets each.1)

-- a set is read of its digits
pub set_octets-encode : (octets : List ℕ) → IsSet octets → set_octets (encode_lower octets) ≡ Some octets
set_octets-encode octets is =
    let long : length (encode_lower octets) ≡ 280 = length-encode_with lower_digits octets ∙ ap (λ n. 2 * n) is.0 in
    let some : ltb 0 (length (encode_lower octets)) ≡ true = lt-ltb _ _ (omega (arith, long)) in
    set_octets-digits (encode_lower octets) long (lower-encode octets is.1)
    ∙ rw (some, decode_of-encode_lower octets (bytes-octets octets is.1)) refl

-- a digit of lower case is that of its value
abbrev is_own : ℕ → Bool
is_own c = not (is_lower_digit c) || (slice_index lower_digits (unwrap_or (hex_digit_value c) 0) == c)

own_table : agree_below is_own (λ c. true) 103 ≡ true
own_table = refl

lower-below : (c : ℕ) → is_lower_digit c ≡ true → c < 103
lower-below c lower = grind arith

digit-back : (c v : ℕ) → is_lower_digit c ≡ true → hex_digit_value c ≡ Some v → slice_index lower_digits v ≡ c
digit-back c v lower value =
    let test : is_own c ≡ true = agree_below_at is_own (λ c. true) 103 c own_table (lower-below c lower) in
    let own : (slice_index lower_digits (unwrap_or (hex_digit_value c) 0) == c) ≡ true = rw lower at test in
    rw value at (eqb-true _ _ own)

value-below : (c v : ℕ) → hex_digit_value c ≡ Some v → v < 16
value-below c v h = grind (arith)

bind_ok : {A B : Type 0} (r : Result A FromHexError) (f : A → Result B FromHexError) (y : B)
    → (r >>= f) ≡ Ok y → (x : A) × (r ≡ Ok x) × (f x ≡ Ok y)
bind_ok (Ok x) f y h = (x, refl, h)
bind_ok (Err e) f y h = cc h

digit_read : (c i : ℕ) (o : Option ℕ) (v : ℕ) → digit_or_error c i o ≡ Ok v → o ≡ Some v
digit_read c i (Some w) v h = let same : w ≡ v = cc in ap Some same
digit_read c i None v h = cc h

high-back : (h l byte : ℕ) → l < 16 → h * 16 + l ≡ byte → byte / 16 ≡ h
high-back h l byte below e = omega arith

low-back : (h l byte : ℕ) → l < 16 → h * 16 + l ≡ byte → byte % 16 ≡ l
low-back h l byte below e = omega arith

pair-back : (a b h l byte : ℕ) (bytes octets rest : List ℕ) → is_lower_digit a ≡ true → is_lower_digit b ≡ true
    → hex_digit_value a ≡ Some h → hex_digit_value b ≡ Some l → h * 16 + l ≡ byte → byte ∷ bytes ≡ octets → encode_lower bytes ≡ rest
    → encode_lower octets ≡ a ∷ b ∷ rest
unfolding encode_with
pair-back a b h l byte bytes octets rest first second va vb is whole more =
    let small = value-below b l vb in
    rw (← whole) (rw (high-back h l byte small is, low-back h l byte small is, digit-back a h first va, digit-back b l second vb, more) refl)

pairs-back : (i : ℕ) (text octets : List ℕ) → decode_pairs i text ≡ Ok octets → list_all is_lower_digit text ≡ true → encode_lower octets ≡ text
unfolding decode_pairs encode_with
pairs-back i [] octets e lower = let none : [] ≡ octets = cc in rw (← none) refl
pairs-back i (a ∷ []) octets e lower = cc e
pairs-back i (a ∷ b ∷ rest) octets e lower =
    let p0 = bind_ok (pair_value a b i) _ octets e in
    let p1 = bind_ok (value_at a i) _ p0.0 p0.1 in
    let p2 = bind_ok (value_at b (i + 1)) _ p0.0 p1.2 in
    let p3 = bind_ok (decode_pairs (i + 2) rest) _ octets p0.2 in
    let first = first_true (is_lower_digit a) (is_lower_digit b && list_all is_lower_digit rest) lower in
    let more = second_true (is_lower_digit a) (is_lower_digit b && list_all is_lower_digit rest) lower in
    let second = first_true (is_lower_digit b) (list_all is_lower_digit rest) more in
    let last = second_true (is_lower_digit b) (list_all is_lower_digit rest) more in
    let ih = pairs-back (i + 2) rest p3.0 p3.1 last in
    let va = digit_read a i (hex_digit_value a) p1.0 p1.1 in
    let vb = digit_read b (i + 1) (hex_digit_value b) p2.0 p2.1 in
    let byte : p1.0 * 16 + p2.0 ≡ p0.0 = cc (p2.2) in
    let is : p0.0 ∷ p3.0 ≡ octets = cc (p3.2) in
    pair-back a b p1.0 p2.0 p0.0 p3.0 octets rest first second va vb byte is ih

-- what was read of a set is written so
pub set_octets-back : (text octets : List ℕ) → set_octets text ≡ Some octets → (text ≡ encode_lower octets) × IsSet octets
set_octets-back text octets e =
    let parts = cond_both (eqb (length text) 280 && list_all is_lower_digit text) (octets_of text) None
    (λ v. v ≡ Some octets → (eqb (length text) 280 ≡ true) × (list_all is_lower_digit text ≡ true) × (octets_of text ≡ Some octets))
    (λ both same. (first_true (eqb (length text) 280) (list_all is_lower_digit text) both, second_true (eqb (length text) 280) (list_all is_lower_digit text) both, same))
    (λ _ none. let never : ⊥ = cc in absurd never) e in
    let long : length text ≡ 280 = eqb-true _ _ parts.0 in
    let decodes = octets_of-decodes text octets parts.2 in
    let sized = decode_of-ok text octets decodes in (
      sym (pairs-back 0 text octets (sym (decode_of-even text sized.0) ∙ decodes) parts.1),
      (omega (arith, sized.2, long), octets-bytes octets sized.3),
    )

lower-word : (c : ℕ) → is_lower_digit c ≡ true → not (is_space c) ≡ true
lower-word c digit = grind arith

word-lower : (text : List ℕ) → list_all is_lower_digit text ≡ true → IsWord text
word-lower [] all = refl
word-lower (c ∷ cs) all =
    rw (lower-word c (first_true (is_lower_digit c) (list_all is_lower_digit cs) all)) (word-lower cs (second_true (is_lower_digit c) (list_all is_lower_digit cs) all))

-- the digits of a set are a word
pub word-encode : (octets : List ℕ) → IsSet octets → IsWord (encode_lower octets)
word-encode octets is = word-lower (encode_lower octets) (lower-encode octets is.1)
