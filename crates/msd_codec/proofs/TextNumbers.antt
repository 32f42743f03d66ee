-- The number that the indices of a text's characters read, six bits each.
use Rattle.std.proofs.Common.{◌≡◌, ℕ, ◌+◌, ◌-◌, ◌*◌, ◌%◌, ◌^◌, ◌<◌, ◌≤◌, Bool, true, false, ◌&&◌, List, [], ◌∷◌, ◌++◌, length, take, get_or, Result, refl, sym, ap, subst, ◌∙◌, arith, append-nil}
use Rattle.std.specs.Prelude.{◌==◌, nat_lt, slice_index, OnOk, OnErr}
use Rattle.std.specs.List.{AllPass, flat_map}
use Rattle.std.proofs.Math.Pow.{pow_mono}
use Rattle.std.proofs.Math.Nat.{mod-eq_of_lt}
use Rattle.std.proofs.lemmas.Bool.{eqb-true, ltb-true, agree_below, agree_below_at}
use Rattle.std.proofs.lemmas.List.{length-append, length-take, take_more}
use Rattle.std.proofs.lemmas.Grind.{flat_map-append, get_or_default_zero}
use Rattle.per_bits.specs.Bits.{digits, value_of, room_bits}
use Rattle.per_bits.proofs.Digits.{length_digits, value_below, value_append, value_digits, digits_value}
use Rattle.per_types.specs.Kinds.{alphabet}
use Rattle.per_types.specs.Types.{text, characters}
use Rattle.per_types.specs.Spelling.{Elements}
use Rattle.per_types.proofs.Written.{Spelled, written}
use Rattle.msd_values.specs.Alphabet.{is_vin_character}
use Rattle.msd_codec.specs.Canonical.{alphabet_index, character_bits}
use Rattle.msd_codec.specs.inner.Writing.{Puts, Canon}
use Rattle.msd_codec.proofs.CanonicalBits.{place_is, text_is}
use Rattle.msd_codec.proofs.Lengths.{text_spelled}
use Rattle.msd_codec.proofs.Puts.{put_canon}
use Rattle.msd_codec.proofs.Texts.{is_known}

-- ---- the table of indices

unfoldable pub indices : List ℕ
indices =
    0 ∷ 1 ∷ 2 ∷ 3 ∷ 4 ∷ 5 ∷ 6 ∷ 7 ∷ 8 ∷ 9 ∷ 0 ∷ 0 ∷ 0 ∷ 0 ∷ 0 ∷ 0 ∷ 0 ∷ 10 ∷ 11 ∷ 12 ∷ 13 ∷ 14 ∷ 15 ∷ 16 ∷ 17 ∷ 0 ∷ 18
    ∷ 19 ∷ 20 ∷ 21 ∷ 22 ∷ 0 ∷ 23 ∷ 0 ∷ 24 ∷ 25 ∷ 26 ∷ 27 ∷ 28 ∷ 29 ∷ 30 ∷ 31 ∷ 32 ∷ []

in_table : agree_below (λ i. (slice_index indices (slice_index alphabet i - 48) == i) && (nat_lt 47 (slice_index alphabet i) && nat_lt (slice_index alphabet i) 91)) (λ i. true) 33 ≡ true
unfolding indices
in_table = refl

both : (a b : Bool) → (a && b) ≡ true → (a ≡ true) × (b ≡ true)
both true b h = (refl, h)
both false b h = absurd cc

-- where a character of the alphabet stands in the table
pub record IsIndexed (c : ℕ) : Type 0 where
  pub low : 48 ≤ c
  pub high : c - 48 < 43
  pub index : slice_index indices (c - 48) ≡ alphabet_index c
  pub small : alphabet_index c < 33

pub indexed : (c : ℕ) → is_vin_character c ≡ true → IsIndexed c
indexed c h =
    let known = is_known c h in
    let is : slice_index alphabet known.0 ≡ c = sym (get_or_default_zero alphabet known.0 c known.1) ∙ known.2 in
    let all = agree_below_at (λ i. (slice_index indices (slice_index alphabet i - 48) == i) && (nat_lt 47 (slice_index alphabet i) && nat_lt (slice_index alphabet i) 91)) (λ i. true) 33 known.0 in_table known.1 in
    let parts = both _ _ all in
    let bounds = both _ _ parts.1 in
    let low : 47 < slice_index alphabet known.0 = ltb-true 47 (slice_index alphabet known.0) bounds.0 in
    let high : slice_index alphabet known.0 < 91 = ltb-true (slice_index alphabet known.0) 91 bounds.1 in
    let place : alphabet_index c ≡ known.0 = ap alphabet_index (sym is) ∙ place_is known.0 known.1 in
    let at : slice_index indices (slice_index alphabet known.0 - 48) ≡ known.0 = eqb-true _ known.0 parts.0 in
    let first : known.0 < 33 = known.1 in
    record {
      low = omega (arith, is, low);
      high = omega (arith, is, low, high);
      index = ap (λ n. slice_index indices (n - 48)) (sym is) ∙ at ∙ sym place;
      small = omega (arith, place, first);
    }

-- ---- the number

pub text_bits_long : (cs : List ℕ) → length (flat_map character_bits cs) ≡ 6 * length cs
text_bits_long [] = refl
text_bits_long (c ∷ cs) = length-append (character_bits c) (flat_map character_bits cs) ∙ (let one : length (character_bits c) ≡ 6 = length_digits 6 (alphabet_index c) in omega (arith, text_bits_long cs, one))

pub number_below : (cs : List ℕ) → value_of (flat_map character_bits cs) < 2 ^ (6 * length cs)
number_below cs = subst (λ n. value_of (flat_map character_bits cs) < 2 ^ n) (text_bits_long cs) (value_below (flat_map character_bits cs))

-- the number of fewer than ten characters has room for one more
pub number_small : (cs : List ℕ) (i n : ℕ) → i < length cs → length cs ≤ 10 → n ≡ value_of (flat_map character_bits (take i cs)) → n < 2 ^ 54
number_small cs i n h few e =
    let long : length (take i cs) ≡ i = length-take i cs ∙ omega arith in
    let below : value_of (flat_map character_bits (take i cs)) < 2 ^ (6 * length (take i cs)) = number_below (take i cs) in
    let short : 6 * length (take i cs) ≤ 54 = omega (arith, long) in
    let wide : 2 ^ (6 * length (take i cs)) ≤ 2 ^ 54 = pow_mono short in
    omega (arith, e, below, wide)

pub number_next : (cs : List ℕ) (i c n k : ℕ) → i < length cs → c ≡ get_or cs i 0 → n ≡ value_of (flat_map character_bits (take i cs)) → k ≡ alphabet_index c → k < 64 → 64 * n + k ≡ value_of (flat_map character_bits (take (i + 1) cs))
number_next cs i c n k h is e same small =
    let front : take (i + 1) cs ≡ take i cs ++ c ∷ [] = take_more cs i 0 h ∙ ap (λ (x : ℕ). take i cs ++ x ∷ []) (sym is) in
    let last : value_of (character_bits c) ≡ k = value_digits 6 (alphabet_index c) ∙ ap (λ x. x % 2 ^ 6) (sym same) ∙ mod-eq_of_lt small in
    let split : value_of (flat_map character_bits (take i cs) ++ character_bits c) ≡ value_of (flat_map character_bits (take i cs)) * 2 ^ length (character_bits c) + value_of (character_bits c) =
    value_append (flat_map character_bits (take i cs)) (character_bits c) in
    let wide : 2 ^ length (character_bits c) ≡ 64 = ap (λ x. 2 ^ x) (length_digits 6 (alphabet_index c)) in
    let whole : flat_map character_bits (take (i + 1) cs) ≡ flat_map character_bits (take i cs) ++ character_bits c =
    ap (flat_map character_bits) front ∙ flat_map-append character_bits (take i cs) (c ∷ []) ∙ ap (λ (l : List Bool). flat_map character_bits (take i cs) ++ l) (append-nil (character_bits c)) in
    sym (ap value_of whole ∙ split ∙ ap (λ x. value_of (flat_map character_bits (take i cs)) * x + value_of (character_bits c)) wide ∙ ap (λ x. value_of (flat_map character_bits (take i cs)) * 64 + x) last ∙ omega (arith, e))

-- what is put is the text
number_digits : (cs : List ℕ) (n : ℕ) → n ≡ value_of (flat_map character_bits cs) → digits (6 * length cs) n ≡ flat_map character_bits cs
number_digits cs n e =
    ap (λ w. digits w n) (sym (text_bits_long cs)) ∙ ap (digits (length (flat_map character_bits cs))) e ∙ digits_value (flat_map character_bits cs)

pub text_put : {X E : Type 0} (cs : List ℕ) (n : ℕ) (old new : List Bool) (r : Result X E) → AllPass is_vin_character cs → n ≡ value_of (flat_map character_bits cs)
    → OnOk r ((length old + 6 * length cs ≤ room_bits) × (new ≡ old ++ digits (6 * length cs) n)) → OnErr r ((room_bits < length old + 6 * length cs) × (new ≡ old))
    → Puts (Canon (characters (length cs)) (text cs)) old r new
text_put cs n old new r pass e ok full =
    let s = text_spelled cs pass in
    let spelled : Spelled (Elements true (characters (length cs)) (text cs)) (digits (6 * length cs) n) =
    record { elements = s.0; spell = s.1; bits = text_is (length cs) cs s.0 s.1 ∙ sym (number_digits cs n e) } in
    put_canon (characters (length cs)) (text cs) old new r (written (Elements true (characters (length cs)) (text cs)) old new (digits (6 * length cs) n) (6 * length cs) r spelled (length_digits (6 * length cs) n) ok full)
