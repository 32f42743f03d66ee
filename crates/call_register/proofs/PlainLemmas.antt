-- Texts that need none of JSON's escapes: hexadecimal digits, and identification numbers.
use Rattle.std.proofs.Common.{◌≡◌, ◌<◌, ℕ, ◌==◌, ◌/◌, ◌%◌, ◌&&◌, ◌||◌, not, nat_lt, Bool, true, false, cond, List, [], ◌∷◌, ◌++◌, slice_index, refl, ap, subst, ◌∙◌, arith, suc, zero}
use Rattle.std.specs.List.{AllPass, list_all, list_any}
use Rattle.std.specs.Str.{IsAscii, IsUtf8}
use Rattle.std.proofs.lemmas.Bool.{agree_below, agree_below_at, eqb-true, ltb-true}
use Rattle.std.proofs.lemmas.Str.{IsUtf8-from_ascii}
use Rattle.hex.specs.Hex.{encode_lower, encode_with, lower_digits}
use Rattle.hex.proofs.HexLemmas.{IsAscii-encode_with}
use Rattle.json.specs.Print.{escape, escape_byte, escape_letter, quoted}
use Rattle.per_bits.specs.Parts.{AreOctets}
use Rattle.msd_values.specs.Alphabet.{alphabet, is_vin_character}
use Rattle.msd_values.specs.Vin.{IsVin}
use Rattle.line_input.proofs.NumberLemmas.{first_true, second_true}
use Rattle.call_register.specs.Text.{in_quotes}

-- ---- characters of the alphabet

-- what holds of each of some codes holds of one that is among them
holds_among : (test : ℕ → Bool) (codes : List ℕ) (code : ℕ) → list_all test codes ≡ true
    → list_any (λ c. c == code) codes ≡ true → test code ≡ true
holds_among test [] code all any = cc
holds_among test (c ∷ cs) code all any =
    by (c == code) refl any (holds_among test cs code (second_true (test c) (list_all test cs) all))
  where
    by : (b : Bool) → (c == code) ≡ b → (b || list_any (λ d. d == code) cs) ≡ true
        → (list_any (λ d. d == code) cs ≡ true → test code ≡ true) → test code ≡ true
    by true e h below =
        subst (λ d. test d ≡ true) (eqb-true c code e) (first_true (test c) (list_all test cs) all)
    by false e h below = below h

vin_passes : (test : ℕ → Bool) (text : List ℕ) → list_all test alphabet ≡ true → AllPass is_vin_character text
    → list_all test text ≡ true
unfolding is_vin_character
vin_passes test [] all vin = refl
vin_passes test (c ∷ cs) all vin =
    let here = holds_among test alphabet c all (vin 0 0 (omega arith)) in
    ap (λ b. b && list_all test cs) here ∙ vin_passes test cs all (λ k d h. vin (suc k) d (omega arith))

ascii : (text : List ℕ) → list_all (λ c. nat_lt c 128) text ≡ true → IsAscii text
ascii [] all i = omega arith
ascii (c ∷ cs) all zero = ltb-true c 128 (first_true (nat_lt c 128) (list_all (λ d. nat_lt d 128) cs) all)
ascii (c ∷ cs) all (suc i) = ascii cs (second_true (nat_lt c 128) (list_all (λ d. nat_lt d 128) cs) all) i

-- an identification number is text
pub vin_is_text : (text : List ℕ) → IsVin text → IsUtf8 text
vin_is_text text vin = IsUtf8-from_ascii text (ascii text (vin_passes (λ c. nat_lt c 128) text refl vin.1))

-- hexadecimal digits are text
pub hexadecimal_is_text : (octets : List ℕ) → IsUtf8 (encode_lower octets)
hexadecimal_is_text octets =
    IsUtf8-from_ascii (encode_lower octets) (IsAscii-encode_with lower_digits octets (ascii lower_digits refl))

-- ---- escapes

-- whether a character needs no escape
abbrev is_plain : ℕ → Bool
is_plain c = not (nat_lt 0 (escape_letter c)) && not (nat_lt c 32)

plain_byte : (c : ℕ) → is_plain c ≡ true → escape_byte c ≡ c ∷ []
unfolding escape_byte
plain_byte c plain = by (nat_lt 0 (escape_letter c)) (nat_lt c 32) _ _ plain
  where
    by : (p q : Bool) (short long : List ℕ) → (not p && not q) ≡ true → cond p short (cond q long (c ∷ [])) ≡ c ∷ []
    by true q short long h = cc
    by false true short long h = cc
    by false false short long h = refl

plain : (text : List ℕ) → list_all is_plain text ≡ true → escape text ≡ text
plain [] all = refl
plain (c ∷ cs) all =
    let here = plain_byte c (first_true (is_plain c) (list_all is_plain cs) all) in
    let rest = plain cs (second_true (is_plain c) (list_all is_plain cs) all) in
    λ i. here i ++ rest i

plain_quoted : (text : List ℕ) → list_all is_plain text ≡ true → quoted text ≡ in_quotes text
plain_quoted text all = ap (λ l. 34 ∷ (l ++ 34 ∷ [])) (plain text all)

-- an identification number stands as it is
pub quoted-vin : (text : List ℕ) → IsVin text → quoted text ≡ in_quotes text
quoted-vin text vin = plain_quoted text (vin_passes is_plain text refl vin.1)

digits_plain : agree_below (λ i. is_plain (slice_index lower_digits i)) (λ i. true) 16 ≡ true
digits_plain = refl

digit_plain : (i : ℕ) → i < 16 → is_plain (slice_index lower_digits i) ≡ true
digit_plain i few = agree_below_at (λ i. is_plain (slice_index lower_digits i)) (λ i. true) 16 i digits_plain few

hexadecimal_plain : (octets : List ℕ) → AreOctets octets → list_all is_plain (encode_lower octets) ≡ true
unfolding encode_with
hexadecimal_plain [] all = refl
hexadecimal_plain (o ∷ octets) all =
    let high = digit_plain (o / 16) (omega (arith, all.0)) in
    let low = digit_plain (o % 16) (omega arith) in
    let rest = hexadecimal_plain octets all.1 in
    λ i. high i && (low i && rest i)

-- hexadecimal digits stand as they are
pub quoted-hexadecimal : (octets : List ℕ) → AreOctets octets
    → quoted (encode_lower octets) ≡ in_quotes (encode_lower octets)
quoted-hexadecimal octets all = plain_quoted (encode_lower octets) (hexadecimal_plain octets all)
