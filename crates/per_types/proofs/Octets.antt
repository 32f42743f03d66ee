-- Octets and their bits, read back from each other.
use Rattle.std.proofs.Common.{◌≡◌, ℕ, zero, suc, ◌*◌, ◌^◌, ◌<◌, Bool, List, [], ◌∷◌, ◌++◌, length, take, drop, refl, sym, ap, ◌∙◌, arith}
use Rattle.std.proofs.lemmas.List.{take-append-drop, length-take, length-drop}
use Rattle.std.proofs.Math.Nat.{mod-eq_of_lt}
use Rattle.per_bits.specs.Bits.{digits, value_of, octet_bits, octets_of}
use Rattle.per_bits.specs.Parts.{AreOctets}
use Rattle.per_bits.proofs.Digits.{length_digits, value_digits, digits_value, value_below}

-- the first eight bits are an octet
pub octets_of-cut : (a b : List Bool) → length a ≡ 8 → octets_of (a ++ b) ≡ value_of a ∷ octets_of b
octets_of-cut (x1 ∷ x2 ∷ x3 ∷ x4 ∷ x5 ∷ x6 ∷ x7 ∷ x8 ∷ []) b l = refl
octets_of-cut (x1 ∷ x2 ∷ x3 ∷ x4 ∷ x5 ∷ x6 ∷ x7 ∷ x8 ∷ x9 ∷ a) b l = absurd (omega arith)
octets_of-cut (x1 ∷ x2 ∷ x3 ∷ x4 ∷ x5 ∷ x6 ∷ x7 ∷ []) b l = absurd (omega arith)
octets_of-cut (x1 ∷ x2 ∷ x3 ∷ x4 ∷ x5 ∷ x6 ∷ []) b l = absurd (omega arith)
octets_of-cut (x1 ∷ x2 ∷ x3 ∷ x4 ∷ x5 ∷ []) b l = absurd (omega arith)
octets_of-cut (x1 ∷ x2 ∷ x3 ∷ x4 ∷ []) b l = absurd (omega arith)
octets_of-cut (x1 ∷ x2 ∷ x3 ∷ []) b l = absurd (omega arith)
octets_of-cut (x1 ∷ x2 ∷ []) b l = absurd (omega arith)
octets_of-cut (x1 ∷ []) b l = absurd (omega arith)
octets_of-cut [] b l = absurd (omega arith)

pub octets_of-octet_bits : (os : List ℕ) → AreOctets os → octets_of (octet_bits os) ≡ os
octets_of-octet_bits [] each = refl
octets_of-octet_bits (o ∷ os) each =
    let small : o < 2 ^ 8 = each.0 in
    let first : value_of (digits 8 o) ≡ o = value_digits 8 o ∙ mod-eq_of_lt small in
    octets_of-cut (digits 8 o) (octet_bits os) (length_digits 8 o) ∙ rw (first, octets_of-octet_bits os each.1) refl

no_bits : (b : List Bool) → length b ≡ 0 → b ≡ []
no_bits [] l = refl
no_bits (x ∷ b) l = absurd (omega arith)

-- the first octet of some
pub record FirstOctet (n : ℕ) (b : List Bool) : Type 0 where
  pub first : length (take 8 b) ≡ 8
  pub rest : length (drop 8 b) ≡ 8 * n
  pub parts : take 8 b ++ drop 8 b ≡ b

pub first_octet : (n : ℕ) (b : List Bool) → length b ≡ 8 * suc n → FirstOctet n b
first_octet n b l = record { first = omega (arith, length-take 8 b); rest = omega (arith, length-drop 8 b); parts = take-append-drop 8 b }

pub octets_of-suc : (n : ℕ) (b : List Bool) → length b ≡ 8 * suc n → octets_of b ≡ value_of (take 8 b) ∷ octets_of (drop 8 b)
octets_of-suc n b l = let f = first_octet n b l in ap octets_of (sym f.parts) ∙ octets_of-cut (take 8 b) (drop 8 b) f.first

pub octet_bits-octets_of : (n : ℕ) (b : List Bool) → length b ≡ 8 * n → octet_bits (octets_of b) ≡ b
octet_bits-octets_of zero b l = rw (no_bits b (omega arith)) refl
octet_bits-octets_of (suc n) b l =
    let f = first_octet n b l in
    let first : digits 8 (value_of (take 8 b)) ≡ take 8 b = ap (λ (w : ℕ). digits w (value_of (take 8 b))) (sym f.first) ∙ digits_value (take 8 b) in
    ap octet_bits (octets_of-suc n b l) ∙ ap (λ (x : List Bool). x ++ octet_bits (octets_of (drop 8 b))) first
    ∙ ap (λ (x : List Bool). take 8 b ++ x) (octet_bits-octets_of n (drop 8 b) f.rest) ∙ f.parts

pub length-octets_of : (n : ℕ) (b : List Bool) → length b ≡ 8 * n → length (octets_of b) ≡ n
length-octets_of zero b l = rw (no_bits b (omega arith)) refl
length-octets_of (suc n) b l =
    let f = first_octet n b l in
    ap length (octets_of-suc n b l) ∙ ap suc (length-octets_of n (drop 8 b) f.rest)

pub AreOctets-octets_of : (n : ℕ) (b : List Bool) → length b ≡ 8 * n → AreOctets (octets_of b)
AreOctets-octets_of zero b l = rw (no_bits b (omega arith)) tt
AreOctets-octets_of (suc n) b l =
    let f = first_octet n b l in
    let below : value_of (take 8 b) < 256 = omega (arith, value_below (take 8 b), ap (λ (k : ℕ). 2 ^ k) f.first) in
    rw (octets_of-suc n b l) (below, AreOctets-octets_of n (drop 8 b) f.rest)
