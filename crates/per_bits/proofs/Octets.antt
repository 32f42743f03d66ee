-- Whole octets of bits: what `octets_of` and `padded` give.
use Rattle.std.proofs.Common.{◌≡◌, ℕ, ◌+◌, ◌*◌, ◌/◌, ◌%◌, ◌^◌, ◌<◌, ◌≤◌, zero, suc, Bool, true, nat_lt, List, [], ◌∷◌, ◌++◌, Some, slice_get, length, take, drop, get_or, refl, ap, sym, ◌∙◌, ◌≢◌, ◌↔◌, subst, arith}
use Rattle.std.proofs.lemmas.List.{length-append, length-take, length-drop, take-append-drop, take_at, drop_at, drop-drop, drop_more, nil_from_length}
use Rattle.std.proofs.lemmas.Option.{get_or_from_slice_get}
use Rattle.std.proofs.Math.Nat.{mod-eq_of_lt}
use Rattle.std.specs.Prelude.{IsTrue}
use Rattle.per_bits.specs.Bits.{digits, value_of, octet_bits, octets_of}
use Rattle.per_bits.specs.Parts.{AreOctets, ArcsFrom}
use Rattle.per_bits.proofs.Digits.{length_digits, value_digits, digits_value, value_below}

-- the first octet, and the others
pub octets_of_more : (bits : List Bool) → 8 ≤ length bits → octets_of bits ≡ value_of (take 8 bits) ∷ octets_of (drop 8 bits)
octets_of_more (a ∷ b ∷ c ∷ d ∷ e ∷ f ∷ g ∷ h ∷ bits) long = refl
octets_of_more [] long = absurd (omega arith)
octets_of_more (a ∷ []) long = absurd (omega arith)
octets_of_more (a ∷ b ∷ []) long = absurd (omega arith)
octets_of_more (a ∷ b ∷ c ∷ []) long = absurd (omega arith)
octets_of_more (a ∷ b ∷ c ∷ d ∷ []) long = absurd (omega arith)
octets_of_more (a ∷ b ∷ c ∷ d ∷ e ∷ []) long = absurd (omega arith)
octets_of_more (a ∷ b ∷ c ∷ d ∷ e ∷ f ∷ []) long = absurd (omega arith)
octets_of_more (a ∷ b ∷ c ∷ d ∷ e ∷ f ∷ g ∷ []) long = absurd (omega arith)

first_bits : (bits : List Bool) → 8 ≤ length bits → digits 8 (value_of (take 8 bits)) ≡ take 8 bits
first_bits bits long =
    let eight : length (take 8 bits) ≡ 8 = length-take 8 bits ∙ omega arith in
    ap (λ n. digits n (value_of (take 8 bits))) (sym eight) ∙ digits_value (take 8 bits)

rest_long : (n : ℕ) (bits : List Bool) → length bits ≡ 8 * suc n → length (drop 8 bits) ≡ 8 * n
rest_long n bits e = length-drop 8 bits ∙ omega arith

-- whole octets have the bits that they were made of
pub octet_bits_of : (n : ℕ) (bits : List Bool) → length bits ≡ 8 * n → octet_bits (octets_of bits) ≡ bits
octet_bits_of zero bits e = rw (nil_from_length bits (omega arith)) refl
octet_bits_of (suc n) bits e =
    ap octet_bits (octets_of_more bits (omega arith))
    ∙ ap (λ l. digits 8 (value_of (take 8 bits)) ++ l) (octet_bits_of n (drop 8 bits) (rest_long n bits e))
    ∙ ap (λ l. l ++ drop 8 bits) (first_bits bits (omega arith))
    ∙ take-append-drop 8 bits

pub length_octets_of : (n : ℕ) (bits : List Bool) → length bits ≡ 8 * n → length (octets_of bits) ≡ n
length_octets_of zero bits e = rw (nil_from_length bits (omega arith)) refl
length_octets_of (suc n) bits e =
    ap length (octets_of_more bits (omega arith)) ∙ ap suc (length_octets_of n (drop 8 bits) (rest_long n bits e))

pub are_octets_of : (n : ℕ) (bits : List Bool) → length bits ≡ 8 * n → AreOctets (octets_of bits)
are_octets_of zero bits e = rw (nil_from_length bits (omega arith)) tt
are_octets_of (suc n) bits e =
    let eight : length (take 8 bits) ≡ 8 = length-take 8 bits ∙ omega arith in
    rw (octets_of_more bits (omega arith)) (omega (arith, value_below (take 8 bits), ap (λ k. 2 ^ k) eight), are_octets_of n (drop 8 bits) (rest_long n bits e))

-- one octet, by its bits
pub octet_of_at : (n : ℕ) (bits : List Bool) (i : ℕ) → length bits ≡ 8 * n → i < n → slice_get (octets_of bits) i ≡ Some (value_of (take 8 (drop (8 * i) bits)))
octet_of_at zero bits i e h = absurd (omega arith)
octet_of_at (suc n) bits zero e h = ap (λ l. slice_get l 0) (octets_of_more bits (omega arith))
octet_of_at (suc n) bits (suc i) e h =
    ap (λ l. slice_get l (suc i)) (octets_of_more bits (omega arith))
    ∙ octet_of_at n (drop 8 bits) i (rest_long n bits e) (omega arith)
    ∙ ap (λ l. Some (value_of (take 8 l))) (drop-drop (8 * i) 8 bits ∙ ap (λ k. drop k bits) (omega arith))

-- the octets that the bits of octets read are these
pub octets_of_bits : (octets : List ℕ) → AreOctets octets → octets_of (octet_bits octets) ≡ octets
octets_of_bits [] small = refl
octets_of_bits (o ∷ octets) small =
    octets_of_more (digits 8 o ++ octet_bits octets) (omega (arith, length-append (digits 8 o) (octet_bits octets), length_digits 8 o))
    ∙ ap (λ l. value_of l ∷ octets_of (drop 8 (digits 8 o ++ octet_bits octets))) (take_at (digits 8 o) (octet_bits octets) 8 (length_digits 8 o))
    ∙ ap (λ l. value_of (digits 8 o) ∷ octets_of l) (drop_at (digits 8 o) (octet_bits octets) 8 (length_digits 8 o))
    ∙ ap (λ x. x ∷ octets_of (octet_bits octets)) (value_digits 8 o ∙ mod-eq_of_lt small.0)
    ∙ ap (λ l. o ∷ l) (octets_of_bits octets small.1)

-- octets by index
pub are_octets : (octets : List ℕ) → ((i : ℕ) → get_or octets i 0 < 256) → AreOctets octets
are_octets [] small = tt
are_octets (o ∷ octets) small = (small 0, are_octets octets (λ i. small (suc i)))

pub octets_count : (bits : List Bool) → length bits % 8 ≡ 0 → length bits ≡ 8 * length (octets_of bits)
octets_count bits whole =
    let cut : length bits ≡ 8 * (length bits / 8) = omega arith in
    omega (arith, length_octets_of (length bits / 8) bits cut)

-- the octets from i on, with the one at i in front
octets_from : (octets : List ℕ) (i o : ℕ) → i < length octets → slice_get octets i ≡ Some o → drop i octets ≡ o ∷ drop (i + 1) octets
octets_from octets i o h e = drop_more octets i 0 h ∙ ap (λ x. x ∷ drop (i + 1) octets) (get_or_from_slice_get octets i o 0 e)

-- an octet that may stand here leaves the arcs behind it to be judged
pub arcs_step : (octets : List ℕ) (i o : ℕ) (begins : Bool) → i < length octets → slice_get octets i ≡ Some o → (IsTrue begins → o ≢ 128)
    → (ArcsFrom begins (drop i octets) ↔ ArcsFrom true octets) → (ArcsFrom (nat_lt o 128) (drop (i + 1) octets) ↔ ArcsFrom true octets)
arcs_step octets i o begins h e may same =
    let here : drop i octets ≡ o ∷ drop (i + 1) octets = octets_from octets i o h e in
    let P : List ℕ → Type 0 = λ l. ArcsFrom begins l in
    (λ arcs. same.0 (subst P (sym here) (may, arcs)), λ all. (subst P here (same.1 all)).1)

-- an arc doesn't begin with 80 hexadecimal
pub arcs_bad : (octets : List ℕ) (i o : ℕ) (begins : Bool) → i < length octets → slice_get octets i ≡ Some o → IsTrue begins → o ≡ 128
    → (ArcsFrom begins (drop i octets) ↔ ArcsFrom true octets) → ArcsFrom true octets → ⊥
arcs_bad octets i o begins h e starts is same all =
    let P : List ℕ → Type 0 = λ l. ArcsFrom begins l in
    (subst P (octets_from octets i o h e) (same.1 all)).0 starts is
