-- The bits of octets by place, and the parts of them.
use Rattle.std.proofs.Common.{◌≡◌, ℕ, ◌+◌, ◌-◌, ◌*◌, ◌/◌, ◌%◌, ◌^◌, ◌<◌, ◌≤◌, zero, suc, Bool, true, false, nat_eq, List, [], ◌∷◌, ◌++◌, Some, slice_get, length, take, drop, get_or, bit_or, refl, ap, sym, ◌∙◌, arith}
use Rattle.std.proofs.Math.Seq.{take-add, take-append-add, take-nil, drop-nil}
use Rattle.std.proofs.lemmas.Nat.{shl_whole, or_shifted, pow-add, mul-add-lt}
use Rattle.std.proofs.lemmas.List.{length-append, length-take, length-drop, take_all, drop-drop, drop-take, take-take, drop_at, drop_more, take_more, drop-append-le, take-append-le, append-nil}
use Rattle.std.proofs.lemmas.Grind.{flat_map-append}
use Rattle.std.proofs.Math.Nat.{mod-eq_of_lt}
use Rattle.per_bits.specs.Bits.{digits, value_of, octet_bits, Part, IsInPlace, part_at, front, behind}
use Rattle.per_bits.proofs.Digits.{length_digits, value_append, value_digits, digits_value}

pub length_octet_bits : (octets : List ℕ) → length (octet_bits octets) ≡ 8 * length octets
length_octet_bits [] = refl
length_octet_bits (o ∷ octets) = length-append (digits 8 o) (octet_bits octets) ∙ omega (arith, length_digits 8 o, length_octet_bits octets)

pub length_field : (octets : List ℕ) (start n : ℕ) → start + n ≤ 8 * length octets → length (take n (drop start (octet_bits octets))) ≡ n
length_field octets start n h = length-take n (drop start (octet_bits octets)) ∙ omega (arith, length-drop start (octet_bits octets), length_octet_bits octets)

-- a part of the octets with these bits
abbrev part_with : List ℕ → ℕ → List Bool → Part
part_with octets start bits = record { all = octet_bits octets; start = start; bits = bits }

pub in_place : (octets : List ℕ) (start n : ℕ) → start + n ≤ 8 * length octets → length octets ≤ 65535 → IsInPlace (part_at octets start n)
in_place octets start n h few = record {
  within = omega (arith, length_field octets start n h, length_octet_bits octets);
  bits = sym (ap (λ m. take m (drop start (octet_bits octets))) (length_field octets start n h));
  few = omega (arith, length_octet_bits octets);
}

pub whole_is : (octets : List ℕ) (n : ℕ) → 8 * length octets ≤ n → take n (octet_bits octets) ≡ octet_bits octets
whole_is octets n h = take_all n (octet_bits octets) (omega (arith, length_octet_bits octets))

pub length_prefix : (octets : List ℕ) (n : ℕ) → n ≤ 8 * length octets → length (take n (octet_bits octets)) ≡ n
length_prefix octets n h = length_field octets 0 n (omega arith)

-- whole octets are left out
pub drop_octets : (i : ℕ) (octets : List ℕ) → drop (8 * i) (octet_bits octets) ≡ octet_bits (drop i octets)
drop_octets zero octets = refl
drop_octets (suc i) [] = drop-nil (8 * suc i)
drop_octets (suc i) (o ∷ octets) =
    ap (λ n. drop n (digits 8 o ++ octet_bits octets)) (omega arith)
    ∙ sym (drop-drop (8 * i) 8 (digits 8 o ++ octet_bits octets))
    ∙ ap (λ l. drop (8 * i) l) (drop_at (digits 8 o) (octet_bits octets) 8 (length_digits 8 o))
    ∙ drop_octets i octets

-- the n bits of the octet at i that stand k bits behind its first
pub octet_field : (octets : List ℕ) (i k n : ℕ) → i < length octets → k + n ≤ 8 → take n (drop (8 * i + k) (octet_bits octets)) ≡ take n (drop k (digits 8 (get_or octets i 0)))
octet_field octets i k n h fits =
    ap (take n)
    (sym (drop-drop k (8 * i) (octet_bits octets))
    ∙ ap (drop k) (drop_octets i octets ∙ ap octet_bits (drop_more octets i 0 h))
    ∙ drop-append-le k (digits 8 (get_or octets i 0)) (octet_bits (drop (i + 1) octets)) (omega (arith, length_digits 8 (get_or octets i 0))))
    ∙ take-append-le n (drop k (digits 8 (get_or octets i 0))) (octet_bits (drop (i + 1) octets)) (omega (arith, length-drop k (digits 8 (get_or octets i 0)), length_digits 8 (get_or octets i 0)))

-- a number grows by the next n bits
pub value_more : (bits : List Bool) (start d n : ℕ) → start + d + n ≤ length bits → value_of (take (d + n) (drop start bits)) ≡ value_of (take d (drop start bits)) * 2 ^ n + value_of (take n (drop (start + d) bits))
value_more bits start d n h =
    ap value_of (take-add d n (drop start bits) ∙ ap (λ l. take d (drop start bits) ++ take n l) (drop-drop d start bits))
    ∙ value_append (take d (drop start bits)) (take n (drop (start + d) bits))
    ∙ ap (λ k. value_of (take d (drop start bits)) * 2 ^ k + value_of (take n (drop (start + d) bits)))
    (length-take n (drop (start + d) bits) ∙ omega (arith, length-drop (start + d) bits))

pub number_step : (octets : List ℕ) (start at n v : ℕ) → start ≤ at → at / 8 < length octets → n ≤ 8 - at % 8
    → v ≡ value_of (take (at - start) (drop start (octet_bits octets)))
    → v * 2 ^ n + value_of (take n (drop (at % 8) (digits 8 (get_or octets (at / 8) 0)))) ≡ value_of (take (at + n - start) (drop start (octet_bits octets)))
number_step octets start at n v h i fits e =
    let there : start + (at - start) ≡ 8 * (at / 8) + at % 8 = omega arith in
    let far : at + n - start ≡ (at - start) + n = omega arith in
    let field : take n (drop (at % 8) (digits 8 (get_or octets (at / 8) 0))) ≡ take n (drop (start + (at - start)) (octet_bits octets)) =
    sym (octet_field octets (at / 8) (at % 8) n i (omega arith)) ∙ ap (λ k. take n (drop k (octet_bits octets))) (sym there) in
    ap (λ x. x * 2 ^ n + value_of (take n (drop (at % 8) (digits 8 (get_or octets (at / 8) 0))))) e
    ∙ ap (λ l. value_of (take (at - start) (drop start (octet_bits octets))) * 2 ^ n + value_of l) field
    ∙ sym (value_more (octet_bits octets) start (at - start) n (omega (arith, length_octet_bits octets)))
    ∙ ap (λ k. value_of (take k (drop start (octet_bits octets)))) (sym far)

-- one octet more of a window
pub window_step : (octets : List ℕ) (at i v : ℕ) → at + i < length octets → v ≡ value_of (take (8 * i) (drop (8 * at) (octet_bits octets)))
    → v * 2 ^ 8 + value_of (take 8 (drop 0 (digits 8 (get_or octets (at + i) 0)))) ≡ value_of (take (8 * (i + 1)) (drop (8 * at) (octet_bits octets)))
window_step octets at i v h e =
    let there : 8 * at + 8 * i ≡ 8 * (at + i) + 0 = omega arith in
    let far : 8 * (i + 1) ≡ 8 * i + 8 = omega arith in
    let field : take 8 (drop 0 (digits 8 (get_or octets (at + i) 0))) ≡ take 8 (drop (8 * at + 8 * i) (octet_bits octets)) =
    sym (octet_field octets (at + i) 0 8 h (omega arith)) ∙ ap (λ k. take 8 (drop k (octet_bits octets))) (sym there) in
    ap (λ x. x * 2 ^ 8 + value_of (take 8 (drop 0 (digits 8 (get_or octets (at + i) 0))))) e
    ∙ ap (λ l. value_of (take (8 * i) (drop (8 * at) (octet_bits octets))) * 2 ^ 8 + value_of l) field
    ∙ sym (value_more (octet_bits octets) (8 * at) (8 * i) 8 (omega (arith, length_octet_bits octets)))
    ∙ ap (λ k. value_of (take k (drop (8 * at) (octet_bits octets)))) (sym far)

-- a shift that loses no bit, and the bits that come behind
pub shifted_or : (v d n f : ℕ) → v < 2 ^ d → d + n ≤ 64 → f < 2 ^ n → bit_or (v * 2 ^ n % 2 ^ 64) f ≡ v * 2 ^ n + f
shifted_or v d n f h fits below = ap (λ x. bit_or x f) (shl_whole v d n 64 h fits) ∙ or_shifted v n f below

pub shifted_below : (v d n f : ℕ) → v < 2 ^ d → f < 2 ^ n → v * 2 ^ n + f < 2 ^ (d + n)
shifted_below v d n f h below = rw (pow-add 2 d n) (omega (arith, mul-add-lt v (2 ^ n) f (2 ^ d) h below))

-- a part of a part is a part of all bits
pub part_field : (bits : List Bool) (start len s n : ℕ) → s + n ≤ len → take n (drop s (take len (drop start bits))) ≡ take n (drop (start + s) bits)
part_field bits start len s n h =
    ap (λ k. take n (drop s (take k (drop start bits)))) (omega arith)
    ∙ ap (take n) (drop-take s (len - s) (drop start bits))
    ∙ take-take n (len - s) (drop s (drop start bits)) (omega arith)
    ∙ ap (take n) (drop-drop s start bits)

pub rest_field : (bits : List Bool) (start len s : ℕ) → s ≤ len → drop s (take len (drop start bits)) ≡ take (len - s) (drop (start + s) bits)
rest_field bits start len s h =
    ap (λ k. drop s (take k (drop start bits))) (omega arith)
    ∙ drop-take s (len - s) (drop start bits)
    ∙ ap (take (len - s)) (drop-drop s start bits)

pub front_field : (bits : List Bool) (start len n : ℕ) → n ≤ len → take n (take len (drop start bits)) ≡ take n (drop start bits)
front_field bits start len n h = take-take n len (drop start bits) h

pub behind_is : (octets : List ℕ) (start len n : ℕ) → n ≤ len → part_at octets (start + n) (len - n) ≡ behind (part_at octets start len) n
behind_is octets start len n h =
    ap (λ bits. part_with octets (start + n) bits) (sym (rest_field (octet_bits octets) start len n h))

pub front_is : (octets : List ℕ) (start len n : ℕ) → n ≤ len → part_at octets start n ≡ front (part_at octets start len) n
front_is octets start len n h =
    ap (λ bits. part_with octets start bits) (sym (front_field (octet_bits octets) start len n h))

pub part_is : (octets : List ℕ) (start len s n : ℕ) → s + n ≤ len → part_at octets (start + s) n ≡ front (behind (part_at octets start len) s) n
part_is octets start len s n h =
    ap (λ bits. part_with octets (start + s) bits) (sym (part_field (octet_bits octets) start len s n h))

pub take_octets : (i : ℕ) (octets : List ℕ) → take (8 * i) (octet_bits octets) ≡ octet_bits (take i octets)
take_octets zero octets = refl
take_octets (suc i) [] = take-nil (8 * suc i)
take_octets (suc i) (o ∷ octets) =
    let far : 8 * suc i ≡ length (digits 8 o) + 8 * i = omega (arith, length_digits 8 o) in
    ap (λ n. take n (digits 8 o ++ octet_bits octets)) far
    ∙ take-append-add (digits 8 o) (octet_bits octets) (8 * i)
    ∙ ap (λ l. digits 8 o ++ l) (take_octets i octets)

slice_get_or : {X : Type 0} (xs : List X) (i : ℕ) (d : X) → i < length xs → slice_get xs i ≡ Some (get_or xs i d)
slice_get_or [] i d h = absurd (omega arith)
slice_get_or (x ∷ xs) zero d h = refl
slice_get_or (x ∷ xs) (suc i) d h = slice_get_or xs i d (omega arith)

one_bit : (b : Bool) → nat_eq (value_of (b ∷ [])) 1 ≡ b
one_bit true = refl
one_bit false = refl

-- one bit of octets, read as a number
pub bit_there : (octets : List ℕ) (place : ℕ) → place < 8 * length octets
    → slice_get (octet_bits octets) place ≡ Some (nat_eq (value_of (take 1 (drop (place % 8) (digits 8 (get_or octets (place / 8) 0))))) 1)
bit_there octets place h =
    let within : place < length (octet_bits octets) = omega (arith, length_octet_bits octets) in
    slice_get_or (octet_bits octets) place false within
    ∙ ap Some
    (sym (one_bit (get_or (octet_bits octets) place false))
    ∙ ap (λ l. nat_eq (value_of (take 1 l)) 1) (sym (drop_more (octet_bits octets) place false within))
    ∙ ap (λ k. nat_eq (value_of (take 1 (drop k (octet_bits octets)))) 1) (omega arith)
    ∙ ap (λ l. nat_eq (value_of l) 1) (octet_field octets (place / 8) (place % 8) 1 (omega arith) (omega arith)))

-- eight bits are the bits of the octet that they read
eight_bits : (bits : List Bool) (at : ℕ) → at + 8 ≤ length bits → digits 8 (value_of (take 8 (drop at bits))) ≡ take 8 (drop at bits)
eight_bits bits at h =
    let eight : length (take 8 (drop at bits)) ≡ 8 = length-take 8 (drop at bits) ∙ omega (arith, length-drop at bits) in
    ap (λ n. digits n (value_of (take 8 (drop at bits)))) (sym eight) ∙ digits_value (take 8 (drop at bits))

pub octets_more : (bits : List Bool) (start i : ℕ) (other : List ℕ) → i < length other → start + 8 * length other ≤ length bits
    → take (8 * i) (drop start bits) ≡ octet_bits (take i other) → value_of (take 8 (drop (start + 8 * i) bits)) ≡ get_or other i 0
    → take (8 * (i + 1)) (drop start bits) ≡ octet_bits (take (i + 1) other)
octets_more bits start i other h fits e v =
    ap (λ n. take n (drop start bits)) (omega arith)
    ∙ take-add (8 * i) 8 (drop start bits)
    ∙ ap (λ l. l ++ take 8 (drop (8 * i) (drop start bits))) e
    ∙ ap (λ l. octet_bits (take i other) ++ l)
    (ap (take 8) (drop-drop (8 * i) start bits) ∙ sym (eight_bits bits (start + 8 * i) (omega arith)) ∙ ap (digits 8) v ∙ sym (append-nil (digits 8 (get_or other i 0))))
    ∙ sym (flat_map-append (digits 8) (take i other) (get_or other i 0 ∷ []))
    ∙ ap octet_bits (sym (take_more other i 0 h))

pub octets_differ : (bits : List Bool) (start i : ℕ) (other : List ℕ) → i < length other → get_or other i 0 < 256
    → take (8 * length other) (drop start bits) ≡ octet_bits other → value_of (take 8 (drop (start + 8 * i) bits)) ≡ get_or other i 0
octets_differ bits start i other h small e =
    ap value_of
    (sym (part_field bits start (8 * length other) (8 * i) 8 (omega arith))
    ∙ ap (λ l. take 8 (drop (8 * i) l)) e
    ∙ ap (λ k. take 8 (drop k (octet_bits other))) (omega arith)
    ∙ octet_field other i 0 8 h (omega arith)
    ∙ take_all 8 (digits 8 (get_or other i 0)) (omega (arith, length_digits 8 (get_or other i 0))))
    ∙ value_digits 8 (get_or other i 0)
    ∙ mod-eq_of_lt small

-- a field of a window is one of the octets
pub window_value : (octets : List ℕ) (at start n : ℕ) → at + 8 ≤ length octets → 8 * at ≤ start → start - 8 * at + n ≤ 64
    → value_of (take n (drop (start - 8 * at) (digits 64 (value_of (take 64 (drop (8 * at) (octet_bits octets))))))) ≡ value_of (take n (drop start (octet_bits octets)))
window_value octets at start n within before narrow =
    let window = take 64 (drop (8 * at) (octet_bits octets)) in
    let long : length window ≡ 64 = length_field octets (8 * at) 64 (omega arith) in
    let same : digits 64 (value_of window) ≡ window = ap (λ w. digits w (value_of window)) (sym long) ∙ digits_value window in
    ap (λ l. value_of (take n (drop (start - 8 * at) l))) same
    ∙ ap value_of (part_field (octet_bits octets) (8 * at) 64 (start - 8 * at) n (omega arith))
    ∙ ap (λ k. value_of (take n (drop k (octet_bits octets)))) (omega arith)
