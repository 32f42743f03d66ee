-- The samples of an octet, bit by bit.
use Rattle.std.proofs.Common.{◌≡◌, ℕ, ◌+◌, ◌-◌, ◌*◌, ◌/◌, ◌%◌, ◌^◌, ◌<◌, ◌≤◌, ℤ, Bool, true, false, nat_eq, List, [], ◌∷◌, ◌++◌, length, ap, refl, sym, arith, append_assoc, append-nil, length-append, length-take, take, bit_and, ◌∙◌}
use Rattle.std.proofs.lemmas.Grind.{flat_map-append}
use Rattle.std.proofs.lemmas.Nat.{and_mask, shr-shr}
use Rattle.per_bits.proofs.Digits.{digits_append, length_digits}
use Rattle.per_bits.proofs.Places.{length_octet_bits}
use Rattle.per_bits.specs.Bits.{digits, octet_bits}
use Rattle.tone_link.specs.Tones.{samples_of, samples_of_bit}

pub length_samples_of_bit : (bit : Bool) → length (samples_of_bit bit) ≡ 8
length_samples_of_bit true = refl
length_samples_of_bit false = refl

pub length_samples : (bits : List Bool) → length (samples_of bits) ≡ 8 * length bits
length_samples [] = refl
length_samples (x ∷ bits) =
    length-append (samples_of_bit x) (samples_of bits) ∙ omega (arith, length_samples_of_bit x, length_samples bits)

-- the front of a number's bits, and one more
front_more : (n x : ℕ) → digits (n + 1) x ≡ digits n (x / 2 ^ 1) ++ nat_eq (bit_and x 1) 1 ∷ []
unfolding digits
front_more n x =
    let low : x / 2 ^ 0 % 2 ≡ bit_and x 1 = omega (arith, and_mask x 1) in
    digits_append n 1 x ∙ ap (λ k. digits n (x / 2 ^ 1) ++ nat_eq k 1 ∷ []) low

-- the samples of an octet's first n bits stand behind others; then those of its next bit behind them
pub octet_more : (start items : List ℤ) (n octet : ℕ) → n < 8
    → items ≡ start ++ samples_of (digits n (octet / 2 ^ (8 - n)))
    → items ++ samples_of_bit (nat_eq (bit_and (octet / 2 ^ (7 - n)) 1) 1)
    ≡ start ++ samples_of (digits (n + 1) (octet / 2 ^ (8 - (n + 1))))
octet_more start items n octet h e =
    let low = octet / 2 ^ (7 - n) in
    let bit : Bool = nat_eq (bit_and (octet / 2 ^ (7 - n)) 1) 1 in
    let places : 7 - n + 1 ≡ 8 - n = omega arith in
    let next : 7 - n ≡ 8 - (n + 1) = omega arith in
    let high : low / 2 ^ 1 ≡ octet / 2 ^ (8 - n) = shr-shr octet (7 - n) 1 ∙ ap (λ k. octet / 2 ^ k) places in
    let front : digits (n + 1) low ≡ digits n (octet / 2 ^ (8 - n)) ++ bit ∷ [] =
    front_more n low ∙ ap (λ k. digits n k ++ bit ∷ []) high in
    ap (λ l. l ++ samples_of_bit bit) e
    ∙ append_assoc start (samples_of (digits n (octet / 2 ^ (8 - n)))) (samples_of_bit bit)
    ∙ ap (λ l. start ++ l)
    (ap (λ l. samples_of (digits n (octet / 2 ^ (8 - n))) ++ l) (sym (append-nil (samples_of_bit bit)))
    ∙ sym (flat_map-append samples_of_bit (digits n (octet / 2 ^ (8 - n))) (bit ∷ []))
    ∙ ap samples_of (sym front)
    ∙ ap (λ k. samples_of (digits (n + 1) (octet / 2 ^ k))) next)

pub octet_length : (start items : List ℤ) (n x : ℕ) → items ≡ start ++ samples_of (digits n x) → length items ≡ length start + 8 * n
octet_length start items n x e =
    ap length e ∙ length-append start (samples_of (digits n x))
    ∙ omega (arith, length_samples (digits n x), length_digits n x)

-- there is room for one octet more of a frame
pub octet_room : (items : List ℤ) (octets : List ℕ) (k : ℕ) → items ≡ samples_of (octet_bits (take k octets))
    → k < length octets → length octets ≤ 143 → length items + 64 ≤ 9152
octet_room items octets k e less few =
    omega
    (arith, ap length e, length_samples (octet_bits (take k octets)), length_octet_bits (take k octets), length-take k octets)
