-- Numbers and their bits: the laws that join `digits` and `value_of`, and cut and join both.
use Rattle.std.proofs.Common.{◌≡◌, ℕ, ◌+◌, ◌-◌, ◌*◌, ◌/◌, ◌%◌, ◌^◌, ◌<◌, ◌≤◌, zero, suc, Bool, true, false, nat_eq, List, [], ◌∷◌, ◌++◌, length, take, drop, refl, ap, sym, ◌∙◌, arith, zero-add, one-add, suc-add}
use Rattle.std.proofs.Math.Nat.{pow-suc, mod-eq_of_lt}
use Rattle.std.proofs.lemmas.Nat.{pow_pos, mod-pow-add, shl-shr, shr-shr, field_of, mod_below, pow-add, same_from_place}
use Rattle.std.proofs.lemmas.List.{length-append, take_at, drop_at}
use Rattle.per_bits.specs.Bits.{digits, value_of}

pub length_digits : (width n : ℕ) → length (digits width n) ≡ width
unfolding digits
length_digits zero n = refl
length_digits (suc width) n = ap suc (length_digits width n)

pub value_below : (bits : List Bool) → value_of bits < 2 ^ length bits
value_below [] = omega arith
value_below (true ∷ bits) = rw pow-suc (omega (arith, value_below bits))
value_below (false ∷ bits) = rw pow-suc (omega (arith, value_below bits))

pub value_append : (a b : List Bool) → value_of (a ++ b) ≡ value_of a * 2 ^ length b + value_of b
value_append [] b = omega arith
value_append (true ∷ a) b = rw (value_append a b, length-append a b, pow-add 2 (length a) (length b)) (omega arith)
value_append (false ∷ a) b = value_append a b

-- a number of width + 1 bits is its first bit and the others
pub first_bit : (width n : ℕ) → n % 2 ^ suc width ≡ (n / 2 ^ width % 2) * 2 ^ width + n % 2 ^ width
first_bit width n = ap (λ k. n % 2 ^ k) (sym (one-add width)) ∙ mod-pow-add n 1 width

same_parts : (width m n : ℕ) → m % 2 ^ suc width ≡ n % 2 ^ suc width → (m / 2 ^ width % 2 ≡ n / 2 ^ width % 2) × (m % 2 ^ width ≡ n % 2 ^ width)
same_parts width m n e =
    same_from_place _ _ _ _ (2 ^ width) (mod_below m (2 ^ width) (pow_pos width)) (mod_below n (2 ^ width) (pow_pos width))
    (sym (first_bit width m) ∙ e ∙ first_bit width n)

-- only the low bits of a number count
pub digits_low : (width m n : ℕ) → m % 2 ^ width ≡ n % 2 ^ width → digits width m ≡ digits width n
unfolding digits
digits_low zero m n e = refl
digits_low (suc width) m n e =
    let high = (same_parts width m n e).0 in
    let low = digits_low width m n ((same_parts width m n e).1) in
    cc

value_bit : (d : ℕ) (bits : List Bool) → d < 2 → value_of (nat_eq d 1 ∷ bits) ≡ d * 2 ^ length bits + value_of bits
value_bit zero bits h = omega arith
value_bit (suc zero) bits h = omega arith
value_bit (suc (suc d)) bits h = absurd (omega arith)

pub value_digits : (width n : ℕ) → value_of (digits width n) ≡ n % 2 ^ width
unfolding digits
value_digits zero n = omega arith
value_digits (suc width) n =
    value_bit (n / 2 ^ width % 2) (digits width n) (omega arith)
    ∙ rw (length_digits width n, value_digits width n) (sym (first_bit width n))

-- bits of one length that read one number are the same
pub same_bits : (a b : List Bool) → length a ≡ length b → value_of a ≡ value_of b → a ≡ b
same_bits [] [] l e = refl
same_bits [] (y ∷ b) l e = absurd (omega arith)
same_bits (x ∷ a) [] l e = absurd (omega arith)
same_bits (true ∷ a) (true ∷ b) l e =
    let s : length a ≡ length b = omega arith in
    ap (λ c. true ∷ c) (same_bits a b s (omega (arith, ap (λ n. 2 ^ n) s)))
same_bits (false ∷ a) (false ∷ b) l e = ap (λ c. false ∷ c) (same_bits a b (omega arith) e)
same_bits (true ∷ a) (false ∷ b) l e =
    let s : length a ≡ length b = omega arith in
    absurd (omega (arith, ap (λ n. 2 ^ n) s, value_below b))
same_bits (false ∷ a) (true ∷ b) l e =
    let s : length a ≡ length b = omega arith in
    absurd (omega (arith, ap (λ n. 2 ^ n) s, value_below a))

pub value_small : (bits : List Bool) → value_of bits % 2 ^ length bits ≡ value_of bits
value_small bits = mod-eq_of_lt (value_below bits)

pub digits_value : (bits : List Bool) → digits (length bits) (value_of bits) ≡ bits
digits_value bits = same_bits _ _ (length_digits (length bits) (value_of bits)) (value_digits (length bits) (value_of bits) ∙ value_small bits)

pub digits_append : (a b n : ℕ) → digits (a + b) n ≡ digits a (n / 2 ^ b) ++ digits b n
unfolding digits
digits_append zero b n = ap (λ k. digits k n) (zero-add b)
digits_append (suc a) b n =
    let high : n / 2 ^ b / 2 ^ a ≡ n / 2 ^ (a + b) = shr-shr n b a ∙ ap (λ k. n / 2 ^ k) (omega arith) in
    let rest = digits_append a b n in
    ap (λ k. digits k n) (suc-add a b) ∙ cc

-- the n bits of a number behind its first k ones, where m bits follow them
pub digits_field : (k n m x : ℕ) → take n (drop k (digits (k + (n + m)) x)) ≡ digits n (x / 2 ^ m)
digits_field k n m x =
    rw (digits_append k (n + m) x, drop_at (digits k (x / 2 ^ (n + m))) (digits (n + m) x) k (length_digits k (x / 2 ^ (n + m))), digits_append n m x)
    (take_at (digits n (x / 2 ^ m)) (digits m x) n (length_digits n (x / 2 ^ m)))

pub octet_field_value : (k n o : ℕ) → k + n ≤ 8 → value_of (take n (drop k (digits 8 o))) ≡ o / 2 ^ (8 - k - n) % 2 ^ n
octet_field_value k n o h =
    let e : 8 ≡ k + (n + (8 - k - n)) = omega arith in
    ap (λ w. value_of (take n (drop k (digits w o)))) e
    ∙ ap value_of (digits_field k n (8 - k - n) o)
    ∙ value_digits n (o / 2 ^ (8 - k - n))

-- the same of the number that a window of 64 bits reads
pub window_field_value : (k n x : ℕ) → k + n ≤ 64 → value_of (take n (drop k (digits 64 x))) ≡ x * 2 ^ k % 2 ^ 64 / 2 ^ (64 - n)
window_field_value k n x h =
    let e : 64 ≡ k + (n + (64 - k - n)) = omega arith in
    let whole : n + (64 - n) ≡ 64 = omega arith in
    let before : k + (64 - k - n) ≡ 64 - n = omega arith in
    ap (λ w. value_of (take n (drop k (digits w x)))) e
    ∙ ap value_of (digits_field k n (64 - k - n) x)
    ∙ value_digits n (x / 2 ^ (64 - k - n))
    ∙ ap (λ y. y / 2 ^ (64 - k - n) % 2 ^ n) (sym (shl-shr x k))
    ∙ ap (λ y. y % 2 ^ n) (shr-shr (x * 2 ^ k) k (64 - k - n))
    ∙ ap (λ m. x * 2 ^ k / 2 ^ m % 2 ^ n) before
    ∙ sym (field_of (x * 2 ^ k) n (64 - n))
    ∙ ap (λ m. x * 2 ^ k % 2 ^ m / 2 ^ (64 - n)) whole
