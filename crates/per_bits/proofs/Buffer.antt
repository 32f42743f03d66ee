-- A buffer of octets whose bits behind a place are 0: one step of writing into a window of 64 bits, and what it pads to.
use Rattle.std.proofs.Common.{◌≡◌, ℕ, ◌+◌, ◌-◌, ◌*◌, ◌/◌, ◌%◌, ◌^◌, ◌<◌, ◌≤◌, zero, suc, Bool, false, List, [], ◌∷◌, ◌++◌, length, take, drop, get_or, replicate, min, refl, ap, sym, subst, ◌∙◌, arith}
use Rattle.std.proofs.lemmas.List.{length-append, length-take, length-drop, length-replicate, take-append-drop, append_assoc, take-take, take-append-le, drop-append-le, take-replicate, drop-replicate, replicate-append-replicate, drop-drop}
use Rattle.std.proofs.lemmas.Grind.{flat_map-append}
use Rattle.std.proofs.lemmas.Nat.{pow-add, pow_pos, mod_below}
use Rattle.std.proofs.Math.Nat.{mod-eq_of_lt, pow-suc}
use Rattle.std.specs.Int.{byte_at, bytes_high_first}
use borrow.Rule.Slice.PartMut.{put_mid}
use Rattle.std.proofs.Math.Seq.{take-add, take-append-add, drop-append-add}
use Rattle.per_bits.specs.Bits.{digits, value_of, octet_bits, octets_of, padded}
use Rattle.per_bits.specs.Parts.{AreOctets}
use Rattle.per_bits.proofs.Digits.{length_digits, value_below, value_digits, digits_value, digits_append, digits_low, value_append}
use Rattle.per_bits.proofs.Octets.{are_octets, octets_of_bits}
use Rattle.per_bits.proofs.Places.{length_prefix, take_octets, drop_octets}

pub zero_octet : digits 8 0 ≡ replicate 8 false
unfolding digits
zero_octet = refl

pub octet_bits_zeros : (n : ℕ) → octet_bits (replicate n 0) ≡ replicate (8 * n) false
octet_bits_zeros zero = refl
octet_bits_zeros (suc n) =
    ap (λ l. l ++ octet_bits (replicate n 0)) zero_octet
    ∙ ap (λ l. replicate 8 false ++ l) (octet_bits_zeros n)
    ∙ replicate-append-replicate 8 (8 * n) false
    ∙ ap (λ k. replicate k false) (omega arith)

value_zeros : (n : ℕ) → value_of (replicate n false) ≡ 0
value_zeros zero = refl
value_zeros (suc n) = value_zeros n

value_before_zeros : (bits : List Bool) (n : ℕ) → value_of (bits ++ replicate n false) ≡ value_of bits * 2 ^ n
value_before_zeros bits n =
    value_append bits (replicate n false)
    ∙ ap (λ k. value_of bits * 2 ^ k + value_of (replicate n false)) (length-replicate n false)
    ∙ omega (arith, value_zeros n)

joined : (a b c d : ℕ) → a * (b * c) + d * c ≡ (a * b + d) * c
joined a b c d = omega arith

window_long : (bits : List Bool) (k n piece : ℕ) → length bits ≡ k → k + n ≤ 64 → length ((bits ++ digits n piece) ++ replicate (64 - k - n) false) ≡ 64
window_long bits k n piece e fits =
    length-append (bits ++ digits n piece) (replicate (64 - k - n) false)
    ∙ omega (arith, length-append bits (digits n piece), length_digits n piece, length-replicate (64 - k - n) false)

-- n bits more in a window whose bits behind the first ones are 0
window_with : (bits : List Bool) (k n piece w : ℕ) → length bits ≡ k → k + n ≤ 64 → w ≡ value_of (bits ++ replicate (64 - k) false) → piece < 2 ^ n
    → w + piece * 2 ^ (64 - k - n) ≡ value_of ((bits ++ digits n piece) ++ replicate (64 - k - n) false)
window_with bits k n piece w e fits is below =
    let far : n + (64 - k - n) ≡ 64 - k = omega arith in
    ap (λ x. x + piece * 2 ^ (64 - k - n)) (is ∙ value_before_zeros bits (64 - k))
    ∙ ap (λ x. value_of bits * 2 ^ x + piece * 2 ^ (64 - k - n)) (sym far)
    ∙ ap (λ x. value_of bits * x + piece * 2 ^ (64 - k - n)) (pow-add 2 n (64 - k - n))
    ∙ joined (value_of bits) (2 ^ n) (2 ^ (64 - k - n)) piece
    ∙ ap (λ x. x * 2 ^ (64 - k - n))
    (sym (value_append bits (digits n piece)
    ∙ ap (λ x. value_of bits * 2 ^ x + value_of (digits n piece)) (length_digits n piece)
    ∙ ap (λ x. value_of bits * 2 ^ n + x) (value_digits n piece ∙ mod-eq_of_lt below)))
    ∙ sym (value_before_zeros (bits ++ digits n piece) (64 - k - n))

times_both : (a b c : ℕ) → a * b * c ≡ a * (b * c)
times_both a b c = omega arith

-- a shift after a shift
pub shifted_twice : (a j k : ℕ) → a * 2 ^ j * 2 ^ k ≡ a * 2 ^ (j + k)
shifted_twice a j k = times_both a (2 ^ j) (2 ^ k) ∙ ap (λ p. a * p) (sym (pow-add 2 j k))

-- the window at a place is the bits that stand in it, and zeros
window_there : (bits front : List Bool) (size at k : ℕ) → bits ≡ front ++ replicate (size - length front) false → length front ≡ at + k → k ≤ 64 → at + 64 ≤ size
    → take 64 (drop at bits) ≡ drop at front ++ replicate (64 - k) false
window_there bits front size at k is place below h =
    let far : 64 ≡ length (drop at front) + (64 - k) = omega (arith, length-drop at front) in
    ap (λ l. take 64 (drop at l)) is
    ∙ ap (take 64) (drop-append-le at front (replicate (size - length front) false) (omega arith))
    ∙ ap (λ n. take n (drop at front ++ replicate (size - length front) false)) far
    ∙ take-append-add (drop at front) (replicate (size - length front) false) (64 - k)
    ∙ ap (λ l. drop at front ++ l) (take-replicate (64 - k) (size - length front) false (omega arith))

-- the lists of a step, put together
regroup : (a b c x y : List Bool) → a ++ (((b ++ c) ++ x) ++ y) ≡ ((a ++ b) ++ c) ++ (x ++ y)
regroup a b c x y = simp append_assoc

-- a window with n bits more is a number of 64 bits
pub put_value : (bits front : List Bool) (size at k n piece w : ℕ) → bits ≡ front ++ replicate (size - length front) false
    → length front ≡ at + k → at + 64 ≤ size → k + n ≤ 64 → piece < 2 ^ n → w ≡ value_of (take 64 (drop at bits))
    → w + piece * 2 ^ (64 - k - n) ≡ value_of ((drop at front ++ digits n piece) ++ replicate (64 - k - n) false)
put_value bits front size at k n piece w is place h fits less e =
    window_with (drop at front) k n piece w (length-drop at front ∙ omega arith) fits
    (e ∙ ap value_of (window_there bits front size at k is place (omega arith) h)) less

pub put_fits : (bits front : List Bool) (size at k n piece w : ℕ) → bits ≡ front ++ replicate (size - length front) false
    → length front ≡ at + k → at + 64 ≤ size → k + n ≤ 64 → piece < 2 ^ n → w ≡ value_of (take 64 (drop at bits))
    → w + piece * 2 ^ (64 - k - n) < 2 ^ 64
put_fits bits front size at k n piece w is place h fits less e =
    let window : List Bool = (drop at front ++ digits n piece) ++ replicate (64 - k - n) false in
    let long : length window ≡ 64 = window_long (drop at front) k n piece (length-drop at front ∙ omega arith) fits in
    subst (λ v. v < 2 ^ 64) (sym (put_value bits front size at k n piece w is place h fits less e))
    (subst (λ m. value_of window < 2 ^ m) long (value_below window))

-- it is set between the bits before it and those behind it
pub put_step : (bits front : List Bool) (size at k n piece w : ℕ) → bits ≡ front ++ replicate (size - length front) false
    → length front ≡ at + k → at + 64 ≤ size → k + n ≤ 64 → piece < 2 ^ n → w ≡ value_of (take 64 (drop at bits))
    → take at bits ++ (digits 64 (w + piece * 2 ^ (64 - k - n)) ++ drop (at + 64) bits) ≡ (front ++ digits n piece) ++ replicate (size - (length front + n)) false
put_step bits front size at k n piece w is place h fits less e =
    let window : List Bool = (drop at front ++ digits n piece) ++ replicate (64 - k - n) false in
    let long : length window ≡ 64 = window_long (drop at front) k n piece (length-drop at front ∙ omega arith) fits in
    let rest : drop (at + 64) bits ≡ replicate (size - length front - (64 - k)) false =
    ap (drop (at + 64)) is
    ∙ ap (λ m. drop m (front ++ replicate (size - length front) false)) (omega arith)
    ∙ drop-append-add front (replicate (size - length front) false) (64 - k)
    ∙ drop-replicate (64 - k) (size - length front) false in
    let before : take at bits ≡ take at front =
    ap (take at) is ∙ take-append-le at front (replicate (size - length front) false) (omega arith) in
    let here : digits 64 (w + piece * 2 ^ (64 - k - n)) ≡ window =
    ap (digits 64) (put_value bits front size at k n piece w is place h fits less e)
    ∙ ap (λ m. digits m (value_of window)) (sym long)
    ∙ digits_value window in
    ap (λ l. l ++ (digits 64 (w + piece * 2 ^ (64 - k - n)) ++ drop (at + 64) bits)) before
    ∙ ap (λ l. take at front ++ (l ++ drop (at + 64) bits)) here
    ∙ ap (λ l. take at front ++ (window ++ l)) rest
    ∙ regroup (take at front) (drop at front) (digits n piece) (replicate (64 - k - n) false) (replicate (size - length front - (64 - k)) false)
    ∙ ap (λ l. (l ++ digits n piece) ++ (replicate (64 - k - n) false ++ replicate (size - length front - (64 - k)) false)) (take-append-drop at front)
    ∙ ap (λ l. (front ++ digits n piece) ++ l)
    (replicate-append-replicate (64 - k - n) (size - length front - (64 - k)) false ∙ ap (λ m. replicate m false) (omega arith))

-- ---- the octets of a window

octet_power : (k : ℕ) → 256 ^ k ≡ 2 ^ (8 * k)
octet_power zero = refl
octet_power (suc k) = pow-suc 256 k ∙ ap (λ p. p * 256) (octet_power k) ∙ sym (pow-add 2 (8 * k) 8) ∙ ap (λ e. 2 ^ e) (omega arith)

octet_there : (k x : ℕ) → digits 8 (byte_at k x) ≡ digits 8 (x / 2 ^ (8 * k))
octet_there zero x = digits_low 8 (x % 256) (x / 1) (omega arith)
octet_there (suc k) x =
    digits_low 8 (x / 256 ^ suc k % 256) (x / 256 ^ suc k) (mod-eq_of_lt (mod_below (x / 256 ^ suc k) 256 (omega arith)))
    ∙ ap (λ p. digits 8 (x / p)) (octet_power (suc k))

pub high_first_bits : (k x : ℕ) → octet_bits (bytes_high_first k x) ≡ digits (8 * k) x
unfolding digits
high_first_bits zero x = refl
high_first_bits (suc k) x =
    ap (λ l. digits 8 (byte_at k x) ++ l) (high_first_bits k x)
    ∙ ap (λ l. l ++ digits (8 * k) x) (octet_there k x)
    ∙ sym (digits_append 8 (8 * k) x)
    ∙ ap (λ w. digits w x) (omega arith)

-- eight octets written over others
pub window_set : (octets : List ℕ) (at w : ℕ) → octet_bits (put_mid at 8 octets (bytes_high_first 8 w)) ≡ take (8 * at) (octet_bits octets) ++ (digits 64 w ++ drop (8 * (at + 8)) (octet_bits octets))
window_set octets at w =
    ap (λ l. octet_bits (take at octets ++ (bytes_high_first 8 w ++ l))) (drop-drop 8 at octets)
    ∙ flat_map-append (digits 8) (take at octets) (bytes_high_first 8 w ++ drop (at + 8) octets)
    ∙ ap (λ l. octet_bits (take at octets) ++ l) (flat_map-append (digits 8) (bytes_high_first 8 w) (drop (at + 8) octets))
    ∙ ap (λ l. octet_bits (take at octets) ++ (l ++ octet_bits (drop (at + 8) octets))) (high_first_bits 8 w)
    ∙ ap (λ l. l ++ (digits 64 w ++ octet_bits (drop (at + 8) octets))) (sym (take_octets at octets))
    ∙ ap (λ l. take (8 * at) (octet_bits octets) ++ (digits 64 w ++ l)) (sym (drop_octets (at + 8) octets))

-- ---- places

pub front_and_rest : (all : List Bool) (at n : ℕ) → drop at all ≡ replicate n false → all ≡ take at all ++ replicate n false
front_and_rest all at n e = sym (take-append-drop at all) ∙ ap (λ l. take at all ++ l) e

-- how long the bits before a place are
pub front_long : (octets : List ℕ) (start n m at : ℕ) → start + n ≡ at → start ≤ 8 * length octets → length (take start (octet_bits octets) ++ digits n m) ≡ at
front_long octets start n m at e h = length-append (take start (octet_bits octets)) (digits n m) ∙ omega (arith, length_prefix octets start h, length_digits n m)

-- the bits of a number, those before its last 32 and these
pub two_parts : (width value : ℕ) → 32 ≤ width → digits (width - 32) (value / 2 ^ 32) ++ digits 32 (value % 2 ^ 32) ≡ digits width value
two_parts width value h =
    ap (λ l. digits (width - 32) (value / 2 ^ 32) ++ l) (digits_low 32 (value % 2 ^ 32) value (mod-eq_of_lt (mod_below value (2 ^ 32) (pow_pos 32))))
    ∙ sym (digits_append (width - 32) 32 value)
    ∙ ap (λ w. digits w value) (omega arith)

are_octets_take : (m : ℕ) (octets : List ℕ) → AreOctets octets → AreOctets (take m octets)
are_octets_take zero octets small = tt
are_octets_take (suc m) [] small = tt
are_octets_take (suc m) (o ∷ octets) small = (small.0, are_octets_take m octets small.1)

-- the octets that begin with the first n bits, where only zeros follow these
pub padded_is : (octets : List ℕ) (n m : ℕ) → ((i : ℕ) → get_or octets i 0 < 256) → n ≤ 8 * length octets → drop n (octet_bits octets) ≡ replicate (8 * length octets - n) false
    → m ≡ n / 8 + min 1 (n % 8) → take m octets ≡ padded (take n (octet_bits octets))
padded_is octets n m small within clear e =
    let far : 8 * m ≡ n + (8 - n % 8) % 8 = omega arith in
    let fill : take ((8 - n % 8) % 8) (drop n (octet_bits octets)) ≡ replicate ((8 - n % 8) % 8) false =
    ap (take ((8 - n % 8) % 8)) clear ∙ take-replicate ((8 - n % 8) % 8) (8 * length octets - n) false (omega arith) in
    sym (octets_of_bits (take m octets) (are_octets_take m octets (are_octets octets small)))
    ∙ ap octets_of
    (sym (take_octets m octets)
    ∙ ap (λ k. take k (octet_bits octets)) far
    ∙ take-add n ((8 - n % 8) % 8) (octet_bits octets)
    ∙ ap (λ l. take n (octet_bits octets) ++ l) fill
    ∙ ap (λ k. take n (octet_bits octets) ++ replicate ((8 - k % 8) % 8) false) (sym (length_prefix octets n within)))

-- the next n bits, written as the number that they read
pub next_bits : (bits : List Bool) (done n : ℕ) → done + n ≤ length bits → take done bits ++ digits n (value_of (take n (take n (drop done bits)))) ≡ take (done + n) bits
next_bits bits done n h =
    let long : length (take n (drop done bits)) ≡ n = length-take n (drop done bits) ∙ omega (arith, length-drop done bits) in
    ap (λ l. take done bits ++ digits n (value_of l)) (take-take n n (drop done bits) (omega arith))
    ∙ ap (λ k. take done bits ++ digits k (value_of (take n (drop done bits)))) (sym long)
    ∙ ap (λ l. take done bits ++ l) (digits_value (take n (drop done bits)))
    ∙ sym (take-add done n bits)
