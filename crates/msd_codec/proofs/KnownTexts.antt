-- The indices of characters in a number that reads many of them.
use Rattle.std.proofs.Common.{◌≡◌, ℕ, zero, suc, ◌+◌, ◌-◌, ◌*◌, ◌/◌, ◌%◌, ◌^◌, ◌<◌, ◌≤◌, Bool, List, ◌∷◌, length, take, drop, Ok, ap, sym, ◌∙◌, arith}
use Rattle.std.specs.Prelude.{slice_index}
use Rattle.std.proofs.lemmas.List.{length-append, length-take, length-drop}
use Rattle.per_bits.specs.Bits.{Part, digits, value_of, behind}
use Rattle.per_bits.proofs.Digits.{digits_field, digits_value, value_digits}
use Rattle.per_bits.proofs.Places.{part_field}
use Rattle.per_types.specs.Kinds as kind
use Rattle.per_types.specs.Kinds.{alphabet, width}
use Rattle.per_types.specs.Stops.{element_at}
use Rattle.per_types.specs.Reading.{◌>>=◌, character_at, text_at}
use Rattle.per_types.proofs.Elementwise.{character_ok, character_unknown}
use Rattle.per_types.proofs.Plans.{behind-behind, next_ok, element_taken}
use Rattle.msd_codec.proofs.Steps.{ok_same}
use Rattle.msd_codec.proofs.Identification.{text_behind, loop_stops}

-- six bits of a number
six_digits : (n k x : ℕ) → k + 6 ≤ n → value_of (take 6 (drop k (digits n x))) ≡ x / 2 ^ (n - 6 - k) % 64
six_digits n k x h =
    let e : n ≡ k + (6 + (n - 6 - k)) = omega arith in
    ap (λ w. value_of (take 6 (drop k (digits w x)))) e
    ∙ ap value_of (digits_field k 6 (n - 6 - k) x)
    ∙ value_digits 6 (x / 2 ^ (n - 6 - k))

-- the index that stands k bits behind the place in a number of n bits
pub index_there : (bits : List Bool) (at n k low number index : ℕ) → at + n ≤ length bits → k + 6 ≤ n → low ≡ n - 6 - k
    → number ≡ value_of (take n (drop at bits)) → index ≡ number / 2 ^ low % 64 → index ≡ value_of (take 6 (drop (at + k) bits))
index_there bits at n k low number index enough h low_is is index_is =
    let window : List Bool = take n (drop at bits) in
    let long : length window ≡ n = length-take n (drop at bits) ∙ omega (arith, length-drop at bits) in
    let same : digits n (value_of window) ≡ window = ap (λ w. digits w (value_of window)) (sym long) ∙ digits_value window in
    index_is
    ∙ ap (λ l. number / 2 ^ l % 64) low_is
    ∙ ap (λ x. x / 2 ^ (n - 6 - k) % 64) is
    ∙ sym (six_digits n k (value_of window) h)
    ∙ ap (λ l. value_of (take 6 (drop k l))) same
    ∙ ap value_of (part_field bits at n k 6 h)

-- the character with a known index
pub character_there : (p : Part) (i index : ℕ) → 6 * i + 6 ≤ length p.bits → index ≡ value_of (take 6 (drop (6 * i) p.bits)) → index < 33
    → character_at (behind p (6 * i)) ≡ Ok (slice_index alphabet index, behind p (6 * (i + 1)))
character_there p i index enough is known =
    let far : 6 * i + 6 ≡ 6 * (i + 1) = omega arith in
    character_ok (behind p (6 * i)) index (record { enough = omega (arith, length-drop (6 * i) p.bits); reads = is }) known
    ∙ ap (λ (q : Part). Ok (slice_index alphabet index, q)) (behind-behind p (6 * i) 6 ∙ ap (λ n. behind p n) far)

-- two numbers of 54 and 48 bits were read
pub long_enough : (p f g : Part) → f ≡ p → g ≡ behind f 54 → 54 ≤ length f.bits → 48 ≤ length g.bits → 102 ≤ length p.bits
long_enough p f g e d first last =
    let same : length f.bits ≡ length p.bits = ap (λ (q : Part). length q.bits) e in
    let left : length g.bits ≡ length f.bits - 54 = ap (λ (q : Part). length q.bits) d ∙ length-drop 54 f.bits in
    omega (arith, same, left)

-- one of the two could not be read
pub first_short : (p f : Part) → f ≡ p → length f.bits < 54 → length p.bits < 102
first_short p f e h = omega (arith, h, ap (λ (q : Part). length q.bits) e)

pub last_short : (p f g : Part) → f ≡ p → g ≡ behind f 54 → length g.bits < 48 → length p.bits < 102
last_short p f g e d h =
    let same : length f.bits ≡ length p.bits = ap (λ (q : Part). length q.bits) e in
    let left : length g.bits ≡ length f.bits - 54 = ap (λ (q : Part). length q.bits) d ∙ length-drop 54 f.bits in
    omega (arith, same, left, h)

-- ---- where the characters are refused

one_long : (p q : Part) (v : ℕ) → character_at p ≡ Ok (v, q) → length p.bits ≡ 6 + length q.bits
unfolding character_at width
one_long p q v e =
    let b = next_ok (element_at kind.character p) (λ b. Ok (slice_index alphabet (value_of b.0), b.1)) (v, q) e in
    let taken = element_taken kind.character p b.0 b.1 in
    let same = ok_same (slice_index alphabet (value_of b.0.0), b.0.1) (v, q) b.2 in
    ap length taken.parts ∙ length-append b.0.0 b.0.1.bits ∙ omega (arith, taken.accepted.width, ap (λ (r : Part). length r.bits) same.1)

text_long : (n : ℕ) (p q : Part) (cs : List ℕ) → text_at n p ≡ Ok (cs, q) → 6 * n ≤ length p.bits
unfolding text_at
text_long zero p q cs e = omega arith
text_long (suc n) p q cs e =
    let c = next_ok (character_at p) (λ c. text_at n c.1 >>= λ cs. Ok (c.0 ∷ cs.0, cs.1)) (cs, q) e in
    let rest = next_ok (text_at n c.0.1) (λ cs. Ok (c.0.0 ∷ cs.0, cs.1)) (cs, q) c.2 in
    omega (arith, one_long p c.0.1 c.0.0 c.1, text_long n c.0.1 rest.0.1 rest.0.0 rest.1)

pub never_short : (p : Part) → length p.bits < 102 → (v : List ℕ) (q : Part) → text_at 17 p ≡ Ok (v, q) → ⊥
never_short p h v q e = omega (arith, h, text_long 17 p q v e)

pub never_unknown : (p : Part) (cs : List ℕ) (i index : ℕ) → i < 17 → 6 * i + 6 ≤ length p.bits → index ≡ value_of (take 6 (drop (6 * i) p.bits)) → 33 ≤ index
    → text_at 17 p ≡ text_behind (take i cs) (text_at (17 - i) (behind p (6 * i))) → (v : List ℕ) (q : Part) → text_at 17 p ≡ Ok (v, q) → ⊥
never_unknown p cs i index h enough is high read v q e =
    let there = character_unknown (behind p (6 * i)) index (record { enough = omega (arith, length-drop (6 * i) p.bits); reads = is }) high in
    let stops = loop_stops p (behind p (6 * i)) cs i _ h read there in
    absurd (cc (stops, e))
