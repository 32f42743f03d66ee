-- How far noise carries the sum of a bit.
use Rattle.std.proofs.Common.{◌≡◌, ℕ, ◌+◌, ◌<◌, ◌≤◌, ℤ, pos, negsuc, neg_ℤ, ◌+ℤ◌, ◌-ℤ◌, ◌≤ℤ◌, Bool, true, false, List, [], ◌∷◌, length, refl, sym, arith, unsigned_abs}
use Rattle.std.proofs.lemmas.Int.{ints}
use Rattle.tone_link.specs.Noise.{distance}
use Rattle.tone_link.specs.Tones.{pattern, samples_of_bit, signed, sum_by_signs}
use Rattle.tone_link.specs.ToneReading.{Says}

abs_above : (z : ℤ) → z ≤ℤ pos (unsigned_abs z)
abs_above (pos n) = omega (arith, ints)
abs_above (negsuc n) = omega (arith, ints)

abs_below : (z : ℤ) → neg_ℤ z ≤ℤ pos (unsigned_abs z)
abs_below (pos n) = omega (arith, ints)
abs_below (negsuc n) = omega (arith, ints)

-- two sums are no further apart than their samples
pub record AreNear (noise : ℕ) (sent received : ℤ) : Type 0 where
  pub above : received ≤ℤ (sent +ℤ pos noise)
  pub below : sent ≤ℤ (received +ℤ pos noise)

one_near : (sign : Bool) (a b : ℤ) → AreNear (unsigned_abs (b -ℤ a)) (signed sign a) (signed sign b)
one_near true a b =
    let p = abs_above (b -ℤ a) in
    let q = abs_below (b -ℤ a) in
    record { above = omega (arith, ints); below = omega (arith, ints) }
one_near false a b =
    let p = abs_above (b -ℤ a) in
    let q = abs_below (b -ℤ a) in
    record { above = omega (arith, ints); below = omega (arith, ints) }

both_near : (m n : ℕ) (a b c d : ℤ) → AreNear m a b → AreNear n c d → AreNear (m + n) (a +ℤ c) (b +ℤ d)
both_near m n a b c d p q = record { above = omega (arith, ints); below = omega (arith, ints) }

sums_near : (signs : List Bool) (sent received : List ℤ) → length sent ≡ length received
    → AreNear (distance sent received) (sum_by_signs signs sent) (sum_by_signs signs received)
sums_near [] sent received e = record { above = omega (arith, ints); below = omega (arith, ints) }
sums_near (sign ∷ signs) [] [] e = record { above = omega (arith, ints); below = omega (arith, ints) }
sums_near (sign ∷ signs) [] (b ∷ received) e = absurd (omega arith)
sums_near (sign ∷ signs) (a ∷ sent) [] e = absurd (omega arith)
sums_near (sign ∷ signs) (a ∷ sent) (b ∷ received) e =
    both_near (unsigned_abs (b -ℤ a)) (distance sent received) (signed sign a) (signed sign b)
    (sum_by_signs signs sent) (sum_by_signs signs received)
    (one_near sign a b) (sums_near signs sent received (omega arith))

-- with noise of at most 4000 a bit is said
pub faint_said : (bit : Bool) (received : List ℤ) → length received ≡ 8 → distance (samples_of_bit bit) received ≤ 4000
    → Says (sum_by_signs pattern received) bit
faint_said true received long h = let near = sums_near pattern (samples_of_bit true) received (sym long) in omega (arith, ints)
faint_said false received long h = let near = sums_near pattern (samples_of_bit false) received (sym long) in omega (arith, ints)

-- with noise below 12000 no other bit is said
pub noisy_said : (bit said : Bool) (received : List ℤ) → length received ≡ 8
    → distance (samples_of_bit bit) received < 12000 → Says (sum_by_signs pattern received) said → said ≡ bit
noisy_said true true received long h s = refl
noisy_said true false received long h s =
    let near = sums_near pattern (samples_of_bit true) received (sym long) in absurd (omega (arith, ints))
noisy_said false true received long h s =
    let near = sums_near pattern (samples_of_bit false) received (sym long) in absurd (omega (arith, ints))
noisy_said false false received long h s = refl
