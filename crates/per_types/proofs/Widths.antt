-- The least width of a number.
use Rattle.std.proofs.Common.{◌≡◌, ℕ, zero, suc, ◌+◌, ◌^◌, ◌<◌, ◌≤◌, Bool, true, false, refl, ap, sym, subst, arith, inl, inr}
use Rattle.std.proofs.lemmas.Bool.{cases_lt, lt-ltb, le-ltb}
use Rattle.std.proofs.Math.Pow.{pow_mono}
use Rattle.std.proofs.Math.Nat.{pow-suc}
use Rattle.per_types.specs.Kinds.{IsLeastWidth, width_of, width_from}

first_fits : (fuel w n : ℕ) → n < 2 ^ w → width_from (suc fuel) w n ≡ w
unfolding width_from
first_fits fuel w n h = ap (λ (b : Bool). elim b as (λ _. ℕ) [ true ↦ w | false ↦ width_from fuel (suc w) n ]) (lt-ltb n (2 ^ w) h)

next_fits : (fuel w n : ℕ) → 2 ^ w ≤ n → width_from (suc fuel) w n ≡ width_from fuel (suc w) n
unfolding width_from
next_fits fuel w n h = ap (λ (b : Bool). elim b as (λ _. ℕ) [ true ↦ w | false ↦ width_from fuel (suc w) n ]) (le-ltb n (2 ^ w) h)

none_fits : (w n : ℕ) → width_from zero w n ≡ w
unfolding width_from
none_fits w n = refl

from_enough : (fuel w n : ℕ) → n < 2 ^ (w + fuel) → n < 2 ^ width_from fuel w n
from_enough zero w n h = rw (none_fits w n) (subst (λ (k : ℕ). n < 2 ^ k) (omega arith) h)
from_enough (suc fuel) w n h =
    elim (cases_lt n (2 ^ w)) [
      | inl lt ↦ rw (first_fits fuel w n lt) lt
      | inr le ↦ rw (next_fits fuel w n le) (from_enough fuel (suc w) n (subst (λ (k : ℕ). n < 2 ^ k) (omega arith) h))
    ]

from_least : (fuel w n v : ℕ) → w ≤ v → n < 2 ^ v → width_from fuel w n ≤ v
from_least zero w n v h lt = rw (none_fits w n) h
from_least (suc fuel) w n v h lt =
    elim (cases_lt n (2 ^ w)) [
      | inl under ↦ rw (first_fits fuel w n under) h
      | inr le ↦ rw (next_fits fuel w n le) (from_least fuel (suc w) n v (above w n v le lt) lt)
    ]
  where
    above : (w n v : ℕ) → 2 ^ w ≤ n → n < 2 ^ v → suc w ≤ v
    above w n v le lt =
        elim (cases_lt w v) [
          | inl under ↦ under
          | inr over ↦ absurd (let p : 2 ^ v ≤ 2 ^ w = pow_mono over in omega arith)
        ]

below_power : (n : ℕ) → n < 2 ^ n
below_power zero = omega arith
below_power (suc n) = rw pow-suc (omega (arith, below_power n))

pub width_enough : (n : ℕ) → n < 2 ^ width_of n
unfolding width_of
width_enough n = from_enough n 0 n (subst (λ (k : ℕ). n < 2 ^ k) (omega arith) (below_power n))

pub width_least : (n w : ℕ) → n < 2 ^ w → width_of n ≤ w
unfolding width_of
width_least n w h = from_least n 0 n w (omega arith) h

pub width_most : (n : ℕ) → n < 2 ^ 64 → width_of n ≤ 64
width_most n h = width_least n 64 h

pub width_is : (n : ℕ) → IsLeastWidth n (width_of n)
width_is n = record { enough = width_enough n; least = λ v h. width_least n v h }

-- there is one least width
pub same_width : (n v w : ℕ) → IsLeastWidth n v → IsLeastWidth n w → v ≡ w
same_width n v w a b = omega (arith, a.least w b.enough, b.least v a.enough)

pub only_width : (n w : ℕ) → IsLeastWidth n w → w ≡ width_of n
only_width n w h = same_width n w (width_of n) h (width_is n)

pub has_width : (n w : ℕ) → w ≡ width_of n → IsLeastWidth n w
has_width n w e = let P : ℕ → Type 0 = λ k. IsLeastWidth n k in subst P (sym e) (width_is n)
