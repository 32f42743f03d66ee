-- Numbers that a cast leaves as they are.
use Rattle.std.proofs.Common.{◌≡◌, ℕ, ◌≤◌, refl, sym, ap, ◌∙◌, arith, w16, w32, w64}
use Rattle.std.specs.Prelude.{ℤ, pos, negsuc, ◌≤ℤ◌, unsigned_abs}
use Rattle.std.proofs.lemmas.Int.{ints, to_z-of_z}
use mir.Val.{SFits, of_z, to_z}

fits_w64 : (n : ℤ) → negsuc 2147483647 ≤ℤ n → n ≤ℤ pos 4294967295 → SFits w64 n
fits_w64 (pos n) a b = record { sfits = grind (arith, ints) }
fits_w64 (negsuc n) a b = record { sfits = grind (arith, ints) }

fits_w32 : (n : ℤ) → negsuc 2147483647 ≤ℤ n → n ≤ℤ pos 2147483647 → SFits w32 n
fits_w32 (pos n) a b = record { sfits = grind (arith, ints) }
fits_w32 (negsuc n) a b = record { sfits = grind (arith, ints) }

fits_w16 : (n : ℤ) → negsuc 511 ≤ℤ n → n ≤ℤ pos 511 → SFits w16 n
fits_w16 (pos n) a b = record { sfits = grind (arith, ints) }
fits_w16 (negsuc n) a b = record { sfits = grind (arith, ints) }

pub cast_angle : (n : ℤ) → (negsuc 2147483647 ≤ℤ n) × (n ≤ℤ pos 2147483647) → n ≡ to_z w32 (of_z w32 (to_z w64 (of_z w64 n)))
cast_angle n h =
    let a : SFits w64 n = fits_w64 n h.0 (omega (arith, ints, h.1)) in
    let b : SFits w32 n = fits_w32 n h.0 h.1 in
    sym (ap (λ (z : ℤ). to_z w32 (of_z w32 z)) (to_z-of_z w64 n a) ∙ to_z-of_z w32 n b)

pub cast_delta : (n : ℤ) → (negsuc 511 ≤ℤ n) × (n ≤ℤ pos 511) → n ≡ to_z w16 (of_z w16 (to_z w64 (of_z w64 n)))
cast_delta n h =
    let a : SFits w64 n = fits_w64 n (omega (arith, ints, h.0)) (omega (arith, ints, h.1)) in
    let b : SFits w16 n = fits_w16 n h.0 h.1 in
    sym (ap (λ (z : ℤ). to_z w16 (of_z w16 z)) (to_z-of_z w64 n a) ∙ to_z-of_z w16 n b)

absolute : (n : ℤ) → pos 0 ≤ℤ n → n ≡ pos (unsigned_abs n)
absolute (pos n) h = refl
absolute (negsuc n) h = absurd (omega (arith, ints, h))

pub cast_count : (n : ℤ) (high : ℕ) → high ≤ 4294967295 → (pos 0 ≤ℤ n) × (n ≤ℤ pos high) → n ≡ pos (unsigned_abs (to_z w64 (of_z w64 n)))
cast_count n high low h =
    let a : SFits w64 n = fits_w64 n (omega (arith, ints, h.0)) (omega (arith, ints, h.1)) in
    absolute n h.0 ∙ sym (ap (λ (z : ℤ). pos (unsigned_abs z)) (to_z-of_z w64 n a))
