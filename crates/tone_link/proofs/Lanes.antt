-- Lanes of 16 bits, each times a sign in 32 bits, and their sum.
use Rattle.std.proofs.Common.{◌≡◌, ℕ, ◌+◌, ◌*◌, ◌≤◌, List, [], ◌∷◌, length, Bool, true, false, ℤ, pos, negsuc, neg_ℤ, ◌+ℤ◌, ◌*ℤ◌, ◌≤ℤ◌, FitsSigned, to_z, of_z, w16, w32, arith, ap, subst, sym, ◌∙◌}
use Rattle.std.specs.List.{AllByRecursion}
use Rattle.std.proofs.lemmas.Int.{ints}
use borrow.Rule.Simd.Lanes.{Asks2, act1, act2}
use borrow.Table.Row.{s_int}
use lib.Lanes.{Steps, fold_l}
use mir.Syntax.{cast, mul, add}
use mir.Syntax as syntax
use Rattle.tone_link.specs.Tones.{signed, sum_by_signs}

-- no further from 0 than n
pub record IsWithin (n : ℕ) (x : ℤ) : Type 0 where
  pub above : x ≤ℤ pos n
  pub below : neg_ℤ x ≤ℤ pos n

-- the sign as a number of 32 bits
abbrev pub sign_32 : Bool → ℕ
sign_32 true = 1
sign_32 false = 4294967295

-- what the lanes give for a sample and its sign
abbrev pub lane_of : ℤ → Bool → ℕ
lane_of x sign =
    act2 (mul syntax.signed) (s_int w32) (s_int w32) (s_int w32)
    (act1 (cast syntax.signed syntax.signed w32) (s_int w16) (s_int w32) (of_z w16 x)) (sign_32 sign)

lane_is : (x : ℤ) (sign : Bool) → FitsSigned w16 x → lane_of x sign ≡ of_z w32 (signed sign x)
lane_is x true h = let e : to_z w32 (of_z w32 (to_z w16 (of_z w16 x))) *ℤ pos 1 ≡ x = omega (arith, ints) in ap (of_z w32) e
lane_is x false h =
    let e : to_z w32 (of_z w32 (to_z w16 (of_z w16 x))) *ℤ negsuc 0 ≡ neg_ℤ x = omega (arith, ints) in ap (of_z w32) e

signed_within : (x : ℤ) (sign : Bool) → FitsSigned w16 x → IsWithin 32768 (signed sign x)
signed_within x true h = record { above = omega (arith, ints); below = omega (arith, ints) }
signed_within x false h = record { above = omega (arith, ints); below = omega (arith, ints) }

abbrev Adds : ℕ → ℕ → Type 0
Adds = Asks2 (add syntax.signed) (s_int w32) (s_int w32)

abbrev added : ℕ → ℕ → ℕ
added = act2 (add syntax.signed) (s_int w32) (s_int w32) (s_int w32)

add_asks : (a x : ℤ) → IsWithin 1000000 a → IsWithin 32768 x → Adds (of_z w32 a) (of_z w32 x)
add_asks a x h k = omega (arith, ints)

add_gives : (a x : ℤ) → IsWithin 1000000 a → IsWithin 32768 x → added (of_z w32 a) (of_z w32 x) ≡ of_z w32 (a +ℤ x)
add_gives a x h k =
    let e : to_z w32 (of_z w32 a) +ℤ to_z w32 (of_z w32 x) ≡ a +ℤ x = omega (arith, ints) in ap (of_z w32) e

more_within : (n m : ℕ) (a x : ℤ) → IsWithin n a → IsWithin m x → IsWithin (n + m) (a +ℤ x)
more_within n m a x h k = record { above = omega (arith, ints); below = omega (arith, ints) }

less_within : (n m : ℕ) (a : ℤ) → n ≤ m → IsWithin n a → IsWithin m a
less_within n m a le h = record { above = omega (arith, ints); below = omega (arith, ints) }

plain : (n : ℕ) (a : ℤ) → IsWithin n a → n ≤ 1000000 → to_z w32 (of_z w32 a) ≡ a +ℤ pos 0
plain n a h le = let k = less_within n 1000000 a le h in omega (arith, ints)

-- what the lanes give for samples and their signs
abbrev pub lanes_of : List ℤ → List Bool → List ℕ
lanes_of (x ∷ xs) (sign ∷ signs) = lane_of x sign ∷ lanes_of xs signs
lanes_of _ _ = []

-- no sum on the way overflows
pub sums_fit : (n : ℕ) (a : ℤ) (xs : List ℤ) (signs : List Bool)
    → IsWithin n a → n + 32768 * length xs ≤ 1000000 → AllByRecursion (FitsSigned w16) xs
    → Steps Adds added (of_z w32 a) (lanes_of xs signs)
sums_fit n a [] signs h le fits = tt
sums_fit n a (x ∷ xs) [] h le fits = tt
sums_fit n a (x ∷ xs) (sign ∷ signs) h le fits =
    let e = lane_is x sign fits.0 in
    let small = signed_within x sign fits.0 in
    let here : IsWithin 1000000 a = less_within n 1000000 a (omega arith) h in (
      subst (λ (k : ℕ). Adds (of_z w32 a) k) (sym e) (add_asks a (signed sign x) here small),
      subst (λ (k : ℕ). Steps Adds added k (lanes_of xs signs))
          (sym (ap (added (of_z w32 a)) e ∙ add_gives a (signed sign x) here small))
          (sums_fit (n + 32768) (a +ℤ signed sign x) xs signs (more_within n 32768 a (signed sign x) h small) (omega arith) fits.1),
    )

-- and the last is the sum
pub sum_is : (n : ℕ) (a : ℤ) (xs : List ℤ) (signs : List Bool)
    → IsWithin n a → n + 32768 * length xs ≤ 1000000 → AllByRecursion (FitsSigned w16) xs
    → to_z w32 (fold_l added (of_z w32 a) (lanes_of xs signs)) ≡ a +ℤ sum_by_signs signs xs
sum_is n a [] [] h le fits = plain n a h (omega arith)
sum_is n a [] (sign ∷ signs) h le fits = plain n a h (omega arith)
sum_is n a (x ∷ xs) [] h le fits = plain n a h (omega arith)
sum_is n a (x ∷ xs) (sign ∷ signs) h le fits =
    let e = lane_is x sign fits.0 in
    let small = signed_within x sign fits.0 in
    let here : IsWithin 1000000 a = less_within n 1000000 a (omega arith) h in
    let next = sum_is (n + 32768) (a +ℤ signed sign x) xs signs (more_within n 32768 a (signed sign x) h small) (omega arith) fits.1 in
    let step : (a +ℤ signed sign x) +ℤ sum_by_signs signs xs ≡ a +ℤ (signed sign x +ℤ sum_by_signs signs xs) = omega (arith, ints) in
    ap (λ (k : ℕ). to_z w32 (fold_l added k (lanes_of xs signs))) (ap (added (of_z w32 a)) e ∙ add_gives a (signed sign x) here small)
    ∙ next ∙ step
