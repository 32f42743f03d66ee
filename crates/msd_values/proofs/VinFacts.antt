-- Where a text stops being a vehicle identification number.
use Rattle.std.proofs.Common.{◌≡◌, ℕ, Bool, ◌≤◌, not, false, List, length, take, get_or, subst, ap, ◌∙◌, arith}
use Rattle.std.specs.Prelude.{unwrap_or}
use Rattle.std.specs.List.{position_or_len, position}
use Rattle.std.proofs.lemmas.Bool.Decides.{nat_tests}
use Rattle.std.proofs.lemmas.Bool.{not-false, not_from_true}
use Rattle.std.proofs.lemmas.List.{length-take}
use Rattle.std.proofs.lemmas.List.Sums.{fails_before_first, position_or_len_is, prefix_len-le-length}
use Rattle.std.proofs.Math.Seq.{take-length}
use Rattle.msd_values.specs.Alphabet.{is_vin_character}
use Rattle.msd_values.specs.Vin.{IsVin, fault_place}

-- the first seventeen of seventeen are all
front_of_whole : (text : List ℕ) → length text ≡ 17 → take 17 text ≡ text
front_of_whole text len = subst (λ n. take n text ≡ text) len (take-length text)

pub fault_place-le : (text : List ℕ) → fault_place text ≤ 17
fault_place-le text =
    let front : fault_place text ≤ length (take 17 text) = prefix_len-le-length _ (take 17 text) in
    omega (arith, length-take 17 text)

-- no fault among seventeen characters
pub IsVin-far : (text : List ℕ) → 17 ≤ fault_place text → length text ≡ 17 → IsVin text
IsVin-far text far len = (
  len,
  λ k d below. not-false _ (subst (λ (xs : List ℕ). not (is_vin_character (get_or xs k d)) ≡ false) (front_of_whole text len)
      (fails_before_first (λ c. not (is_vin_character c)) (take 17 text) k d (omega arith))),
)

-- and the other way round
pub fault_place-IsVin : (text : List ℕ) → IsVin text → fault_place text ≡ 17
fault_place-IsVin text vin =
    let whole = front_of_whole text vin.0 in
    ap (position_or_len (λ c. not (is_vin_character c))) whole
    ∙ position_or_len_is (λ c. not (is_vin_character c)) text 17 0 (omega arith)
    (λ k below. not_from_true _ (vin.1 k 0 (omega arith)))
    (λ below. absurd (omega arith))

-- where `position` finds none it is the length
pub unwrap_position : (p : ℕ → Bool) (xs : List ℕ) → unwrap_or (position p xs) (length xs) ≡ position_or_len p xs
unwrap_position p xs = grind (arith, nat_tests, prefix_len-le-length)
