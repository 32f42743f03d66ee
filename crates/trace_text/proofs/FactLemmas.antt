-- The values of fact lines, as the functions that judge them answer.
use Rattle.std.proofs.Common.{◌≡◌, ℕ, true, List, Option, Some, None, IsSome, IfSome, ◌&&◌, eqb, length, refl, ap}
use Rattle.std.specs.List.{list_all}
use Rattle.std.proofs.lemmas.Bool.{cond_both, eq-eqb, eqb-true}
use Rattle.std.proofs.lemmas.List.Sums.{AllPass-from_list_all, list_all-from_AllPass}
use Rattle.msd_values.specs.Alphabet.{is_vin_character}
use Rattle.msd_values.specs.Vin.{IsVin}
use Rattle.trace_text.specs.FactLines.{vin_text}
use Rattle.line_input.proofs.NumberLemmas.{first_true, second_true}

pub is_given : {A : Type 0} (r : Option A) (a : A) → IsSome r → IfSome r (λ x. x ≡ a) → r ≡ Some a
is_given None a has value = let never : ⊥ = cc in absurd never
is_given (Some x) a has value = ap Some value

-- an identification number passes the test
is_vin-test : (text : List ℕ) → IsVin text → (eqb (length text) 17 && list_all is_vin_character text) ≡ true
is_vin-test text vin =
    let long : eqb (length text) 17 ≡ true = eq-eqb _ _ vin.0 in
    let each : list_all is_vin_character text ≡ true = list_all-from_AllPass is_vin_character text vin.1 in
    rw (long, each) refl

pub vin_text-yes : (text : List ℕ) → IsVin text → vin_text text ≡ Some text
vin_text-yes text vin = rw (is_vin-test text vin) refl

pub vin_text-no : (text : List ℕ) → (IsVin text → ⊥) → vin_text text ≡ None
vin_text-no text other =
    cond_both (eqb (length text) 17 && list_all is_vin_character text) (Some text) None (λ o. o ≡ None)
    (λ yes. absurd (other (
      eqb-true _ _ (first_true (eqb (length text) 17) (list_all is_vin_character text) yes),
      AllPass-from_list_all is_vin_character text (second_true (eqb (length text) 17) (list_all is_vin_character text) yes),
    )))
    (λ _. refl)
