-- Which line of a text the first of the lines that are left is.
use Rattle.std.proofs.Common.{◌≡◌, ℕ, suc, ◌+◌, ◌-◌, ◌≤◌, List, ◌∷◌, Some, sym, ap, ◌∙◌, arith}
use Rattle.std.specs.Prelude.{slice_get}

-- behind the first line that is left, each place is one less
pub behind_one : (all rest behind : List (List ℕ)) (first : List ℕ) (ended here : ℕ) → rest ≡ first ∷ behind → ended ≤ here
    → ((j : ℕ) → slice_get rest j ≡ slice_get all (here - ended + j)) → (j : ℕ) → slice_get behind j ≡ slice_get all (here + 1 - ended + j)
behind_one all rest behind first ended here is below standing j =
    ap (λ l. slice_get l (suc j)) (sym is) ∙ (standing (suc j) ∙ ap (slice_get all) (omega (arith, below)))

-- the first line that is left has the next number
pub next_one : (all rest behind : List (List ℕ)) (first : List ℕ) (ended here : ℕ) → rest ≡ first ∷ behind → ended ≤ here
    → ((j : ℕ) → slice_get rest j ≡ slice_get all (here - ended + j)) → slice_get all (here + 1 - ended - 1) ≡ Some first
next_one all rest behind first ended here is below standing =
    ap (slice_get all) (omega (arith, below)) ∙ (sym (standing 0) ∙ ap (λ l. slice_get l 0) is)
