-- What is kept of a line.
use Rattle.std.proofs.Common.{◌≡◌, ℕ, zero, suc, ◌+◌, ◌-◌, ◌<◌, ◌≤◌, List, [], ◌∷◌, ◌++◌, length, take, min, Option, Some, refl, sym, ap, ◌∙◌, inl, inr, arith}
use Rattle.std.proofs.lemmas.Bool.{cases_lt}
use Rattle.std.proofs.lemmas.List.{length-take, take_min}
use Rattle.std.proofs.Math.Seq.{take-append-add}
use Rattle.line_input.specs.Lines.{line_fault}
use Rattle.line_input.specs.declared.reason.Reason.{Reason}
use Rattle.line_input.specs.declared.reason.Reason.TheVariants as reason
use Rattle.line_input.proofs.LinesLemmas.{line_fault-long}
use Rattle.view_lines.specs.Fault.{most_kept}

-- a front of a list, and then more
pub take_again : (n : ℕ) (xs ys : List ℕ) → take n (take n xs ++ ys) ≡ take n (xs ++ ys)
take_again zero xs ys = refl
take_again (suc n) [] ys = refl
take_again (suc n) (x ∷ xs) ys = ap (λ (z : List ℕ). x ∷ z) (take_again n xs ys)

pub take_whole : (n : ℕ) (xs : List ℕ) → length xs ≤ n → take n xs ≡ xs
take_whole zero [] few = refl
take_whole zero (x ∷ xs) few = elim (let no : 1 ≤ 0 = omega arith in no) [ ]
take_whole (suc n) [] few = refl
take_whole (suc n) (x ∷ xs) few = ap (λ (z : List ℕ). x ∷ z) (take_whole n xs (omega arith))

-- as many as there is room for, behind a list
pub filled : (n : ℕ) (xs ys : List ℕ) → length xs ≤ n → xs ++ take (min (length ys) (n - length xs)) ys ≡ take n (xs ++ ys)
filled n xs ys few =
    let room : ℕ = n - length xs in
    let whole : length xs + room ≡ n = omega arith in
    let swap : min (length ys) room ≡ min room (length ys) = omega arith in
    ap (λ (k : ℕ). xs ++ take k ys) swap
    ∙ (ap (λ (z : List ℕ). xs ++ z) (take_min room ys)
    ∙ (sym (take-append-add xs ys room) ∙ ap (λ (k : ℕ). take k (xs ++ ys)) whole))

-- What is made of a line is the same for what is kept of it, if a line that is too long is refused whatever else it says.
pub kept_alike : {A : Type 0} (make : List ℕ → A)
    → ((text other : List ℕ) → line_fault text ≡ Some reason.LineLong → line_fault other ≡ Some reason.LineLong → make text ≡ make other)
    → (text : List ℕ) → make (take most_kept text) ≡ make text
kept_alike make long text =
    elim (cases_lt 512 (length text)) [
      | inl many ↦ long (take most_kept text) text
          (line_fault-long (take most_kept text) (let e = length-take most_kept text in omega (arith, e, many)))
          (line_fault-long text many)
      | inr short ↦ ap make (take_whole most_kept text (omega (arith, short)))
    ]
