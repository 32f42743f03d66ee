-- How a piece is taken line by line.
use Rattle.std.proofs.Common.{◌≡◌, ◌++◌, ◌∷◌, ◌+◌, ◌-◌, ◌<◌, ◌≤◌, [], List, ℕ, zero, suc, length, take, drop, get_or, sym, ap, ◌∙◌, append_assoc, add-one, arith, length-append, eqb, true}
use Rattle.std.proofs.lemmas.Bool.{eq-eqb}
use Rattle.std.specs.List.{AllByRecursion}
use Rattle.line_input.specs.Feed.{IsInner}
use Rattle.std.proofs.lemmas.Slice.{between_to_end}
use Rattle.view_lines.specs.Outcome.{most_lines}
use Rattle.view_lines.specs.Told.{Told}
use Rattle.view_lines.specs.declared.teller.Teller.{Teller}
use Rattle.view_lines.specs.inner.Standing.{Stands}

parted : (xs : List ℕ) (at : ℕ) → at < length xs → get_or xs at 0 ≡ 10 → take at xs ++ 10 ∷ drop (suc at) xs ≡ xs
parted [] at within here = absurd (omega arith)
parted (x ∷ xs) zero within here = ap (λ (z : ℕ). z ∷ xs) (sym here)
parted (x ∷ xs) (suc at) within here = ap (λ (z : List ℕ). x ∷ z) (parted xs at (omega arith) here)

-- no byte of a list ends a line
pub inner_all : (xs : List ℕ) → ((k : ℕ) → 0 ≤ k → k < length xs → eqb (get_or xs k 0) 10 ≡ true → ⊥) → AllByRecursion IsInner xs
inner_all [] none = tt
inner_all (x ∷ xs) none = (
  λ e. none 0 (omega arith) (omega arith) (eq-eqb x 10 e),
  inner_all xs (λ k low here. none (suc k) (omega arith) (omega arith)),
)

-- one more line was taken
pub line_taken : (piece taken rest : List ℕ) (at : ℕ) → piece ≡ taken ++ rest → at < length rest → get_or rest at 0 ≡ 10
    → piece ≡ (taken ++ (take at rest ++ 10 ∷ [])) ++ take (length rest - (at + 1)) (drop (at + 1) rest)
line_taken piece taken rest at split within here =
    let behind : take (length rest - (at + 1)) (drop (at + 1) rest) ≡ drop (suc at) rest =
    between_to_end rest (at + 1) (length rest) (omega arith) ∙ ap (λ (n : ℕ). drop n rest) (add-one at) in
    split
    ∙ (ap (λ (z : List ℕ). taken ++ z) (sym (parted rest at within here))
    ∙ (ap (λ (z : List ℕ). taken ++ z) (sym (append_assoc (take at rest) (10 ∷ []) (drop (suc at) rest)))
    ∙ (sym (append_assoc taken (take at rest ++ 10 ∷ []) (drop (suc at) rest))
    ∙ ap (λ (z : List ℕ). (taken ++ (take at rest ++ 10 ∷ [])) ++ z) (sym behind))))

module _ {T : Type 0} (tells : List (List ℕ) → List ℕ → Told → Type 0) (heard : T → List (List ℕ) → Type 0) where
  -- there are at least as many bytes as lines
  pub many_taken : (front handed piece taken rest : List ℕ) (t : Teller T) → Stands tells heard (front ++ taken) handed t
      → piece ≡ taken ++ rest → t.ended ≡ most_lines → most_lines ≤ length (front ++ piece)
  many_taken front handed piece taken rest t s split top =
      let whole : length piece ≡ length taken + length rest = ap length split ∙ length-append taken rest in
      omega (arith, s.few, s.counts, top, whole, length-append front taken, length-append front piece)

  -- and so at the end
  pub many_ended : (front handed : List ℕ) (t : Teller T) → Stands tells heard front handed t → t.ended ≡ most_lines
      → most_lines ≤ length front
  many_ended front handed t s top = omega (arith, s.few, s.counts, top)
