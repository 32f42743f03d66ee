-- One more line behind those that were told.
use Rattle.std.proofs.Common.{◌≡◌, ℕ, Bool, true, false, ◌||◌, List, [], ◌∷◌, ◌++◌, refl, sym, ap, subst, ◌∙◌, append_assoc}
use Rattle.std.proofs.lemmas.List.{append-nil}
use Rattle.view_lines.specs.Told.{AreTold, Told, nothing_told, told_then}

or-assoc : (a b c : Bool) → (a || b) || c ≡ a || (b || c)
or-assoc true b c = refl
or-assoc false b c = refl

or-false : (a : Bool) → a || false ≡ a
or-false true = refl
or-false false = refl

pub same_told : (x y : List ℕ) (a b : Bool) → x ≡ y → a ≡ b
    → ◌≡◌ {A = Told} (record { text = x; refused = a }) (record { text = y; refused = b })
same_told x y a b text refused =
    ap (λ (z : List ℕ). let t : Told = record { text = z; refused = a } in t) text
    ∙ ap (λ (z : Bool). let t : Told = record { text = y; refused = z } in t) refused

module _ (tells : List (List ℕ) → List ℕ → Told → Type 0) where
  -- one line alone
  alone : (before : List (List ℕ)) (line : List ℕ) (s : Told) → tells before line s → AreTold tells before (line ∷ []) s
  alone before line s is =
      (s, nothing_told, is, refl, same_told s.text (s.text ++ []) s.refused (s.refused || false) (sym (append-nil s.text)) (sym (or-false s.refused)))

  pub AreTold-more : (lines before : List (List ℕ)) (line : List ℕ) (t s : Told) → AreTold tells before lines t
      → tells (before ++ lines) line s → AreTold tells before (lines ++ line ∷ []) (told_then t s)
  AreTold-more [] before line t s nothing is =
      let here : tells before line s = subst (λ (z : List (List ℕ)). tells z line s) (append-nil before) is in
      let P : Told → Type 0 = λ z. AreTold tells before (line ∷ []) (told_then z s) in
      subst P (sym nothing) (alone before line s here)
  AreTold-more (first ∷ lines) before line t s told is =
      let there : tells ((before ++ first ∷ []) ++ lines) line s =
      subst (λ (z : List (List ℕ)). tells z line s) (sym (append_assoc before (first ∷ []) lines)) is in
      let first_told : Told = told.0 in
      let rest : Told = told.1 in (
        first_told,
        told_then rest s,
        told.2,
        AreTold-more lines (before ++ first ∷ []) line rest s told.3 there,
        ap (λ (z : Told). told_then z s) told.4
            ∙ same_told ((first_told.text ++ rest.text) ++ s.text) (first_told.text ++ (rest.text ++ s.text))
            ((first_told.refused || rest.refused) || s.refused) (first_told.refused || (rest.refused || s.refused))
            (append_assoc first_told.text rest.text s.text) (or-assoc first_told.refused rest.refused s.refused),
      )
