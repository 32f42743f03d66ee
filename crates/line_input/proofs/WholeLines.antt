-- Bytes are whole lines where one byte more behind them is one line more.
use Rattle.std.specs.Prelude.{◌≡◌, ℕ, ◌+◌, ◌<◌, ◌==◌, true, false, List, [], ◌∷◌, ◌++◌, length, suc}
use Rattle.std.specs.List.{onto_first}
use Rattle.std.proofs.Common.{sym, ◌∙◌, ap, refl, append_assoc, inl, inr, arith, length-append, subst}
use Rattle.std.proofs.lemmas.List.{append-nil}
use Rattle.std.proofs.lemmas.Bool.Decides.{eqb_tells}
use Rattle.line_input.specs.Lines.{AreWholeLines, lines_of}

newline_first : (b : ℕ) (bytes : List ℕ) → (b == 10) ≡ true → lines_of (b ∷ bytes) ≡ [] ∷ lines_of bytes
unfolding lines_of
newline_first b bytes h = rw h refl

other_first : (b : ℕ) (bytes : List ℕ) → (b == 10) ≡ false → lines_of (b ∷ bytes) ≡ onto_first b (lines_of bytes)
unfolding lines_of
other_first b bytes h = rw h refl

no_lines : lines_of [] ≡ []
unfolding lines_of
no_lines = refl

one_line : lines_of (0 ∷ []) ≡ (0 ∷ []) ∷ []
unfolding lines_of
one_line = refl

onto_length : (b : ℕ) (lines : List (List ℕ)) → 0 < length lines → length (onto_first b lines) ≡ length lines
onto_length b [] h = absurd (omega arith)
onto_length b (line ∷ lines) h = refl

onto_some : (b : ℕ) (lines : List (List ℕ)) → 0 < length (onto_first b lines)
onto_some b [] = omega arith
onto_some b (line ∷ lines) = omega arith

some_line : (b : ℕ) (bytes : List ℕ) → 0 < length (lines_of (b ∷ bytes))
some_line b bytes = elim (eqb_tells b 10) [
  | inl same ↦ let e : length (lines_of (b ∷ bytes)) ≡ suc (length (lines_of bytes)) = ap length (newline_first b
      bytes same.0) in omega arith
  | inr other ↦
      let e : length (lines_of (b ∷ bytes)) ≡ length (onto_first b (lines_of bytes)) =
      ap length (other_first b bytes other.0) in
      omega (arith, onto_some b (lines_of bytes))
]

-- one byte more behind these is one line more
abbrev IsLineMore : List ℕ → Type 0
IsLineMore bytes = length (lines_of (bytes ++ 0 ∷ [])) ≡ length (lines_of bytes) + 1

-- a newline in front of bytes keeps that
more_behind_newline : (b : ℕ) (bytes : List ℕ) → (b == 10) ≡ true → IsLineMore (b ∷ bytes) → IsLineMore bytes
more_behind_newline b bytes h more =
    let long : length (lines_of (b ∷ (bytes ++ 0 ∷ []))) ≡ suc (length (lines_of (bytes ++ 0 ∷ []))) =
    ap length (newline_first b (bytes ++ 0 ∷ []) h) in
    let short : length (lines_of (b ∷ bytes)) ≡ suc (length (lines_of bytes)) = ap length (newline_first b bytes h) in
    omega (arith, more)

-- so does another byte, where others follow it
more_behind_other : (b c : ℕ) (bytes : List ℕ) → (b == 10) ≡ false → IsLineMore (b ∷ c ∷ bytes) → IsLineMore (c ∷ bytes)
more_behind_other b c bytes h more =
    let long : length (lines_of (b ∷ c ∷ (bytes ++ 0 ∷ []))) ≡ length (lines_of (c ∷ (bytes ++ 0 ∷ []))) =
    ap length (other_first b (c ∷ (bytes ++ 0 ∷ [])) h) ∙ onto_length b (lines_of (c ∷ (bytes ++ 0 ∷ [])))
    (some_line c (bytes ++ 0 ∷ [])) in
    let short : length (lines_of (b ∷ c ∷ bytes)) ≡ length (lines_of (c ∷ bytes)) =
    ap length (other_first b (c ∷ bytes) h) ∙ onto_length b (lines_of (c ∷ bytes)) (some_line c bytes) in
    omega (arith, more)

-- and it isn't so where no byte follows it
no_more_behind_other : (b : ℕ) → (b == 10) ≡ false → IsLineMore (b ∷ []) → ⊥
no_more_behind_other b h more =
    let long : length (lines_of (b ∷ 0 ∷ [])) ≡ 1 =
    ap length (other_first b (0 ∷ []) h) ∙ ap (λ ls. length (onto_first b ls)) one_line in
    let short : length (lines_of (b ∷ [])) ≡ 1 =
    ap length (other_first b [] h) ∙ ap (λ ls. length (onto_first b ls)) no_lines in
    omega (arith, more)

whole_behind : (b : ℕ) (bytes : List ℕ) → b ≡ 10 → AreWholeLines bytes → AreWholeLines (b ∷ bytes)
whole_behind b bytes h (inl none) = inr ([], ap (λ x. x ∷ bytes) h ∙ ap (λ xs. 10 ∷ xs) none)
whole_behind b bytes h (inr some) = inr (b ∷ some.0, ap (λ xs. b ∷ xs) some.1)

whole_by : (bytes : List ℕ) → IsLineMore bytes → AreWholeLines bytes
whole_by [] more = inl refl
whole_by (b ∷ []) more = elim (eqb_tells b 10) [
  | inl same ↦ whole_behind b [] same.1 (inl refl)
  | inr other ↦ absurd (no_more_behind_other b other.0 more)
]
whole_by (b ∷ c ∷ bytes) more = elim (eqb_tells b 10) [
  | inl same ↦ whole_behind b (c ∷ bytes) same.1 (whole_by (c ∷ bytes) (more_behind_newline b (c ∷ bytes) same.0 more))
  | inr other ↦ after_other b (c ∷ bytes) (λ e. cc) (whole_by (c ∷ bytes) (more_behind_other b c bytes other.0 more))
]
  where
    after_other : (b : ℕ) (bytes : List ℕ) → (bytes ≡ [] → ⊥) → AreWholeLines bytes → AreWholeLines (b ∷ bytes)
    after_other b bytes some (inl none) = absurd (some none)
    after_other b bytes some (inr whole) = inr (b ∷ whole.0, ap (λ xs. b ∷ xs) whole.1)

-- bytes whose lines stand in front of those of whatever follows are whole lines
pub whole_lines : (front : List ℕ) (lines : List (List ℕ))
    → ((more : List ℕ) → lines_of (front ++ more) ≡ lines ++ lines_of more) → AreWholeLines front
whole_lines front lines h =
    let long : length (lines_of (front ++ 0 ∷ [])) ≡ length lines + 1 =
    ap length (h (0 ∷ [])) ∙ (length-append lines (lines_of (0 ∷ [])) ∙ ap (λ ls. length lines + length ls) one_line) in
    let short : length (lines_of front) ≡ length lines =
    ap (λ bytes. length (lines_of bytes)) (sym (append-nil front)) ∙
    (ap length (h []) ∙ (ap (λ ls. length (lines ++ ls)) no_lines ∙ ap length (append-nil lines))) in
    whole_by front (omega arith)

-- whole lines behind whole lines
pub whole_append : (a b : List ℕ) → AreWholeLines a → AreWholeLines b → AreWholeLines (a ++ b)
whole_append a b whole (inl none) = subst AreWholeLines (sym (ap (λ x. a ++ x) none ∙ append-nil a)) whole
whole_append a b whole (inr more) = inr (a ++ more.0, ap (λ x. a ++ x) more.1 ∙ sym (append_assoc a more.0 (10 ∷ [])))
