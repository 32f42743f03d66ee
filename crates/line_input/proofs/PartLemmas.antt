-- Where a line is at hand, the source isn't read, so no read fails.
use Rattle.std.specs.Prelude.{◌≡◌, ℕ, Bool, true, false, List, [], ◌∷◌, ◌++◌, ◌==◌, ◌||◌, ◌&&◌, not}
use Rattle.std.specs.List.{AllByRecursion, list_any, onto_first}
use Rattle.std.proofs.Common.{sym, ◌∙◌, ap, refl}
use Rattle.std.proofs.lemmas.Bool.{false≢true}
use Rattle.std.proofs.lemmas.List.{append-nil}
use Rattle.std.proofs.lemmas.List.Folds.{list_any-append}
use Rattle.line_input.specs.Characters.{newline, number_sign, is_newline}
use Rattle.line_input.specs.Feed.{IsInner}
use Rattle.line_input.specs.Lines.{lines_of, is_comment, IsPassedOver}
use Rattle.line_input.specs.Reading.{Reading, FindsPart, begins_line, begins_with_line, may_begin_line}
use Rattle.line_input.proofs.GatherLemmas.{inner_none}
use Rattle.line_input.proofs.LinesLemmas.{lines_of-nil}
use Rattle.line_input.proofs.SkimLemmas.{begins_too, newline_too}

-- what a first byte that may begin a line isn't
no_newline : (b : ℕ) → may_begin_line b ≡ true → (b == newline) ≡ false
no_newline b begins = by_test (b == newline) refl begins
  where
    by_test : (t : Bool) → (b == newline) ≡ t → (not t && not (b == number_sign)) ≡ true → (b == newline) ≡ false
    by_test false e h = e
    by_test true e h = absurd (false≢true h)

no_sign : (b : ℕ) → may_begin_line b ≡ true → (b == number_sign) ≡ false
no_sign b begins = by_test (b == newline) (b == number_sign) refl begins
  where
    by_test : (n t : Bool) → (b == number_sign) ≡ t → (not n && not t) ≡ true → (b == number_sign) ≡ false
    by_test n false e h = e
    by_test false true e h = absurd (false≢true h)
    by_test true true e h = absurd (false≢true h)

other_first : (b : ℕ) (bytes : List ℕ) → (b == newline) ≡ false → lines_of (b ∷ bytes) ≡ onto_first b (lines_of bytes)
unfolding lines_of
other_first b bytes h = rw h refl

-- the first line of bytes that begin so isn't passed over
first_says : (b : ℕ) (lines passed : List (List ℕ)) → (b == number_sign) ≡ false → onto_first b lines ≡ passed
    → AllByRecursion IsPassedOver passed → ⊥
first_says b [] [] fine is each = let no : ⊥ = cc in no
first_says b [] (text ∷ passed) fine is each =
    let same : b ∷ [] ≡ text = cc in false≢true (sym fine ∙ ap is_comment same ∙ each.0.1)
first_says b (line ∷ lines) [] fine is each = let no : ⊥ = cc in no
first_says b (line ∷ lines) (text ∷ passed) fine is each =
    let same : b ∷ line ≡ text = cc in false≢true (sym fine ∙ ap is_comment same ∙ each.0.1)

-- a line with its newline is more than lines that are passed over, and a part of one that doesn't end
parts_none : (bytes taken front «open» : List ℕ) (passed : List (List ℕ)) → begins_line bytes ≡ true
    → list_any is_newline bytes ≡ true → bytes ++ taken ≡ front ++ «open» → AllByRecursion IsInner «open»
    → AllByRecursion IsPassedOver passed → lines_of front ≡ passed → ⊥
parts_none [] taken front «open» passed begins some split inner each is = false≢true begins
parts_none (b ∷ bytes) taken [] «open» passed begins some split inner each is =
    let all : list_any is_newline («open») ≡ true =
    ap (list_any is_newline) (sym split)
    ∙ (list_any-append is_newline (b ∷ bytes) taken ∙ ap (λ t. t || list_any is_newline taken) some) in
    false≢true (sym (inner_none «open» inner) ∙ all)
parts_none (b ∷ bytes) taken (c ∷ front) «open» passed begins some split inner each is =
    let same : b ≡ c = cc in
    let may : may_begin_line c ≡ true = ap may_begin_line (sym same) ∙ begins in
    first_says c (lines_of front) passed (no_sign c may) (sym (other_first c front (no_newline c may)) ∙ is) each

-- so where a line is at hand, no read fails
pub no_part_at_hand : (old new : Reading) (taken : List ℕ) → begins_with_line old.feed.pending ≡ true
    → FindsPart old new (old.feed.pending ++ taken) → ⊥
no_part_at_hand old new taken begins f =
    parts_none old.feed.pending taken f.front f.«open» f.passed (begins_too old.feed.pending begins)
    (newline_too old.feed.pending begins) f.split f.inner f.each
    (ap lines_of (sym (append-nil f.front))
    ∙ (f.lines [] ∙ (ap (λ (z : List (List ℕ)). f.passed ++ z) lines_of-nil ∙ append-nil f.passed)))
