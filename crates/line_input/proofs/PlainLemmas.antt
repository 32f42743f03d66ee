-- Bytes that were judged before they were parted into lines.
use Rattle.std.proofs.Common.{◌≡◌, ℕ, ◌-◌, ◌+◌, ◌≤◌, Bool, true, false, List, [], ◌∷◌, ◌++◌, take, drop, refl, sym, ap, ◌∙◌, arith}
use Rattle.std.specs.Prelude.{◌&&◌, ◌||◌}
use Rattle.std.specs.List.{AllByRecursion, list_all, slice_range}
use Rattle.std.proofs.lemmas.Bool.{and_from, eqb-true, false≢true}
use Rattle.std.proofs.lemmas.List.{drop-take, take-append-drop, take-take}
use Rattle.std.proofs.lemmas.List.Folds.{list_all-append}
use Rattle.line_input.specs.Characters.{is_newline}
use Rattle.line_input.specs.Feed.{Feed, IsInner}
use Rattle.line_input.specs.Giving.{GivesRun}
use Rattle.line_input.specs.Lines.{is_printable}
use Rattle.line_input.specs.inner.Judged.{is_plain}

both : (x y : Bool) → (x && y) ≡ true → (x ≡ true) × (y ≡ true)
both true y e = (refl, e)
both false y e = absurd (false≢true e)

-- both parts of bytes that all are so
parts : (p : ℕ → Bool) (xs ys : List ℕ) → list_all p (xs ++ ys) ≡ true → (list_all p xs ≡ true) × (list_all p ys ≡ true)
parts p xs ys all = both (list_all p xs) (list_all p ys) (sym (list_all-append p xs ys) ∙ all)

-- the bytes at hand of a block
pub plain_at_hand : (block : List ℕ) (at end : ℕ) → at ≤ end → list_all is_plain (take end block) ≡ true → list_all is_plain (slice_range block at end) ≡ true
plain_at_hand block at end order all =
    let whole : end ≡ at + (end - at) = omega (arith, order) in
    let filled = take end block in
    let here = (parts is_plain (take at filled) (drop at filled) (ap (list_all is_plain) (take-append-drop at filled) ∙ all)).1 in
    sym (ap (list_all is_plain) (ap (λ n. drop at (take n block)) whole ∙ drop-take at (end - at) block)) ∙ here

-- a part of it that ends sooner
pub plain_part : (block : List ℕ) (at to end : ℕ) → at ≤ to → to ≤ end → list_all is_plain (take end block) ≡ true → list_all is_plain (slice_range block at to) ≡ true
plain_part block at to end order within all =
    let whole : end ≡ to + (end - to) = omega (arith, within) in
    let filled = take end block in
    let front : take to filled ≡ take to block = take-take to end block within in
    let here = (parts is_plain (take to filled) (drop to filled) (ap (list_all is_plain) (take-append-drop to filled) ∙ all)).0 in
    plain_at_hand block at to order (sym (ap (list_all is_plain) front) ∙ here)

-- a plain byte that ends no line may stand in one
inner_plain : (b : ℕ) → is_plain b ≡ true → IsInner b → is_printable b ≡ true
inner_plain b plain inner = by_test (is_printable b) plain
  where
    by_test : (t : Bool) → (t || is_newline b) ≡ true → t ≡ true
    by_test true e = refl
    by_test false e = absurd (inner (eqb-true b 10 e))

pub inner_run : (run : List ℕ) → list_all is_plain run ≡ true → AllByRecursion IsInner run → list_all is_printable run ≡ true
inner_run [] all inner = refl
inner_run (b ∷ run) all inner =
    let so = both (is_plain b) (list_all is_plain run) all in
    and_from (is_printable b) (list_all is_printable run) (inner_plain b so.0 inner.0) (inner_run run so.1 inner.1)

-- a line, and a run of bytes at hand behind it
pub plain_run : (old new : Feed) (run text whole : List ℕ) (before now : Bool) → (before ≡ true → list_all is_printable text ≡ true) → (now ≡ true → list_all is_plain old.pending ≡ true)
    → GivesRun old new run → whole ≡ text ++ run → (before && now) ≡ true → list_all is_printable whole ≡ true
plain_run old new run text whole before now line hand gives is plain =
    let so = both before now plain in
    let here = (parts is_plain run new.pending (ap (list_all is_plain) (sym gives.pending) ∙ hand so.1)).0 in
    ap (list_all is_printable) is ∙ list_all-append is_printable text run ∙ and_from (list_all is_printable text) (list_all is_printable run) (line so.0) (inner_run run here gives.inner)

-- a line, and a byte behind it
pub plain_byte : (text whole : List ℕ) (b : ℕ) (before now : Bool) → whole ≡ text ++ b ∷ [] → now ≡ is_printable b → (before ≡ true → list_all is_printable text ≡ true)
    → (before && now) ≡ true → list_all is_printable whole ≡ true
plain_byte text whole b before now is stands line plain =
    let so = both before now plain in
    ap (list_all is_printable) is ∙ list_all-append is_printable text (b ∷ []) ∙ and_from (list_all is_printable text) (list_all is_printable (b ∷ [])) (line so.0) (and_from (is_printable b) true (sym stands ∙ so.1) refl)
