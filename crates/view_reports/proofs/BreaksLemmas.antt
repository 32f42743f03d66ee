-- Breaks that are told one by one, and text behind text.
use Rattle.std.proofs.Common.{◌≡◌, ℕ, zero, suc, ◌+◌, ◌<◌, ◌||◌, ◌++◌, ◌∷◌, [], List, Bool, true, false, Result, Ok, Err, OnOk, length, take, slice_index_or, refl, sym, ap, ◌∙◌, append_assoc, arith, if◌then◌else◌}
use Rattle.std.specs.Result.{is_ok}
use Rattle.std.proofs.lemmas.List.{append-nil}
use Rattle.view_lines.specs.Told.{Puts, Told, nothing_told, told_then}
use Rattle.view_lines.proofs.ToldLemmas.{same_told}
use Rattle.view_reports.specs.Told.{break_told, breaks_told}
use Rattle.view_reports.specs.declared.breaks.Break.{Break}
use Rattle.view_reports.specs.declared.manner.Manner.{Manner}

-- bytes that are put behind a text
pub extended : {E : Type 0} (r : Result (Unit {0}) E) (old new more : List ℕ)
    → new ≡ (if is_ok r then old ++ more else old) → OnOk r (new ≡ old ++ more)
extended (Ok u) old new more is = is
extended (Err e) old new more is = tt

or-assoc : (a b c : Bool) → (a || b) || c ≡ a || (b || c)
or-assoc true b c = refl
or-assoc false b c = refl

or-false : (a : Bool) → a || false ≡ a
or-false true = refl
or-false false = refl

then_nothing : (t : Told) → told_then t nothing_told ≡ t
then_nothing t = same_told (t.text ++ []) t.text (t.refused || false) t.refused (append-nil t.text) (or-false t.refused)

then_assoc : (s t u : Told) → told_then (told_then s t) u ≡ told_then s (told_then t u)
then_assoc s t u =
    same_told ((s.text ++ t.text) ++ u.text) (s.text ++ (t.text ++ u.text)) ((s.refused || t.refused) || u.refused)
    (s.refused || (t.refused || u.refused)) (append_assoc s.text t.text u.text) (or-assoc s.refused t.refused u.refused)

module _ (m : Manner) (line tick : ℕ) where
  -- one break more
  next_break : (i : ℕ) (breaks : List Break) (d : Break) → i < length breaks
      → breaks_told m line tick (take (suc i) breaks)
      ≡ told_then (breaks_told m line tick (take i breaks)) (break_told m line tick (slice_index_or breaks i d))
  next_break i [] d few = absurd (omega arith)
  next_break zero (b ∷ breaks) d few = then_nothing (break_told m line tick b)
  next_break (suc i) (b ∷ breaks) d few =
      ap (told_then (break_told m line tick b)) (next_break i breaks d (omega arith))
      ∙ sym (then_assoc (break_told m line tick b) (breaks_told m line tick (take i breaks)) (break_told m line tick (slice_index_or breaks i d)))

  -- a break that is told behind those before it
  pub one_more : (i : ℕ) (breaks : List Break) (d : Break) (initial text new : List ℕ) (any refused : Bool)
      → i < length breaks → text ≡ initial ++ (breaks_told m line tick (take i breaks)).text
      → any ≡ (breaks_told m line tick (take i breaks)).refused
      → Puts (λ t. t ≡ break_told m line tick (slice_index_or breaks i d)) text new refused
      → (new ≡ initial ++ (breaks_told m line tick (take (i + 1) breaks)).text)
      × (any || refused ≡ (breaks_told m line tick (take (i + 1) breaks)).refused)
  one_more i breaks d initial text new any refused few before some puts =
      let n : suc i ≡ i + 1 = omega arith in
      let first : Told = breaks_told m line tick (take i breaks) in
      let one : Told = break_told m line tick (slice_index_or breaks i d) in
      let both : told_then first one ≡ breaks_told m line tick (take (i + 1) breaks) =
      sym (next_break i breaks d few) ∙ ap (λ (k : ℕ). breaks_told m line tick (take k breaks)) n in (
        puts.grew
            ∙ ap (λ (z : List ℕ). z ++ puts.text) before
            ∙ append_assoc initial first.text puts.text
            ∙ ap (λ (t : Told). initial ++ (first.text ++ t.text)) puts.told
            ∙ ap (λ (t : Told). initial ++ t.text) both,
        ap (λ (z : Bool). z || refused) some
            ∙ ap (λ (t : Told). first.refused || t.refused) puts.told
            ∙ ap (λ (t : Told). t.refused) both,
      )
