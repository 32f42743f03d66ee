-- The counts behind one entry more are those of the list with that entry at its end.
use Rattle.std.proofs.Common.{◌≡◌, ℕ, ◌+◌, Bool, true, false, List, [], ◌∷◌, ◌++◌, length, refl, sym, ap, ◌∙◌, arith, length-append}
use Rattle.std.specs.Prelude.{min}
use Rattle.std.proofs.lemmas.List.{append-nil}
use Rattle.std.proofs.lemmas.List.Elements.{filter-append}
use Rattle.link_frames.specs.declared.note.Note.{Note}
use Rattle.trace_model.specs.Tallies.{count, is_acked, is_answered, is_shown, last_tick, those, tally_of}
use Rattle.trace_model.specs.inner.Tallying.{one_more, tallied}
use Rattle.trace_model.specs.declared.entry.Entry.{Entry}
use Rattle.trace_model.specs.declared.tally.Tally.{Tally}

count-more : (n m : ℕ) → m ≡ n + 1 → min (min n 18446744073709551615 + 1) 18446744073709551615 ≡ min m 18446744073709551615
count-more n m is = omega arith

count-entry : (h : List Entry) (x : Entry) → one_more (count h) true ≡ count (h ++ x ∷ [])
count-entry h x = count-more (length h) (length (h ++ x ∷ [])) (length-append h (x ∷ []))

count-those : (test : Note → Bool) (h : List Entry) (x : Entry) → one_more (count (those test h)) (test x.note) ≡ count (those test (h ++ x ∷ []))
count-those test h x =
    by_test (test x.note) refl ∙ ap count (sym (filter-append (λ entry. test entry.note) h (x ∷ [])))
  where
    by_test : (b : Bool) → test x.note ≡ b → one_more (count (those test h)) b ≡ count (those test h ++ those test (x ∷ []))
    by_test true e = rw e (count-entry (those test h) x)
    by_test false e = rw e (ap count (sym (append-nil (those test h))))

last-entry : (h : List Entry) (x : Entry) → x.tick ≡ last_tick (h ++ x ∷ [])
last-entry [] x = refl
last-entry (y ∷ []) x = refl
last-entry (y ∷ z ∷ h) x = last-entry (z ∷ h) x

abbrev counts : (entries calls shown acked ticks : ℕ) → Tally
counts entries calls shown acked ticks = record { entries = entries; calls = calls; shown = shown; acked = acked; ticks = ticks }

same-counts : (e c s a t e2 c2 s2 a2 t2 : ℕ) → e ≡ e2 → c ≡ c2 → s ≡ s2 → a ≡ a2 → t ≡ t2 → counts e c s a t ≡ counts e2 c2 s2 a2 t2
same-counts e c s a t e2 c2 s2 a2 t2 p q r u v = rw (p, q, r, u, v) refl

pub tally-one : (h : List Entry) (x : Entry) → tallied (tally_of h) x ≡ tally_of (h ++ x ∷ [])
tally-one h x =
    same-counts _ _ _ _ _ _ _ _ _ _ (count-entry h x) (count-those is_answered h x) (count-those is_shown h x)
    (count-those is_acked h x) (last-entry h x)
