-- What is kept of sets says which were shown.
use Rattle.std.proofs.Common.{◌≡◌, ◌↔◌, ◌⊎◌, ◌==◌, ◌&&◌, ℕ, nat_eq, Bool, true, false, cond, List, [], ◌∷◌, ◌++◌, Option, Some, refl, sym, ap, ◌∙◌, inl, inr}
use Rattle.std.specs.Bool.{Decides}
use Rattle.std.specs.Cmp.Lexicographic.{bytes_decides, pointwise}
use Rattle.std.specs.Map.{lookup}
use Rattle.std.specs.Option.{is_some, unwrap_or}
use Rattle.std.proofs.lemmas.Bool.Decides.{Decides-and, Decides-eqb}
use Rattle.indexmap.specs.IndexMap.{insert_entry}
use Rattle.link_frames.specs.declared.frame.End.{End}
use Rattle.link_frames.specs.declared.frame.Frame.{Frame}
use Rattle.link_frames.specs.declared.frame.Frame.TheVariants as frame
use Rattle.link_frames.specs.declared.note.Note.{Note}
use Rattle.link_frames.specs.declared.note.Note.TheVariants as note
use Rattle.trace_audit.proofs.ShownLemmas.{shown_one}
use Rattle.trace_model.specs.Safety.{IsShown, WasShown}
use Rattle.trace_model.specs.declared.entry.Entry.{Entry}
use Rattle.view_reports.specs.Sets.{SetRows, no_times, same_set, sets_behind, times_behind, times_in}
use Rattle.view_reports.specs.declared.handled.SetOf.{SetOf}
use Rattle.view_reports.specs.declared.times.Step.{Step}
use Rattle.view_reports.specs.declared.times.Step.TheVariants as step
use Rattle.view_reports.specs.declared.times.Times.{Times}
use Rattle.view_reports.proofs.RowLemmas.{lookup_put}

abbrev pub set_of : ℕ → ℕ → List ℕ → SetOf
set_of c r o = record { call = c; request = r; octets = o }

-- whether a set was shown, by what is kept
abbrev pub is_shown_in : SetRows → SetOf → Bool
is_shown_in sets s = is_some (times_in sets s).shown

-- what is kept of sets stands for those that these entries show
abbrev pub SetsStand : SetRows → List Entry → Type 0
SetsStand sets t = (c r : ℕ) (o : List ℕ) → (is_shown_in sets (set_of c r o) ≡ true ↔ WasShown c r o t)

set_parts : (a b : SetOf) → Decides (same_set a b) ((a.call ≡ b.call) × ((a.request ≡ b.request) × (a.octets ≡ b.octets)))
set_parts a b =
    Decides-and (a.call == b.call) ((a.request == b.request) && pointwise nat_eq a.octets b.octets)
    (Decides-eqb a.call b.call)
    (Decides-and (a.request == b.request) (pointwise nat_eq a.octets b.octets) (Decides-eqb a.request b.request)
    (bytes_decides a.octets b.octets))

set_same : (a b : SetOf) → same_set a b ≡ true → a ≡ b
set_same a b h =
    let p = (set_parts a b).0 h in
    λ i. record { call = p.0 i; request = p.1.0 i; octets = p.1.1 i }

times_put : (sets : SetRows) (k : SetOf) (v : Times) (q : SetOf)
    → times_in (insert_entry same_set sets k v) q ≡ cond (same_set q k) v (times_in sets q)
times_put sets k v q =
    ap (λ (o : Option Times). unwrap_or o no_times) (lookup_put same_set set_same sets k v q) ∙ at (same_set q k)
  where
    at : (b : Bool) → unwrap_or (cond b (Some v) (lookup (same_set q) sets)) no_times ≡ cond b v (times_in sets q)
    at true = refl
    at false = refl

-- where nothing is shown, it stays so whether it was
quiet : (was will : Bool) (c r : ℕ) (o : List ℕ) (t : List Entry) (x : Entry) → will ≡ was
    → (IsShown c r o x.note → ⊥) → (was ≡ true ↔ WasShown c r o t) → (will ≡ true ↔ WasShown c r o (t ++ x ∷ []))
quiet was will c r o t x same none h = (
  λ a. (shown_one c r o t x).1 (inl (h.0 (sym same ∙ a))),
  λ w. same ∙ h.1 (old ((shown_one c r o t x).0 w)),
)
  where
    old : WasShown c r o t ⊎ IsShown c r o x.note → WasShown c r o t
    old (inl k) = k
    old (inr k) = absurd (none k)

-- a step that shows nothing
step_quiet : (sets : SetRows) (k : SetOf) (s : Step) (now : ℕ) (q : SetOf)
    → (times_behind (times_in sets k) s now).shown ≡ (times_in sets k).shown
    → is_shown_in (insert_entry same_set sets k (times_behind (times_in sets k) s now)) q ≡ is_shown_in sets q
step_quiet sets k s now q keeps =
    ap (λ (z : Times). is_some z.shown) (times_put sets k (times_behind (times_in sets k) s now) q)
    ∙ at (same_set q k) refl
  where
    at : (b : Bool) → same_set q k ≡ b
        → is_some (cond b (times_behind (times_in sets k) s now) (times_in sets q)).shown ≡ is_shown_in sets q
    at true h = ap is_some keeps ∙ ap (is_shown_in sets) (sym (set_same q k h))
    at false h = refl

-- a set is shown
shown_more : (sets : SetRows) (t : List Entry) (now d s : ℕ) (p : List ℕ) (c r : ℕ) (o : List ℕ)
    → (is_shown_in sets (set_of c r o) ≡ true ↔ WasShown c r o t)
    → (is_shown_in (sets_behind sets (note.Shown d s p) now) (set_of c r o) ≡ true
    ↔ WasShown c r o (t ++ (record { tick = now; note = note.Shown d s p }) ∷ []))
shown_more sets t now d s p c r o h = (
  λ a. one.1 (to (same_set q k) refl (sym put ∙ a)),
  λ w. put ∙ from (one.0 w),
)
  where
    x : Entry
    x = record { tick = now; note = note.Shown d s p }

    q : SetOf
    q = set_of c r o

    k : SetOf
    k = set_of d s p

    one : WasShown c r o (t ++ x ∷ []) ↔ (WasShown c r o t ⊎ IsShown c r o x.note)
    one = shown_one c r o t x

    put : is_shown_in (sets_behind sets (note.Shown d s p) now) q
        ≡ is_some (cond (same_set q k) (times_behind (times_in sets k) step.Shown now) (times_in sets q)).shown
    put = ap (λ (z : Times). is_some z.shown) (times_put sets k (times_behind (times_in sets k) step.Shown now) q)

    to : (b : Bool) → same_set q k ≡ b
        → is_some (cond b (times_behind (times_in sets k) step.Shown now) (times_in sets q)).shown ≡ true
        → WasShown c r o t ⊎ IsShown c r o x.note
    to true same a = let e = (set_parts q k).0 same in inr (sym e.0, sym e.1.0, sym e.1.1)
    to false same a = inl (h.0 a)

    kept : (b : Bool) → is_shown_in sets q ≡ true
        → is_some (cond b (times_behind (times_in sets k) step.Shown now) (times_in sets q)).shown ≡ true
    kept true a = refl
    kept false a = a

    from : WasShown c r o t ⊎ IsShown c r o x.note
        → is_some (cond (same_set q k) (times_behind (times_in sets k) step.Shown now) (times_in sets q)).shown ≡ true
    from (inl w) = kept (same_set q k) (h.1 w)
    from (inr e) =
        ap (λ (b : Bool). is_some (cond b (times_behind (times_in sets k) step.Shown now) (times_in sets q)).shown)
        ((set_parts q k).1 (sym e.0, (sym e.1, sym e.2)))

sent_more : (sets : SetRows) (call now : ℕ) (f : Frame) (e : End) (q : SetOf)
    → is_shown_in (sets_behind sets (note.Send e call f) now) q ≡ is_shown_in sets q
sent_more sets call now (frame.Content r a o) e q = step_quiet sets (set_of call r o) step.Sent now q refl
sent_more sets call now _ e q = refl

note_stands : (sets : SetRows) (t : List Entry) (now : ℕ) (n : Note) → SetsStand sets t
    → SetsStand (sets_behind sets n now) (t ++ (record { tick = now; note = n }) ∷ [])
note_stands sets t now (note.Shown d s p) h = λ c r o. shown_more sets t now d s p c r o (h c r o)
note_stands sets t now (note.Acked d s p) h = λ c r o.
    quiet (is_shown_in sets (set_of c r o)) _ c r o t _ (step_quiet sets (set_of d s p) step.Acked now (set_of c r o) refl)
    (λ k. k) (h c r o)
note_stands sets t now (note.Send e d f) h = λ c r o.
    quiet (is_shown_in sets (set_of c r o)) _ c r o t _ (sent_more sets d now f e (set_of c r o)) (λ k. k) (h c r o)
note_stands sets t now n h = λ c r o.
    quiet (is_shown_in sets (set_of c r o)) (is_shown_in sets (set_of c r o)) c r o t (record { tick = now; note = n }) refl (λ k. k) (h c r o)

-- the sets behind one more entry
pub sets_more : (sets : SetRows) (t : List Entry) (x : Entry) → SetsStand sets t
    → SetsStand (sets_behind sets x.note x.tick) (t ++ x ∷ [])
sets_more sets t x = note_stands sets t x.tick x.note
