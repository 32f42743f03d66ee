-- Sets that were shown, kept in a set by a test that decides whether two are the same.
use Rattle.std.specs.Prelude.{◌≡◌, ◌↔◌, ◌⊎◌, ℕ, Bool, true, false, cond, IsTrue, List, [], ◌∷◌, ◌++◌, ◌&&◌, ◌==◌, nat_eq}
use Rattle.std.specs.Bool.{Decides}
use Rattle.std.specs.HashSet.{contains}
use Rattle.std.specs.Cmp.Lexicographic.{pointwise, bytes_decides}
use Rattle.std.proofs.Common.{refl, sym, ap, subst, ◌∙◌, inl, inr}
use Rattle.std.proofs.lemmas.Bool.Decides.{Decides-eqb, Decides-and}
use Rattle.link_frames.specs.declared.note.Note.{Note}
use Rattle.link_frames.specs.declared.note.Note.TheVariants as note
use Rattle.trace_model.specs.declared.entry.Entry.{Entry}
use Rattle.trace_model.specs.Safety.{IsShown, WasShown}
use Rattle.trace_audit.specs.declared.shown.Showing.{Showing}
use Rattle.trace_audit.specs.declared.shown.Shown.{Shown}
use Rattle.trace_audit.specs.ShownStands.{ShownStandsFor, same_showing}

abbrev pub showing : ℕ → ℕ → List ℕ → Showing
showing c r o = record { call = c; request = r; octets = o }

same_parts : (a b : Showing) →
    Decides (same_showing a b) ((a.call ≡ b.call) × ((a.request ≡ b.request) × (a.octets ≡ b.octets)))
same_parts a b =
    Decides-and (a.call == b.call) ((a.request == b.request) && pointwise nat_eq a.octets b.octets)
    (Decides-eqb a.call b.call)
    (Decides-and (a.request == b.request) (pointwise nat_eq a.octets b.octets) (Decides-eqb a.request b.request)
    (bytes_decides a.octets b.octets))

-- One more entry.

pub shown_one : (c r : ℕ) (o : List ℕ) → (t : List Entry) (x : Entry) →
    WasShown c r o (t ++ x ∷ []) ↔ (WasShown c r o t ⊎ IsShown c r o x.note)
shown_one c r o [] x = (to, from)
  where
    to : IsShown c r o x.note ⊎ ⊥ → ⊥ ⊎ IsShown c r o x.note
    to (inl h) = inr h
    to (inr h) = absurd h

    from : ⊥ ⊎ IsShown c r o x.note → IsShown c r o x.note ⊎ ⊥
    from (inl h) = absurd h
    from (inr h) = inl h
shown_one c r o (y ∷ t) x = (to (shown_one c r o t x).0, from (shown_one c r o t x).1)
  where
    to : (WasShown c r o (t ++ x ∷ []) → WasShown c r o t ⊎ IsShown c r o x.note) →
        IsShown c r o y.note ⊎ WasShown c r o (t ++ x ∷ []) →
        (IsShown c r o y.note ⊎ WasShown c r o t) ⊎ IsShown c r o x.note
    to more (inl h) = inl (inl h)
    to more (inr h) = over (more h)
      where
        over : WasShown c r o t ⊎ IsShown c r o x.note →
            (IsShown c r o y.note ⊎ WasShown c r o t) ⊎ IsShown c r o x.note
        over (inl k) = inl (inr k)
        over (inr k) = inr k

    from : (WasShown c r o t ⊎ IsShown c r o x.note → WasShown c r o (t ++ x ∷ [])) →
        (IsShown c r o y.note ⊎ WasShown c r o t) ⊎ IsShown c r o x.note →
        IsShown c r o y.note ⊎ WasShown c r o (t ++ x ∷ [])
    from more (inl (inl h)) = inl h
    from more (inl (inr h)) = inr (more (inl h))
    from more (inr h) = inr (more (inr h))

-- what is kept answers whether a set was shown
pub has_by : (shown : Shown) (call request number : ℕ) (octets : List ℕ) (answer : Bool) → number ≡ request →
    answer ≡ contains same_showing shown.sets (showing call number octets) → (t : List Entry) → ShownStandsFor shown t →
    (IsTrue answer ↔ WasShown call request octets t)
has_by shown call request number octets answer same is t h =
    let at : answer ≡ contains same_showing shown.sets (showing call request octets) =
    is ∙ ap (λ z. contains same_showing shown.sets (showing call z octets)) same in
    (λ a. (h call request octets).0 (sym at ∙ a), λ w. at ∙ (h call request octets).1 w)

-- One more set is kept.
added_at : (k q : Showing) (was will : Bool) (t : List Entry) (x : Entry) →
    x.note ≡ note.Shown k.call k.request k.octets →
    will ≡ cond (same_showing k q) true was → (was ≡ true ↔ WasShown q.call q.request q.octets t) →
    (will ≡ true ↔ WasShown q.call q.request q.octets (t ++ x ∷ []))
added_at k q was will t x n e h = (to, from)
  where
    one : WasShown q.call q.request q.octets (t ++ x ∷ []) ↔
        (WasShown q.call q.request q.octets t ⊎ IsShown q.call q.request q.octets x.note)
    one = shown_one q.call q.request q.octets t x

    here : (k.call ≡ q.call) × (k.request ≡ q.request) × (k.octets ≡ q.octets) →
        IsShown q.call q.request q.octets x.note
    here p = subst (λ (z : Note). IsShown q.call q.request q.octets z) (sym n) p

    back : IsShown q.call q.request q.octets x.note →
        (k.call ≡ q.call) × (k.request ≡ q.request) × (k.octets ≡ q.octets)
    back p = subst (λ (z : Note). IsShown q.call q.request q.octets z) n p

    by : (b : Bool) → same_showing k q ≡ b → cond b true was ≡ true →
        WasShown q.call q.request q.octets t ⊎ IsShown q.call q.request q.octets x.note
    by true s a = let p = (same_parts k q).0 s in inr (here (p.0, p.1.0, p.1.1))
    by false s a = inl (h.0 a)

    to : will ≡ true → WasShown q.call q.request q.octets (t ++ x ∷ [])
    to a = one.1 (by (same_showing k q) refl (sym e ∙ a))

    keeps : (b : Bool) → was ≡ true → cond b true was ≡ true
    keeps true a = refl
    keeps false a = a

    or : WasShown q.call q.request q.octets t ⊎ IsShown q.call q.request q.octets x.note → will ≡ true
    or (inl w) = e ∙ keeps (same_showing k q) (h.1 w)
    or (inr s) = let p = back s in e ∙ ap (λ b. cond b true was) ((same_parts k q).1 (p.0, (p.1, p.2)))

    from : WasShown q.call q.request q.octets (t ++ x ∷ []) → will ≡ true
    from w = or (one.0 w)

pub added_by : (old new : Shown) (call request number : ℕ) (octets : List ℕ) → number ≡ request →
    ((q : Showing) → contains same_showing new.sets q
    ≡ cond (same_showing (showing call number octets) q) true (contains same_showing old.sets q)) →
    (t : List Entry) (x : Entry) → x.note ≡ note.Shown call request octets → ShownStandsFor old t →
    ShownStandsFor new (t ++ x ∷ [])
added_by old new call request number octets same e t x n h =
    λ c r o.
    added_at (showing call number octets) (showing c r o) (contains same_showing old.sets (showing c r o))
    (contains same_showing new.sets (showing c r o)) t x
    (n ∙ ap (λ z. note.Shown call z octets) (sym same)) (e (showing c r o)) (h c r o)

-- the item shows no set
abbrev pub ShowsNone : Note → Type 0
ShowsNone (note.Shown c r o) = ⊥
ShowsNone _ = Unit {0}

pub none_shown : (n : Note) → ((c r : ℕ) (o : List ℕ) → n ≡ note.Shown c r o → ⊥) → ShowsNone n
none_shown (note.Shown c r o) h = h c r o refl
none_shown _ h = tt

not_shown : (c r : ℕ) (o : List ℕ) (n : Note) → ShowsNone n → IsShown c r o n → ⊥
not_shown c r o (note.Shown d s p) none h = none
not_shown c r o _ none h = h

pub kept_by : (shown : Shown) (t : List Entry) (x : Entry) → ShowsNone x.note → ShownStandsFor shown t →
    ShownStandsFor shown (t ++ x ∷ [])
kept_by shown t x none h =
    λ c r o.
    (λ a. (shown_one c r o t x).1 (inl ((h c r o).0 a)), λ w. at c r o ((shown_one c r o t x).0 w))
  where
    at : (c r : ℕ) (o : List ℕ) → WasShown c r o t ⊎ IsShown c r o x.note →
        contains same_showing shown.sets (showing c r o) ≡ true
    at c r o (inl w) = (h c r o).1 w
    at c r o (inr s) = absurd (not_shown c r o x.note none s)
