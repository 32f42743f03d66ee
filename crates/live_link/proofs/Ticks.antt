-- One tick of one end: the turns of that tick, and what comes behind it.
use Rattle.std.specs.Prelude.{◌≡◌, ◌≤◌, ◌<◌, ◌+◌, ℕ, true, false, Bool, List, [], ◌∷◌, ◌++◌, ◌⊎◌, Option, Some, None, IfSome, ◌==◌, if◌then◌else◌}
use Rattle.std.specs.List.{AllByRecursion}
use Rattle.std.proofs.Common.{refl, sym, ap, subst, ◌∙◌, inl, inr, arith, append_assoc}
use Rattle.std.proofs.lemmas.Bool.{eq-eqb, ne_eqb}
use Rattle.std.proofs.lemmas.List.{append-nil}
use Rattle.link_frames.specs.declared.frame.End.{End}
use Rattle.link_frames.specs.declared.frame.End.TheVariants as «end»
use Rattle.link_frames.specs.declared.note.Note.{Note}
use Rattle.trace_model.specs.declared.entry.Entry.{Entry}
use Rattle.trace_model.specs.History.{told}
use Rattle.trace_fit.specs.Links.{CallLinks}
use Rattle.trace_fit.specs.inner.FitAt.{Came}
use Rattle.trace_fit.proofs.Lists.{all_into}
use Rattle.live_link.specs.Turns.{Carried, Turn, entries_of}
use Rattle.live_link.specs.Joint.{at_tick}
use Rattle.live_link.proofs.Owed.{Place, frame_of, PassesTurn, EventTurn, OwedFrom, Events, Later}
use Rattle.live_link.proofs.Moved.{Places, place, with_end, again, here_is}
use Rattle.live_link.proofs.Sent.{other, HasSent, sent_front, came_by}
use Rattle.live_link.proofs.TurnKept.{Joined, hears_kept, comes_up_kept}

-- The turns from a place on, split behind the events of its tick.
pub record Split (e : End) (n : ℕ) (p : Place) (ts : List Turn) : Type 0 where
  pub now : List Turn
  pub later : List Turn
  pub at : Place
  pub whole : ts ≡ now ++ later
  pub events : Events e p now at
  pub rest : Later e n at later

pub split : (e : End) (n : ℕ) (p : Place) → (ts : List Turn) → OwedFrom e n p ts → Split e n p ts
split e n p [] h = record { now = []; later = []; at = p; whole = refl; events = refl; rest = h }
split e n p (t ∷ ts) h = by (split e n h.0 ts h.2) h.1
  where
    by : Split e n h.0 ts → EventTurn e p t h.0 ⊎ PassesTurn e p t h.0 → Split e n p (t ∷ ts)
    by s (inl event) =
        record {
          now = t ∷ s.now;
          later = s.later;
          at = s.at;
          whole = ap (λ z. t ∷ z) s.whole;
          events = (h.0, event, s.events);
          rest = s.rest;
        }
    by s (inr pass) =
        record { now = []; later = t ∷ ts; at = p; whole = refl; events = refl; rest = (h.0, pass, h.2) }

-- The entries of a tick.

pub at_append : (n : ℕ) (xs ys : List Entry) → at_tick n (xs ++ ys) ≡ at_tick n xs ++ at_tick n ys
at_append n [] ys = refl
at_append n (x ∷ xs) ys = by (at_append n xs ys) (x.tick == n)
  where
    by : at_tick n (xs ++ ys) ≡ at_tick n xs ++ at_tick n ys → (b : Bool) → (if b then x ∷ at_tick n (xs ++ ys) else at_tick n (xs ++ ys))
        ≡ (if b then x ∷ at_tick n xs else at_tick n xs) ++ at_tick n ys
    by h true = ap (λ z. x ∷ z) h
    by h false = h

pub told_now : (n m : ℕ) → m ≡ n → (ns : List Note) → at_tick n (told m ns) ≡ told m ns
told_now n m h [] = refl
told_now n m h (x ∷ ns) = rw (eq-eqb m n h) (ap (λ z. record { tick = m; note = x } ∷ z) (told_now n m h ns))

pub told_apart : (n m : ℕ) → (m ≡ n → ⊥) → (ns : List Note) → at_tick n (told m ns) ≡ []
told_apart n m h [] = refl
told_apart n m h (x ∷ ns) = rw (ne_eqb m n h) (told_apart n m h ns)

pub entries_append : (xs ys : List Turn) → entries_of (xs ++ ys) ≡ entries_of xs ++ entries_of ys
entries_append [] ys = refl
entries_append (x ∷ xs) ys =
    ap (λ z. told x.tick x.items ++ z) (entries_append xs ys)
    ∙ sym (append_assoc (told x.tick x.items) (entries_of xs) (entries_of ys))

pub event_now : (e : End) (p : Place) (t : Turn) (q : Place) → EventTurn e p t q → (t.tick ≡ p.clock) × (q.clock ≡ p.clock)
event_now e p t q (inl h) = (h.now, h.clock)
event_now e p t q (inr h) = (h.now, h.clock)

pub events_clock : (e : End) (p : Place) (ts : List Turn) (q : Place) → Events e p ts q → q.clock ≡ p.clock
events_clock e p [] q h = ap (λ z. z.clock) (sym h)
events_clock e p (t ∷ ts) q h = events_clock e h.0 ts q h.2 ∙ (event_now e p t h.0 h.1).1

events_now : (e : End) (n : ℕ) (p : Place) (ts : List Turn) (q : Place) → p.clock ≡ n → Events e p ts q →
    at_tick n (entries_of ts) ≡ entries_of ts
events_now e n p [] q k h = refl
events_now e n p (t ∷ ts) q k h =
    let now = event_now e p t h.0 h.1 in
    at_append n (told t.tick t.items) (entries_of ts)
    ∙ ap (λ z. z ++ at_tick n (entries_of ts)) (told_now n t.tick (now.0 ∙ k) t.items)
    ∙ ap (λ z. told t.tick t.items ++ z) (events_now e n h.0 ts q (now.1 ∙ k) h.2)

events_apart : (e : End) (n : ℕ) (p : Place) (ts : List Turn) (q : Place) → (p.clock ≡ n → ⊥) → Events e p ts q →
    at_tick n (entries_of ts) ≡ []
events_apart e n p [] q k h = refl
events_apart e n p (t ∷ ts) q k h =
    let now = event_now e p t h.0 h.1 in
    at_append n (told t.tick t.items) (entries_of ts)
    ∙ ap (λ z. z ++ at_tick n (entries_of ts)) (told_apart n t.tick (λ same. k (sym now.0 ∙ same)) t.items)
    ∙ events_apart e n h.0 ts q (λ same. k (sym now.1 ∙ same)) h.2

owed_apart : (e : End) (n m : ℕ) (p : Place) (ts : List Turn) → m < p.clock → OwedFrom e n p ts →
    at_tick m (entries_of ts) ≡ []
owed_apart e n m p [] k h = refl
owed_apart e n m p (t ∷ ts) k h = by (owed_apart e n m h.0 ts) h.1
  where
    by : (m < h.0.clock → OwedFrom e n h.0 ts → at_tick m (entries_of ts) ≡ []) →
        EventTurn e p t h.0 ⊎ PassesTurn e p t h.0 → at_tick m (entries_of (t ∷ ts)) ≡ []
    by next (inl event) =
        let now = event_now e p t h.0 event in
        at_append m (told t.tick t.items) (entries_of ts)
        ∙ ap (λ z. z ++ at_tick m (entries_of ts)) (told_apart m t.tick (λ same. absurd (omega (arith, k, same, now.0))) t.items)
        ∙ next (omega (arith, k, now.1)) h.2
    by next (inr pass) =
        let at : t.tick ≡ p.clock + 1 = pass.now in
        let clock : h.0.clock ≡ p.clock + 1 = pass.clock in
        at_append m (told t.tick t.items) (entries_of ts)
        ∙ ap (λ z. z ++ at_tick m (entries_of ts)) (told_apart m t.tick (λ same. absurd (omega (arith, k, same, at))) t.items)
        ∙ next (omega (arith, k, clock)) h.2

later_apart : (e : End) (n m : ℕ) (p : Place) (ts : List Turn) → m ≤ p.clock → Later e n p ts →
    at_tick m (entries_of ts) ≡ []
later_apart e n m p [] k h = refl
later_apart e n m p (t ∷ ts) k h =
    let at : t.tick ≡ p.clock + 1 = h.1.now in
    let clock : h.0.clock ≡ p.clock + 1 = h.1.clock in
    at_append m (told t.tick t.items) (entries_of ts)
    ∙ ap (λ z. z ++ at_tick m (entries_of ts)) (told_apart m t.tick (λ same. absurd (omega (arith, k, same, at))) t.items)
    ∙ owed_apart e n m h.0 ts (omega (arith, k, clock)) h.2

-- the entries of the tick at which these turns begin are those of the events split off
pub split_now : (e : End) (n m : ℕ) (p : Place) (ts : List Turn) (s : Split e n p ts) → p.clock ≡ m →
    at_tick m (entries_of ts) ≡ entries_of s.now
split_now e n m p ts s k =
    let clock : s.at.clock ≡ p.clock = events_clock e p s.now s.at s.events in
    ap (λ z. at_tick m (entries_of z)) s.whole
    ∙ ap (at_tick m) (entries_append s.now s.later)
    ∙ at_append m (entries_of s.now) (entries_of s.later)
    ∙ ap (λ z. z ++ at_tick m (entries_of s.later)) (events_now e m p s.now s.at k s.events)
    ∙ ap (λ z. entries_of s.now ++ z) (later_apart e n m s.at s.later (omega (arith, k, clock)) s.rest)
    ∙ append-nil (entries_of s.now)

-- those of a later tick come behind
pub split_later : (e : End) (n m : ℕ) (p : Place) (ts : List Turn) (s : Split e n p ts) → p.clock < m →
    at_tick m (entries_of ts) ≡ at_tick m (entries_of s.later)
split_later e n m p ts s k =
    ap (λ z. at_tick m (entries_of z)) s.whole
    ∙ ap (at_tick m) (entries_append s.now s.later)
    ∙ at_append m (entries_of s.now) (entries_of s.later)
    ∙ ap (λ z. z ++ at_tick m (entries_of s.later))
    (events_apart e m p s.now s.at (λ same. absurd (omega (arith, k, same))) s.events)

-- Events keep a joint trace that fits.

-- the frame that was heard in a turn, if one was, stands in the trace
abbrev pub Stands : End → List Entry → Turn → Type 0
Stands e t turn = IfSome turn.came (λ k. HasSent (other e) k t)

stand_front : (e : End) (t u : List Entry) (turn : Turn) → Stands e t turn → Stands e (t ++ u) turn
stand_front e t u turn h = by turn.came h
  where
    by : (o : Option Carried) → IfSome o (λ k. HasSent (other e) k t) → IfSome o (λ k. HasSent (other e) k (t ++ u))
    by None h = tt
    by (Some k) h = sent_front (other e) k t u h

came_here : (e : End) (c : ℕ) (t : List Entry) → ((d : ℕ) → CallLinks t d) → (o : Option Carried) →
    IfSome o (λ k. k.call ≡ c) → IfSome o (λ k. HasSent (other e) k t) → IfSome (frame_of o) (Came e c t)
came_here e c t links None own h = tt
came_here e c t links (Some k) own h =
    subst (λ (z : ℕ). Came e z t k.frame) own (came_by e k t (links k.call) h)

pub event_turn : (now : ℕ) (ps : Places) (t : List Entry) (e : End) (turn : Turn) (q : Place)
    → Joined now ps t
    → (place ps e).clock ≡ now
    → Stands e t turn
    → EventTurn e (place ps e) turn q
    → Joined now (with_end e q ps) (t ++ told turn.tick turn.items)
event_turn now ps t e turn q j passed came (inl h) =
    subst (λ (z : ℕ). Joined now (with_end e q ps) (t ++ told z turn.items)) (sym (h.now ∙ passed))
    (hears_kept now ps t e turn q j passed (came_here e (place ps e).call t j.fit.links turn.came h.came came) h)
event_turn now ps t e turn q j passed came (inr h) =
    subst (λ (z : ℕ). Joined now (with_end e q ps) (t ++ told z turn.items)) (sym (h.now ∙ passed))
    (comes_up_kept now ps t e turn q j passed h)

unmoved : (e : End) (ps : Places) → ps ≡ with_end e (place ps e) ps
unmoved «end».Vehicle ps = refl
unmoved «end».Point ps = refl

pub events_kept : (now : ℕ) (e : End) (q : Place) (ts : List Turn) (ps : Places) (t : List Entry)
    → Joined now ps t
    → (place ps e).clock ≡ now
    → AllByRecursion (Stands e t) ts
    → Events e (place ps e) ts q
    → Joined now (with_end e q ps) (t ++ entries_of ts)
events_kept now e q [] ps t j passed came h =
    subst (λ (z : Places). Joined now z (t ++ [])) (unmoved e ps ∙ ap (λ z. with_end e z ps) h)
    (subst (λ (z : List Entry). Joined now ps z) (sym (append-nil t)) j)
events_kept now e q (turn ∷ ts) ps t j passed came h =
    let r : Place = h.0 in
    let u : List Entry = told turn.tick turn.items in
    let next : Joined now (with_end e r ps) (t ++ u) = event_turn now ps t e turn r j passed came.0 h.1 in
    let clock : (place (with_end e r ps) e).clock ≡ now =
    ap (λ z. z.clock) (here_is e r ps) ∙ (event_now e (place ps e) turn r h.1).1 ∙ passed in
    subst (λ (z : List Entry). Joined now (with_end e q ps) z) (append_assoc t u (entries_of ts))
    (subst (λ (z : Places). Joined now z ((t ++ u) ++ entries_of ts)) (again e q r ps)
    (events_kept now e q ts (with_end e r ps) (t ++ u) next clock
    (all_into _ _ (λ x k. stand_front e t u x k) ts came.1)
    (subst (λ (z : Place). Events e z ts q) (sym (here_is e r ps)) h.2)))
