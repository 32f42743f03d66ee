-- A frame that was sent before stands in the joint trace, and keeps to what all frames of its call keep to.
use Rattle.std.specs.Prelude.{◌≡◌, ◌≤◌, ◌<◌, ℕ, zero, suc, true, false, Bool, List, [], ◌∷◌, ◌++◌, ◌⊎◌, ◌==◌, if◌then◌else◌}
use Rattle.std.specs.List.{AllByRecursion}
use Rattle.std.proofs.Common.{refl, subst, inl, inr, arith}
use Rattle.std.proofs.lemmas.Bool.{eqb-true, eqb-false, eq-eqb}
use Rattle.link_frames.specs.declared.frame.End.{End}
use Rattle.link_frames.specs.declared.frame.End.TheVariants as «end»
use Rattle.link_frames.specs.declared.frame.Frame.{Frame}
use Rattle.link_frames.specs.declared.note.Note.{Note}
use Rattle.link_frames.specs.declared.note.Note.TheVariants as note
use Rattle.trace_model.specs.declared.entry.Entry.{Entry}
use Rattle.trace_model.specs.History.{sends, sent_by, sets_of}
use Rattle.trace_model.specs.Safety.{is_leg}
use Rattle.trace_model.proofs.Folds.{is_leg_same}
use Rattle.trace_fit.specs.Links.{CarriesMade, ConfirmsShown, CallLinks}
use Rattle.trace_fit.specs.inner.FitAt.{Came}
use Rattle.live_link.specs.Turns.{Carried}
use Rattle.live_link.specs.Joint.{at_tick, joint, SentBefore}

-- the end at the other side
abbrev pub other : End → End
other «end».Vehicle = «end».Point
other «end».Point = «end».Vehicle

-- among these entries of an end is one that sends this frame in its call
abbrev pub HasSent : End → Carried → List Entry → Type 0
HasSent e k [] = ⊥
HasSent e k (x ∷ xs) = (x.note ≡ note.Send e k.call k.frame) ⊎ HasSent e k xs

pub sent_front : (e : End) (k : Carried) (xs ys : List Entry) → HasSent e k xs → HasSent e k (xs ++ ys)
sent_front e k [] ys h = absurd h
sent_front e k (x ∷ xs) ys (inl h) = inl h
sent_front e k (x ∷ xs) ys (inr h) = inr (sent_front e k xs ys h)

pub sent_back : (e : End) (k : Carried) (xs ys : List Entry) → HasSent e k ys → HasSent e k (xs ++ ys)
sent_back e k [] ys h = h
sent_back e k (x ∷ xs) ys h = inr (sent_back e k xs ys h)

-- what holds of all frames sent in a call holds of this one
sent_all : (P : Frame → Type 0) (e : End) (k : Carried) → (t : List Entry) → HasSent e k t →
    AllByRecursion (λ s. P s.frame) (sent_by e k.call t) → P k.frame
sent_all P e k [] h a = absurd h
sent_all P e k (x ∷ t) (inl here) a =
    let b : AllByRecursion (λ s. P s.frame) (sends e k.call x.tick (note.Send e k.call k.frame) (sent_by e k.call t)) =
    subst (λ (n : Note). AllByRecursion (λ s. P s.frame) (sends e k.call x.tick n (sent_by e k.call t))) here a in
    first (is_leg e k.call e k.call) (is_leg_same e k.call) b
  where
    first : (b : Bool) → b ≡ true →
        AllByRecursion (λ s. P s.frame) (if b then record { tick = x.tick; frame = k.frame } ∷ sent_by e k.call t else sent_by e k.call t) →
        P k.frame
    first true h a = a.0
    first false h a = cc
sent_all P e k (x ∷ t) (inr there) a = sent_all P e k t there (rest x.note a)
  where
    rest : (n : Note) → AllByRecursion (λ s. P s.frame) (sends e k.call x.tick n (sent_by e k.call t)) →
        AllByRecursion (λ s. P s.frame) (sent_by e k.call t)
    rest (note.Send f d frame) a = at (is_leg e k.call f d) a
      where
        at : (b : Bool) → AllByRecursion (λ s. P s.frame) (if b then record { tick = x.tick; frame = frame } ∷ sent_by e k.call t else sent_by e k.call t) →
            AllByRecursion (λ s. P s.frame) (sent_by e k.call t)
        at true a = a.1
        at false a = a
    rest _ a = a

-- a frame that the other end sent keeps to what a frame that comes keeps to
pub came_by : (e : End) (k : Carried) (t : List Entry) → CallLinks t k.call → HasSent (other e) k t →
    Came e k.call t k.frame
came_by «end».Vehicle k t links h =
    sent_all (ConfirmsShown (sets_of «end».Point k.call t)) «end».Point k t h links.confirmed
came_by «end».Point k t links h =
    sent_all (CarriesMade (sets_of «end».Vehicle k.call t)) «end».Vehicle k t h links.carried

-- Ticks.

-- such an entry stands at a tick
sent_at : (e : End) (k : Carried) (now : ℕ) → (t : List Entry) → SentBefore e k now t →
    (m : ℕ) × (m < now) × HasSent e k (at_tick m t)
sent_at e k now [] h = absurd h
sent_at e k now (x ∷ t) (inl h) =
    (x.tick, h.0, ap_here (x.tick == x.tick) (eq-eqb x.tick x.tick refl))
  where
    ap_here : (b : Bool) → b ≡ true → HasSent e k (if b then x ∷ at_tick x.tick t else at_tick x.tick t)
    ap_here true q = inl h.1
    ap_here false q = cc
sent_at e k now (x ∷ t) (inr h) =
    let r : (m : ℕ) × (m < now) × HasSent e k (at_tick m t) = sent_at e k now t h in
    (r.0, r.1, behind r.0 (x.tick == r.0) r.2)
  where
    behind : (m : ℕ) (b : Bool) → HasSent e k (at_tick m t) → HasSent e k (if b then x ∷ at_tick m t else at_tick m t)
    behind m true h = inr h
    behind m false h = h

abbrev pub of_end : End → (vehicle point : List Entry) → List Entry
of_end «end».Vehicle v p = v
of_end «end».Point v p = p

sent_now : (e : End) (k : Carried) (n : ℕ) (v p : List Entry) → HasSent e k (at_tick n (of_end e v p)) →
    HasSent e k (at_tick n p ++ at_tick n v)
sent_now «end».Vehicle k n v p h = sent_back «end».Vehicle k (at_tick n p) (at_tick n v) h
sent_now «end».Point k n v p h = sent_front «end».Point k (at_tick n p) (at_tick n v) h

sent_joint_at : (e : End) (k : Carried) (m n : ℕ) (v p : List Entry) → m ≤ n → HasSent e k (at_tick m (of_end e v p)) →
    HasSent e k (joint n v p)
sent_joint_at e k m zero v p low h =
    let zero_is : m ≡ 0 = omega (arith, low) in
    sent_now e k 0 v p (subst (λ (z : ℕ). HasSent e k (at_tick z (of_end e v p))) zero_is h)
sent_joint_at e k m (suc n) v p low h = at (λ below. sent_joint_at e k m n v p below h) (m == suc n) refl
  where
    at : (m ≤ n → HasSent e k (joint n v p)) → (b : Bool) → (m == suc n) ≡ b → HasSent e k (joint (suc n) v p)
    at before true q =
        sent_back e k (joint n v p) (at_tick (suc n) p ++ at_tick (suc n) v)
        (sent_now e k (suc n) v p
        (subst (λ (z : ℕ). HasSent e k (at_tick z (of_end e v p))) (eqb-true m (suc n) q) h))
    at before false q =
        let apart : m ≡ suc n → ⊥ = eqb-false m (suc n) q in
        sent_front e k (joint n v p) (at_tick (suc n) p ++ at_tick (suc n) v)
        (before (below m n low apart))
      where
        below : (m n : ℕ) → m ≤ suc n → (m ≡ suc n → ⊥) → m ≤ n
        below m n low apart = grind (arith, low, apart)

-- what was sent before the next tick stands in the joint trace up to this one
pub sent_joint : (e : End) (k : Carried) (n : ℕ) (v p : List Entry) → SentBefore e k (suc n) (of_end e v p) →
    HasSent e k (joint n v p)
sent_joint e k n v p h =
    let r : (m : ℕ) × (m < suc n) × HasSent e k (at_tick m (of_end e v p)) = sent_at e k (suc n) (of_end e v p) h in
    sent_joint_at e k r.0 n v p (omega (arith, r.1)) r.2
