-- What one more entry does to a trace that is safe, and that each front of a safe trace is safe, at its last entry's tick.
use Rattle.std.specs.Prelude.{◌≡◌, ◌≤◌, ◌+◌, ◌↔◌, ℕ, Bool, true, false, List, [], ◌∷◌, ◌++◌, ◌&&◌, if◌then◌else◌}
use Rattle.std.proofs.Common.{sym, subst, arith, append_assoc}
use Rattle.std.proofs.lemmas.Bool.{false≢true, true≢false}
use Rattle.std.proofs.lemmas.List.{append-nil}
use Rattle.link_frames.specs.declared.frame.End.{End}
use Rattle.link_frames.specs.declared.note.Note.{Note}
use Rattle.link_frames.specs.declared.note.Note.TheVariants as note
use Rattle.link_frames.specs.Legs.{through, least_opening}
use Rattle.trace_model.specs.declared.entry.Entry.{Entry}
use Rattle.trace_model.specs.Safety.{is_own, own, Leg, revoiced, first_leg, leg_moved, leg_step, leg_behind, leg_at, AtEach, IsShownFirst, AgreedFrom, Agreed, MustOpen, OpensNext, Opened, OwesOpening, IsWithin, TurnsMuted, IsBounded, IsBoundedLeg, Bounded, Safe}
use Rattle.trace_model.proofs.Folds.{through_append}

-- One more entry.

pub agreed_front : (before xs ys : List Entry) → AgreedFrom before (xs ++ ys) → AgreedFrom before xs
agreed_front before [] ys h = tt
agreed_front before (x ∷ xs) ys h = (h.0, agreed_front (before ++ x ∷ []) xs ys h.1)

agreed_last : (before xs : List Entry) (x : Entry) → AgreedFrom before (xs ++ x ∷ []) → IsShownFirst (before ++ xs) x.note
agreed_last before [] x h = rw (append-nil before) h.0
agreed_last before (y ∷ xs) x h =
    subst (λ (z : List Entry). IsShownFirst z x.note) (append_assoc before (y ∷ []) xs)
    (agreed_last (before ++ y ∷ []) xs x h.1)

agreed_more : (before xs : List Entry) (x : Entry) → AgreedFrom before xs → IsShownFirst (before ++ xs) x.note →
    AgreedFrom before (xs ++ x ∷ [])
agreed_more before [] x h last = (rw (append-nil before) at last, tt)
agreed_more before (y ∷ xs) x h last = (
  h.0,
  agreed_more (before ++ y ∷ []) xs x h.1
      (subst (λ (z : List Entry). IsShownFirst z x.note) (sym (append_assoc before (y ∷ []) xs)) last),
)

pub agreed_one : (t : List Entry) (x : Entry) → Agreed (t ++ x ∷ []) ↔ Agreed t × IsShownFirst t x.note
agreed_one t x = (λ h. (agreed_front [] t (x ∷ []) h, agreed_last [] t x h), λ h. agreed_more [] t x h.0 h.1)

-- what must be opened, of one leg
abbrev MustFrom : End → ℕ → Leg → List Entry → Type 0
MustFrom e c leg t = AtEach (λ leg x next. MustOpen e c leg x → OpensNext e c next) e c leg t

opens_front : (e : End) (c : ℕ) → (xs ys : List Entry) → OpensNext e c (xs ++ ys) → OpensNext e c xs
opens_front e c [] ys h = tt
opens_front e c (x ∷ xs) ys h = h

pub opened_front : (e : End) (c : ℕ) (leg : Leg) → (xs ys : List Entry) → MustFrom e c leg (xs ++ ys) → MustFrom e c leg xs
opened_front e c leg [] ys h = tt
opened_front e c leg (x ∷ xs) ys h =
    (λ d. opens_front e c xs ys (h.0 d), opened_front e c (leg_behind e c leg x) xs ys h.1)

opened_last : (e : End) (c : ℕ) (leg : Leg) → (xs : List Entry) (x : Entry) → MustFrom e c leg (xs ++ x ∷ []) →
    OwesOpening e c leg xs → x.note ≡ note.Voice e c true true
opened_last e c leg [] x h owes = absurd owes
opened_last e c leg (y ∷ []) x h owes = h.0 owes
opened_last e c leg (y ∷ z ∷ xs) x h owes = opened_last e c (leg_behind e c leg y) (z ∷ xs) x h.1 owes

opened_more : (e : End) (c : ℕ) (leg : Leg) → (xs : List Entry) (x : Entry) → MustFrom e c leg xs →
    (OwesOpening e c leg xs → x.note ≡ note.Voice e c true true) → MustFrom e c leg (xs ++ x ∷ [])
opened_more e c leg [] x h last = (λ d. tt, tt)
opened_more e c leg (y ∷ []) x h last = (last, (λ d. tt, tt))
opened_more e c leg (y ∷ z ∷ xs) x h last = (h.0, opened_more e c (leg_behind e c leg y) (z ∷ xs) x h.1 last)

pub opened_one : (t : List Entry) (x : Entry) → Opened (t ++ x ∷ []) ↔
    Opened t × ((e : End) (c : ℕ) → OwesOpening e c first_leg t → x.note ≡ note.Voice e c true true)
opened_one t x = (
  λ h. (λ e c. opened_front e c first_leg t (x ∷ []) (h e c), λ e c. opened_last e c first_leg t x (h e c)),
  λ h. λ e c. opened_more e c first_leg t x (h.0 e c) (h.1 e c),
)

pub leg_one : (e : End) (c : ℕ) (t : List Entry) (x : Entry) → leg_at e c (t ++ x ∷ []) ≡ leg_behind e c (leg_at e c t) x
leg_one e c t x = through_append (own leg_step e c) first_leg t (x ∷ [])

-- A leg is within its limit.

revoiced_within : (e : End) (now : ℕ) (leg : Leg) → IsWithin e now leg → (was will : Bool) →
    IsWithin e now (revoiced leg now was will)
revoiced_within e now leg h true true = h
revoiced_within e now leg h false false = h
revoiced_within e now leg h true false = λ p q. omega arith
revoiced_within e now leg h false true = λ p q. absurd (true≢false q)

pub moved_within : (e : End) (now : ℕ) (leg : Leg) → (n : Note) → IsWithin e now leg → IsWithin e now (leg_moved leg now n)
moved_within e now leg (note.Up f d) h = at leg.up
  where
    at : (b : Bool) → IsWithin e now (if b then leg else record { up = true; talks = false; since = now })
    at true = h
    at false = λ x y. omega arith
moved_within e now leg (note.Down f d why) h = λ p q. absurd (false≢true p)
moved_within e now leg (note.Voice f d u v) h = revoiced_within e now leg h leg.talks (u && v)
moved_within e now leg _ h = h

pub step_within : (e : End) (c : ℕ) (leg : Leg) (x : Entry) → IsWithin e x.tick leg → IsWithin e x.tick (leg_behind e c leg x)
step_within e c leg x h = at (is_own e c x.note)
  where
    at : (b : Bool) → IsWithin e x.tick (if b then leg_step leg x else leg)
    at true = moved_within e x.tick leg x.note h
    at false = h

-- Bounded, of one leg.
abbrev BoundedFrom : End → ℕ → Leg → List Entry → Type 0
BoundedFrom e c leg t = AtEach (λ leg x next. IsBounded e c leg x) e c leg t

bounded_front : (e : End) (c : ℕ) (leg : Leg) → (xs ys : List Entry) → BoundedFrom e c leg (xs ++ ys) → BoundedFrom e c leg xs
bounded_front e c leg [] ys h = tt
bounded_front e c leg (x ∷ xs) ys h = (h.0, bounded_front e c (leg_behind e c leg x) xs ys h.1)

bounded_at : (e : End) (c : ℕ) (leg : Leg) → (xs ys : List Entry) (x : Entry) → BoundedFrom e c leg (xs ++ (x ∷ ys)) →
    IsBounded e c (through (own leg_step e c) leg xs) x
bounded_at e c leg [] ys x h = h.0
bounded_at e c leg (y ∷ xs) ys x h = bounded_at e c (leg_behind e c leg y) xs ys x h.1

bounded_more : (e : End) (c : ℕ) (leg : Leg) → (xs : List Entry) (x : Entry) → BoundedFrom e c leg xs →
    IsBounded e c (through (own leg_step e c) leg xs) x → BoundedFrom e c leg (xs ++ x ∷ [])
bounded_more e c leg [] x h last = (last, tt)
bounded_more e c leg (y ∷ xs) x h last = (h.0, bounded_more e c (leg_behind e c leg y) xs x h.1 last)

pub bounded_one : (t : List Entry) (x : Entry) (now : ℕ) → Bounded (t ++ x ∷ []) now ↔
    Bounded t x.tick
    × ((e : End) (c : ℕ) → TurnsMuted e c (leg_at e c t) x → (leg_at e c t).since + least_opening ≤ x.tick)
    × ((e : End) (c : ℕ) → IsWithin e now (leg_at e c (t ++ x ∷ [])))
bounded_one t x now = (
  λ h. (
    λ e c. record {
      each = bounded_front e c first_leg t (x ∷ []) (h e c).each;
      last = (bounded_at e c first_leg t [] x (h e c).each).within;
    },
    λ e c. (bounded_at e c first_leg t [] x (h e c).each).late,
    λ e c. (h e c).last,
  ),
  λ h. λ e c. record {
    each = bounded_more e c first_leg t x (h.0 e c).each (record { within = (h.0 e c).last; late = h.1 e c });
    last = h.2 e c;
  },
)

-- Fronts.

pub nothing_safe : (now : ℕ) → Safe [] now
nothing_safe now =
    record { agreed = tt; opened = λ e c. tt; bounded = λ e c. record { each = tt; last = λ p q. absurd (false≢true p) } }

bounded_up_to : (e : End) (c : ℕ) (xs ys : List Entry) (x : Entry) → BoundedFrom e c first_leg (xs ++ (x ∷ ys)) →
    IsBoundedLeg e c (xs ++ x ∷ []) x.tick
bounded_up_to e c xs ys x h =
    let cut : BoundedFrom e c first_leg ((xs ++ x ∷ []) ++ ys) =
    subst (λ (z : List Entry). BoundedFrom e c first_leg z) (sym (append_assoc xs (x ∷ []) ys)) h in
    record {
      each = bounded_front e c first_leg (xs ++ x ∷ []) ys cut;
      last =
          subst (λ (z : Leg). IsWithin e x.tick z) (sym (leg_one e c xs x))
          (step_within e c (leg_at e c xs) x (bounded_at e c first_leg xs ys x h).within);
    }

pub safe_front : (xs ys : List Entry) (x : Entry) (now : ℕ) → Safe (xs ++ (x ∷ ys)) now → Safe (xs ++ x ∷ []) x.tick
safe_front xs ys x now h =
    let cut : xs ++ (x ∷ ys) ≡ (xs ++ x ∷ []) ++ ys = sym (append_assoc xs (x ∷ []) ys) in
    record {
      agreed = agreed_front [] (xs ++ x ∷ []) ys (subst Agreed cut h.agreed);
      opened =
          λ e c. opened_front e c first_leg (xs ++ x ∷ []) ys
          (subst (λ (z : List Entry). MustFrom e c first_leg z) cut (h.opened e c));
      bounded = λ e c. bounded_up_to e c xs ys x (h.bounded e c).each;
    }
