-- A row of a leg that isn't just coming up, told: what the entries say of the leg is where the end is.
use Rattle.std.specs.Prelude.{◌≡◌, ◌≤◌, ℕ, ◌+◌, Bool, true, false, List, [], ◌∷◌, Option, Some, None, ◌&&◌}
use Rattle.std.proofs.Common.{refl, sym, ap, subst, ◌∙◌, arith, add-zero}
use Rattle.std.proofs.lemmas.Bool.{false≢true, true≢false, not-true}
use Rattle.link_frames.specs.declared.frame.End.{End}
use Rattle.link_frames.specs.declared.note.Note.{Note}
use Rattle.link_frames.specs.declared.note.Note.TheVariants as note
use Rattle.link_frames.specs.Legs.{Kept, through, sets_moved, least_opening}
use Rattle.link_frames.specs.Owes.{Seat, revoiced as reseated, seat_moved, IsOf, OpensThen, Safely, Along}
use Rattle.trace_model.specs.declared.entry.Entry.{Entry}
use Rattle.trace_model.specs.History.{told, sets_step}
use Rattle.trace_model.specs.Safety.{own, Leg, revoiced, leg_moved, leg_step, ends_wait, mutes, IsWithin}
use Rattle.trace_model.proofs.Folds.{own_leg, own_sets}
use Rattle.trace_model.proofs.Fronts.{moved_within}
use Rattle.trace_fit.specs.inner.FitAt.{SeatedBy, SeatBy, OpensSoon, SafeAt, SafeFrom}

revoice : (K : ℕ → Type 0) (now : ℕ) (k : Seat) (leg : Leg) (sets : List Kept) → K now → SeatedBy K k leg sets →
    (a b will : Bool) → leg.talks ≡ a → k.talks ≡ b → SeatedBy K (reseated k b will) (revoiced leg now a will) sets
revoice K now k leg sets start h true true true p q = h
revoice K now k leg sets start h false false false p q = h
revoice K now k leg sets start h true true false p q =
    record { up = h.up; talks = refl; time = rw add-zero start; sets = h.sets }
revoice K now k leg sets start h false false true p q =
    record { up = h.up; talks = refl; time = rw add-zero start; sets = h.sets }
revoice K now k leg sets start h true false will p q = absurd (true≢false (sym p ∙ h.talks ∙ q))
revoice K now k leg sets start h false true will p q = absurd (false≢true (sym p ∙ h.talks ∙ q))

seat_kept : (K : ℕ → Type 0) (e : End) (c now : ℕ) → K now → (s : Option Seat) (n : Note) (ns : List Note) (leg : Leg)
    (sets : List Kept) → SeatBy K s leg sets → Safely e c s n ns →
    SeatBy K (seat_moved e s n) (leg_moved leg now n) (sets_moved e sets n)
seat_kept K e c now start None (note.Up f d) ns leg sets h safe = absurd safe
seat_kept K e c now start None (note.Down f d why) ns leg sets h safe = refl
seat_kept K e c now start None (note.Voice f d u v) ns leg sets h safe = absurd safe
seat_kept K e c now start None _ ns leg sets h safe = h
seat_kept K e c now start (Some k) (note.Up f d) ns leg sets h safe = absurd safe
seat_kept K e c now start (Some k) (note.Down f d why) ns leg sets h safe = refl
seat_kept K e c now start (Some k) (note.Voice f d u v) ns leg sets h safe =
    revoice K now k leg sets start h leg.talks k.talks (u && v) refl refl
seat_kept K e c now start (Some k) n ns leg sets h safe =
    record { up = h.up; talks = h.talks; time = h.time; sets = ap (λ z. sets_moved e z n) h.sets }

opens_told : (e : End) (c now : ℕ) → (ns : List Note) → OpensThen e c ns → OpensSoon e c (told now ns)
opens_told e c now [] h = absurd h
opens_told e c now (n ∷ ns) h = h

opened : (K : ℕ → Type 0) (e : End) (c now : ℕ) (s : Option Seat) (n : Note) (ns : List Note) (leg : Leg)
    (sets : List Kept) → SeatBy K s leg sets → Safely e c s n ns → ends_wait n ≡ true → leg.up ≡ true →
    leg.talks ≡ false → OpensSoon e c (told now ns)
opened K e c now None n ns leg sets h safe w up talks = absurd (false≢true (sym h ∙ up))
opened K e c now (Some k) (note.Ended f d t) ns leg sets h safe w up talks =
    opens_told e c now ns (safe w (sym h.talks ∙ talks))
opened K e c now (Some k) (note.Fault f d) ns leg sets h safe w up talks =
    opens_told e c now ns (safe (sym h.talks ∙ talks))
opened K e c now (Some k) _ ns leg sets h safe w up talks = absurd (false≢true w)

late : (K : ℕ → Type 0) (e : End) (c now : ℕ) → ((n : ℕ) → K n → n ≤ now) → (s : Option Seat) (n : Note)
    (ns : List Note) (leg : Leg) (sets : List Kept) → SeatBy K s leg sets → Safely e c s n ns → mutes n ≡ true →
    leg.talks ≡ true → leg.since + least_opening ≤ now
late K e c now past None (note.Voice f d u v) ns leg sets h safe m talks = absurd safe
late K e c now past (Some k) (note.Voice f d u v) ns leg sets h safe m talks =
    let a : least_opening ≤ k.ticks = safe (not-true (u && v) m) (sym h.talks ∙ talks) in
    let b : leg.since + k.ticks ≤ now = past (leg.since + k.ticks) h.time in
    omega arith
late K e c now past s _ ns leg sets h safe m talks = absurd (false≢true m)

-- The row of a leg that isn't just coming up, told.
pub leg_row : (K : ℕ → Type 0) (e : End) (c now : ℕ) → K now → ((n : ℕ) → K n → n ≤ now) → (s : Option Seat)
    (ns : List Note) (leg : Leg) (sets : List Kept) → SeatBy K s leg sets → IsWithin e now leg →
    Along (λ s n ns. IsOf e c n × Safely e c s n ns) e s ns →
    SeatBy K (through (seat_moved e) s ns) (through (own leg_step e c) leg (told now ns))
    (through (own (sets_step e) e c) sets (told now ns)) × SafeFrom e c leg (told now ns)
leg_row K e c now start past s [] leg sets h within a = (h, tt)
leg_row K e c now start past s (n ∷ ns) leg sets h within a =
    let x : Entry = record { tick = now; note = n } in
    subst (λ (z : Leg). SeatBy K (through (seat_moved e) s (n ∷ ns)) (through (own leg_step e c) z (told now ns)) (through (own (sets_step e) e c) sets (told now (n ∷ ns))) × (SafeAt e c leg x (told now ns) × SafeFrom e c z (told now ns))) (sym (own_leg e c now leg n a.0.0))
    (subst (λ (z : List Kept). SeatBy K (through (seat_moved e) s (n ∷ ns)) (through (own leg_step e c) (leg_moved leg now n) (told now ns)) (through (own (sets_step e) e c) z (told now ns)) × (SafeAt e c leg x (told now ns) × SafeFrom e c (leg_moved leg now n) (told now ns))) (sym (own_sets e c now sets n a.0.0))
    (let rest = leg_row K e c now start past (seat_moved e s n) ns (leg_moved leg now n) (sets_moved e sets n) (seat_kept K e c now start s n ns leg sets h a.0.1) (moved_within e now leg n within) a.1 in (
      rest.0,
      (
        record {
          opened = λ d. opened K e c now s n ns leg sets h a.0.1 d.ends d.up d.muted;
          bounded =
              record {
                within = within;
                late = λ d. late K e c now past s n ns leg sets h a.0.1 d.mutes d.talks;
              };
        },
        rest.1,
      ),
    )))
