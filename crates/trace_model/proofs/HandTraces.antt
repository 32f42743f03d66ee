-- Traces by hand that are safe and that aren't: each rule broken alone, at its bound and one tick behind it. The definitions
-- say of each what the rules in words say.
use Rattle.std.specs.Prelude.{◌≡◌, ◌≤◌, ◌+◌, ◌⊎◌, ℕ, true, false, List, [], ◌∷◌, ◌++◌, get_or}
use Rattle.std.specs.List.{AllByRecursion}
use Rattle.std.proofs.Common.{refl, sym, ap, subst, ◌∙◌, inl, inr, arith}
use Rattle.std.proofs.lemmas.Bool.{false≢true, true≢false}
use Rattle.link_frames.specs.declared.frame.End.{End}
use Rattle.link_frames.specs.declared.frame.End.TheVariants as «end»
use Rattle.link_frames.specs.declared.frame.Frame.TheVariants as frame
use Rattle.link_frames.specs.declared.note.Note.{Note}
use Rattle.link_frames.specs.declared.note.Note.TheVariants as note
use Rattle.link_frames.specs.declared.note.Timer.TheVariants as timer
use Rattle.link_frames.specs.declared.note.Why.TheVariants as why
use Rattle.link_frames.specs.Legs.{through, owner}
use Rattle.link_frames.specs.Owes.{IsOf}
use Rattle.trace_model.specs.declared.entry.Entry.{Entry}
use Rattle.trace_model.specs.Safety.{is_leg, is_own, own, Leg, first_leg, leg_step, leg_behind, leg_at, AtEach, IsShown, Agreed, ends_wait, MustOpen, OpensNext, Opened, OwesOpening, Finished, IsBounded, IsBoundedLeg, Bounded, Safe}
use Rattle.trace_model.proofs.Folds.{each_leg, not_of}

abbrev at : ℕ → Note → Entry
at now n = record { tick = now; note = n }

-- Of a trace of call 1 at one end the rules have to be judged for that leg alone.

abbrev IsOfLeg : End → List Entry → Type 0
IsOfLeg e t = AllByRecursion (λ x. IsOf e 1 x.note) t

abbrev MustFrom : End → ℕ → Leg → List Entry → Type 0
MustFrom e c leg t = AtEach (λ leg x next. MustOpen e c leg x → OpensNext e c next) e c leg t

abbrev BoundedFrom : End → ℕ → Leg → List Entry → Type 0
BoundedFrom e c leg t = AtEach (λ leg x next. IsBounded e c leg x) e c leg t

off : (e f : End) (d : ℕ) → is_leg f d e 1 ≡ false → (x : Entry) → IsOf e 1 x.note → is_own f d x.note ≡ false
off e f d apart x a = not_of e f 1 d apart (owner x.note) a

stays_down : (e f : End) (d : ℕ) → is_leg f d e 1 ≡ false → (x : Entry) → IsOf e 1 x.note →
    leg_behind f d first_leg x ≡ first_leg
stays_down e f d apart x a = rw (off e f d apart x a) refl

opened_others : (e f : End) (d : ℕ) → is_leg f d e 1 ≡ false → (t : List Entry) → IsOfLeg e t → MustFrom f d first_leg t
opened_others e f d apart [] a = tt
opened_others e f d apart (x ∷ t) a = (
  λ m. absurd (false≢true (sym (off e f d apart x a.0) ∙ m.own)),
  subst (λ (z : Leg). MustFrom f d z t) (sym (stays_down e f d apart x a.0)) (opened_others e f d apart t a.1),
)

finished_others : (e f : End) (d : ℕ) → is_leg f d e 1 ≡ false → (t : List Entry) → IsOfLeg e t →
    OwesOpening f d first_leg t → ⊥
finished_others e f d apart [] a owes = owes
finished_others e f d apart (x ∷ []) a owes = false≢true (sym (off e f d apart x a.0) ∙ owes.own)
finished_others e f d apart (x ∷ y ∷ t) a owes =
    finished_others e f d apart (y ∷ t) a.1
    (subst (λ (z : Leg). OwesOpening f d z (y ∷ t)) (stays_down e f d apart x a.0) owes)

down_through : (e f : End) (d : ℕ) → is_leg f d e 1 ≡ false → (t : List Entry) → IsOfLeg e t → leg_at f d t ≡ first_leg
down_through e f d apart [] a = refl
down_through e f d apart (x ∷ t) a =
    ap (λ z. through (own leg_step f d) z t) (stays_down e f d apart x a.0) ∙ down_through e f d apart t a.1

each_bounded_others : (e f : End) (d : ℕ) → is_leg f d e 1 ≡ false → (t : List Entry) → IsOfLeg e t →
    BoundedFrom f d first_leg t
each_bounded_others e f d apart [] a = tt
each_bounded_others e f d apart (x ∷ t) a = (
  record {
    within = λ up. absurd (false≢true up);
    late = λ m. absurd (false≢true (sym (off e f d apart x a.0) ∙ m.own));
  },
  subst (λ (z : Leg). BoundedFrom f d z t) (sym (stays_down e f d apart x a.0)) (each_bounded_others e f d apart t a.1),
)

opened_by : (e : End) (t : List Entry) → IsOfLeg e t → MustFrom e 1 first_leg t → Opened t
opened_by e t a h = each_leg (λ f d. MustFrom f d first_leg t) e 1 h (λ f d apart. opened_others e f d apart t a)

finished_by : (e : End) (t : List Entry) → IsOfLeg e t → (OwesOpening e 1 first_leg t → ⊥) → Finished t
finished_by e t a h =
    each_leg (λ f d. OwesOpening f d first_leg t → ⊥) e 1 h (λ f d apart. finished_others e f d apart t a)

bounded_by : (e : End) (t : List Entry) (now : ℕ) → IsOfLeg e t → IsBoundedLeg e 1 t now → Bounded t now
bounded_by e t now a h =
    each_leg (λ f d. IsBoundedLeg f d t now) e 1 h
    (λ f d apart.
    record {
      each = each_bounded_others e f d apart t a;
      last = λ up. absurd (false≢true (sym (ap (λ z. z.up) (down_through e f d apart t a)) ∙ up));
    })

-- A voice that is muted for long: up to its limit, and one tick longer.

abbrev muted_up : End → List Entry
muted_up e = at 0 (note.Up e 1) ∷ at 0 (note.Voice e 1 false false) ∷ []

-- all rules but the bound hold, however long it is
muted_agreed : (e : End) → Agreed (muted_up e)
muted_agreed e = (tt, (tt, tt))

muted_opened : (e : End) → Opened (muted_up e)
muted_opened e =
    opened_by e (muted_up e) ((refl, refl), ((refl, refl), tt))
    (λ m. absurd (false≢true m.ends), (λ m. absurd (false≢true m.ends), tt))

vehicle_320 : Safe (muted_up «end».Vehicle) 320
vehicle_320 =
    record {
      agreed = muted_agreed «end».Vehicle;
      opened = muted_opened «end».Vehicle;
      bounded =
          bounded_by «end».Vehicle (muted_up «end».Vehicle) 320 ((refl, refl), ((refl, refl), tt))
          (record {
            each = (
              record { within = λ up. absurd (false≢true up); late = λ m. absurd (false≢true m.mutes) },
              (record { within = λ up muted. omega arith; late = λ m. absurd (false≢true m.talks) }, tt),
            );
            last = λ up muted. omega arith;
          });
    }

vehicle_321 : Bounded (muted_up «end».Vehicle) 321 → ⊥
vehicle_321 h = let late : 321 ≤ 0 + 320 = (h «end».Vehicle 1).last refl refl in omega arith

point_275 : Safe (muted_up «end».Point) 275
point_275 =
    record {
      agreed = muted_agreed «end».Point;
      opened = muted_opened «end».Point;
      bounded =
          bounded_by «end».Point (muted_up «end».Point) 275 ((refl, refl), ((refl, refl), tt))
          (record {
            each = (
              record { within = λ up. absurd (false≢true up); late = λ m. absurd (false≢true m.mutes) },
              (record { within = λ up muted. omega arith; late = λ m. absurd (false≢true m.talks) }, tt),
            );
            last = λ up muted. omega arith;
          });
    }

point_276 : Bounded (muted_up «end».Point) 276 → ⊥
point_276 h = let late : 276 ≤ 0 + 275 = (h «end».Point 1).last refl refl in omega arith

-- also where an entry comes too late, whatever it does: at 321 the voice opens
opened_321 : (now : ℕ) → Bounded (muted_up «end».Vehicle ++ at 321 (note.Voice «end».Vehicle 1 true true) ∷ []) now → ⊥
opened_321 now h = let late : 321 ≤ 0 + 320 = (h «end».Vehicle 1).each.1.1.0.within refl refl in omega arith

-- A leg that is up with no word on its voice is muted; one that is up and comes up again goes on; one direction is no
-- voice; and a leg that comes up anew is muted, whatever its voice was.

silent_leg : leg_at «end».Point 1 (at 4 (note.Up «end».Point 1) ∷ []) ≡ record { up = true; talks = false; since = 4 }
silent_leg = refl

up_again : leg_at «end».Point 1 (at 4 (note.Up «end».Point 1) ∷ at 9 (note.Up «end».Point 1) ∷ [])
    ≡ record { up = true; talks = false; since = 4 }
up_again = refl

one_way : leg_at «end».Point 1 (at 4 (note.Up «end».Point 1) ∷ at 9 (note.Voice «end».Point 1 true false) ∷ [])
    ≡ record { up = true; talks = false; since = 4 }
one_way = refl

anew : leg_at «end».Point 1 (at 4 (note.Up «end».Point 1) ∷ at 9 (note.Voice «end».Point 1 true true) ∷ at 10 (note.Down «end».Point 1 why.Lost) ∷ at 12 (note.Up «end».Point 1) ∷ [])
    ≡ record { up = true; talks = false; since = 12 }
anew = refl

other_leg : leg_at «end».Point 2 (at 4 (note.Up «end».Point 1) ∷ at 5 (note.Up «end».Vehicle 2) ∷ [])
    ≡ record { up = false; talks = false; since = 0 }
other_leg = refl

-- A voice that is muted soon: 20 ticks behind its opening, and 19.

abbrev turned : End → ℕ → List Entry
turned e n = at 0 (note.Up e 1) ∷ at 0 (note.Voice e 1 true true) ∷ at n (note.Voice e 1 false false) ∷ []

turned_agreed : (e : End) (n : ℕ) → Agreed (turned e n)
turned_agreed e n = (tt, (tt, (tt, tt)))

turned_opened : (e : End) (n : ℕ) → Opened (turned e n)
turned_opened e n =
    opened_by e (turned e n) ((refl, refl), ((refl, refl), ((refl, refl), tt)))
    (λ m. absurd (false≢true m.ends), (λ m. absurd (false≢true m.ends), (λ m. absurd (false≢true m.ends), tt)))

vehicle_turned_20 : Safe (turned «end».Vehicle 20) 20
vehicle_turned_20 =
    record {
      agreed = turned_agreed «end».Vehicle 20;
      opened = turned_opened «end».Vehicle 20;
      bounded =
          bounded_by «end».Vehicle (turned «end».Vehicle 20) 20 ((refl, refl), ((refl, refl), ((refl, refl), tt)))
          (record {
            each = (
              record { within = λ up. absurd (false≢true up); late = λ m. absurd (false≢true m.mutes) },
              (
                record { within = λ up muted. omega arith; late = λ m. absurd (false≢true m.mutes) },
                (record { within = λ up muted. absurd (true≢false muted); late = λ m. omega arith }, tt),
              ),
            );
            last = λ up muted. omega arith;
          });
    }

point_turned_20 : Safe (turned «end».Point 20) 20
point_turned_20 =
    record {
      agreed = turned_agreed «end».Point 20;
      opened = turned_opened «end».Point 20;
      bounded =
          bounded_by «end».Point (turned «end».Point 20) 20 ((refl, refl), ((refl, refl), ((refl, refl), tt)))
          (record {
            each = (
              record { within = λ up. absurd (false≢true up); late = λ m. absurd (false≢true m.mutes) },
              (
                record { within = λ up muted. omega arith; late = λ m. absurd (false≢true m.mutes) },
                (record { within = λ up muted. absurd (true≢false muted); late = λ m. omega arith }, tt),
              ),
            );
            last = λ up muted. omega arith;
          });
    }

vehicle_turned_19 : (now : ℕ) → Bounded (turned «end».Vehicle 19) now → ⊥
vehicle_turned_19 now h =
    let late : 0 + 20 ≤ 19 = (h «end».Vehicle 1).each.1.1.0.late (record { own = refl; mutes = refl; up = refl; talks = refl }) in
    omega arith

point_turned_19 : (now : ℕ) → Bounded (turned «end».Point 19) now → ⊥
point_turned_19 now h =
    let late : 0 + 20 ≤ 19 = (h «end».Point 1).each.1.1.0.late (record { own = refl; mutes = refl; up = refl; talks = refl }) in
    omega arith

-- A wait for data that ends, or a fault that comes, while the voice is muted, with what comes next.

abbrev waited : End → Note → List Entry → List Entry
waited e ended next = at 0 (note.Up e 1) ∷ at 0 (note.Voice e 1 false false) ∷ at 50 ended ∷ next

abbrev opens : End → List Entry
opens e = at 50 (note.Voice e 1 true true) ∷ []

-- with the opening behind it, the trace is safe and finished
vehicle_opens : Opened (waited «end».Vehicle (note.Ended «end».Vehicle 1 timer.T7) (opens «end».Vehicle))
vehicle_opens =
    opened_by «end».Vehicle (waited «end».Vehicle (note.Ended «end».Vehicle 1 timer.T7) (opens «end».Vehicle))
    ((refl, refl), ((refl, refl), ((refl, refl), ((refl, refl), tt))))
    (λ m. absurd (false≢true m.ends), (λ m. absurd (false≢true m.ends), (λ m. refl, (λ m. tt, tt))))

vehicle_finished : Finished (waited «end».Vehicle (note.Ended «end».Vehicle 1 timer.T7) (opens «end».Vehicle))
vehicle_finished =
    finished_by «end».Vehicle (waited «end».Vehicle (note.Ended «end».Vehicle 1 timer.T7) (opens «end».Vehicle))
    ((refl, refl), ((refl, refl), ((refl, refl), ((refl, refl), tt)))) (λ m. false≢true m.ends)

point_opens : Opened (waited «end».Point (note.Ended «end».Point 1 timer.T8) (opens «end».Point))
point_opens =
    opened_by «end».Point (waited «end».Point (note.Ended «end».Point 1 timer.T8) (opens «end».Point))
    ((refl, refl), ((refl, refl), ((refl, refl), ((refl, refl), tt))))
    (λ m. absurd (false≢true m.ends), (λ m. absurd (false≢true m.ends), (λ m. refl, (λ m. tt, tt))))

point_finished : Finished (waited «end».Point (note.Ended «end».Point 1 timer.T8) (opens «end».Point))
point_finished =
    finished_by «end».Point (waited «end».Point (note.Ended «end».Point 1 timer.T8) (opens «end».Point))
    ((refl, refl), ((refl, refl), ((refl, refl), ((refl, refl), tt)))) (λ m. false≢true m.ends)

-- whatever else comes next breaks the rule: the leg goes down instead, one direction alone opens, another leg's voice
-- opens, or a frame is sent
abbrev NoOpening : End → Note → Note → Type 0
NoOpening e ended next = Opened (waited e ended (at 50 next ∷ [])) → ⊥

due_at : (e : End) (ended next : Note) → is_own e 1 ended ≡ true → ends_wait ended ≡ true → is_own e 1 (note.Up e 1) ≡ true →
    (next ≡ note.Voice e 1 true true → ⊥) → MustFrom e 1 (record { up = true; talks = false; since = 0 }) (at 50 ended ∷ at 50 next ∷ []) → ⊥
due_at e ended next own ends up wrong h = wrong (h.0 (record { own = own; ends = ends; up = refl; muted = refl }))

vehicle_down : NoOpening «end».Vehicle (note.Ended «end».Vehicle 1 timer.T7) (note.Down «end».Vehicle 1 why.Lost)
vehicle_down h = due_at «end».Vehicle _ _ refl refl refl (λ e. cc) (h «end».Vehicle 1).1.1

vehicle_one_way : NoOpening «end».Vehicle (note.Ended «end».Vehicle 1 timer.Sum) (note.Voice «end».Vehicle 1 true false)
vehicle_one_way h = due_at «end».Vehicle _ _ refl refl refl (λ e. cc) (h «end».Vehicle 1).1.1

vehicle_other : NoOpening «end».Vehicle (note.Ended «end».Vehicle 1 timer.T5) (note.Voice «end».Vehicle 2 true true)
vehicle_other h = due_at «end».Vehicle _ _ refl refl refl (λ e. cc) (h «end».Vehicle 1).1.1

vehicle_fault_down : NoOpening «end».Vehicle (note.Fault «end».Vehicle 1) (note.Down «end».Vehicle 1 why.Lost)
vehicle_fault_down h = due_at «end».Vehicle _ _ refl refl refl (λ e. cc) (h «end».Vehicle 1).1.1

point_down : NoOpening «end».Point (note.Ended «end».Point 1 timer.T4) (note.Down «end».Point 1 why.Hangup)
point_down h = due_at «end».Point _ _ refl refl refl (λ e. cc) (h «end».Point 1).1.1

point_one_way : NoOpening «end».Point (note.Ended «end».Point 1 timer.T8) (note.Voice «end».Point 1 false true)
point_one_way h = due_at «end».Point _ _ refl refl refl (λ e. cc) (h «end».Point 1).1.1

point_other : NoOpening «end».Point (note.Fault «end».Point 1) (note.Voice «end».Vehicle 1 true true)
point_other h = due_at «end».Point _ _ refl refl refl (λ e. cc) (h «end».Point 1).1.1

point_sends : NoOpening «end».Point (note.Ended «end».Point 1 timer.T8) (note.Send «end».Point 1 (frame.Start 1))
point_sends h = due_at «end».Point _ _ refl refl refl (λ e. cc) (h «end».Point 1).1.1

-- a fault at the end of the trace: the rule has nothing to judge yet, and the trace isn't finished
vehicle_fault_last : Opened (waited «end».Vehicle (note.Fault «end».Vehicle 1) [])
vehicle_fault_last =
    opened_by «end».Vehicle (waited «end».Vehicle (note.Fault «end».Vehicle 1) [])
    ((refl, refl), ((refl, refl), ((refl, refl), tt)))
    (λ m. absurd (false≢true m.ends), (λ m. absurd (false≢true m.ends), (λ m. tt, tt)))

vehicle_fault_unfinished : Finished (waited «end».Vehicle (note.Fault «end».Vehicle 1) []) → ⊥
vehicle_fault_unfinished h = h «end».Vehicle 1 (record { own = refl; ends = refl; up = refl; muted = refl })

point_fault_last : Opened (waited «end».Point (note.Fault «end».Point 1) [])
point_fault_last =
    opened_by «end».Point (waited «end».Point (note.Fault «end».Point 1) [])
    ((refl, refl), ((refl, refl), ((refl, refl), tt)))
    (λ m. absurd (false≢true m.ends), (λ m. absurd (false≢true m.ends), (λ m. tt, tt)))

point_fault_unfinished : Finished (waited «end».Point (note.Fault «end».Point 1) []) → ⊥
point_fault_unfinished h = h «end».Point 1 (record { own = refl; ends = refl; up = refl; muted = refl })

-- T3 only leads on, and a fault while the voice is open changes nothing: neither has to be followed
vehicle_t3 : Finished (waited «end».Vehicle (note.Ended «end».Vehicle 1 timer.T3) [])
vehicle_t3 =
    finished_by «end».Vehicle (waited «end».Vehicle (note.Ended «end».Vehicle 1 timer.T3) [])
    ((refl, refl), ((refl, refl), ((refl, refl), tt))) (λ m. false≢true m.ends)

point_open_fault : Finished (at 0 (note.Up «end».Point 1) ∷ at 0 (note.Voice «end».Point 1 true true) ∷ at 3 (note.Fault «end».Point 1) ∷ [])
point_open_fault =
    finished_by «end».Point (at 0 (note.Up «end».Point 1) ∷ at 0 (note.Voice «end».Point 1 true true) ∷ at 3 (note.Fault «end».Point 1) ∷ [])
    ((refl, refl), ((refl, refl), ((refl, refl), tt))) (λ m. true≢false m.muted)

-- A set that is acknowledged was shown before, in that call, for that request, with these octets.

abbrev shown_then_acked : ℕ → ℕ → List ℕ → List Entry
shown_then_acked c r o = at 9 (note.Shown 1 1 (7 ∷ [])) ∷ at 12 (note.Acked c r o) ∷ []

was_shown_first : Agreed (shown_then_acked 1 1 (7 ∷ []))
was_shown_first = (tt, (inl (refl, refl, refl), tt))

other_call : Agreed (shown_then_acked 2 1 (7 ∷ [])) → ⊥
other_call h = not_shown h.1.0
  where
    not_shown : IsShown 2 1 (7 ∷ []) (note.Shown 1 1 (7 ∷ [])) ⊎ ⊥ → ⊥
    not_shown (inl k) = omega (arith, k.0)
    not_shown (inr k) = k

other_request : Agreed (shown_then_acked 1 2 (7 ∷ [])) → ⊥
other_request h = not_shown h.1.0
  where
    not_shown : IsShown 1 2 (7 ∷ []) (note.Shown 1 1 (7 ∷ [])) ⊎ ⊥ → ⊥
    not_shown (inl k) = omega (arith, k.1)
    not_shown (inr k) = k

other_octets : Agreed (shown_then_acked 1 1 (8 ∷ [])) → ⊥
other_octets h = not_shown h.1.0
  where
    not_shown : IsShown 1 1 (8 ∷ []) (note.Shown 1 1 (7 ∷ [])) ⊎ ⊥ → ⊥
    not_shown (inl k) = let same : ◌≡◌ {A = ℕ} 7 8 = ap (λ z. get_or z 0 0) k.2 in omega arith
    not_shown (inr k) = k

shown_behind : Agreed (at 9 (note.Acked 1 1 (7 ∷ [])) ∷ at 12 (note.Shown 1 1 (7 ∷ [])) ∷ []) → ⊥
shown_behind h = h.0
