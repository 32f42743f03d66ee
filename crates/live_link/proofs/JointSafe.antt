-- Two runs that owe what they must, and fit each other, have a joint trace that is safe.
use Rattle.std.specs.Prelude.{◌≡◌, ◌≤◌, ◌<◌, ◌+◌, ℕ, zero, suc, true, false, Bool, List, [], ◌∷◌, ◌++◌, Option, Some, None, IfSome, ◌==◌, if◌then◌else◌}
use Rattle.std.specs.List.{AllByRecursion}
use Rattle.std.proofs.Common.{refl, sym, ap, subst, ◌∙◌, inl, inr, arith, append_assoc}
use Rattle.link_frames.specs.declared.frame.End.{End}
use Rattle.link_frames.specs.declared.frame.End.TheVariants as «end»
use Rattle.link_frames.specs.Owes.{Seat, InTime}
use Rattle.trace_model.specs.declared.entry.Entry.{Entry}
use Rattle.trace_model.specs.History.{told, sets_of}
use Rattle.trace_model.specs.Safety.{Leg, first_leg, leg_behind, leg_at, AtEach, MustOpen, OpensNext, IsBounded, Safe}
use Rattle.trace_fit.specs.Order.{Rises}
use Rattle.trace_fit.specs.inner.FitAt.{SeatBy, OpensSoon, SafeFrom}
use Rattle.trace_fit.proofs.RowKept.{within_of}
use Rattle.live_link.specs.Turns.{Carried, Turn, entries_of}
use Rattle.live_link.specs.Joint.{at_tick, joint, SentBefore, CameFrom, Fits}
use Rattle.live_link.proofs.Owed.{Place, first_place, OwedFrom, Events, Later}
use Rattle.live_link.proofs.Moved.{Places, place, with_end, seats, clocks, again, here_is}
use Rattle.live_link.proofs.Sent.{other, HasSent, sent_front, sent_joint}
use Rattle.live_link.proofs.TurnKept.{Joined, passes_kept}
use Rattle.live_link.proofs.Ticks.{Split, split, at_append, told_now, told_apart, event_now, events_clock, split_now, split_later, Stands, events_kept}

-- A leg that is safe, as the rules have it.

opened_from : (e : End) (c : ℕ) (leg : Leg) → (t : List Entry) → SafeFrom e c leg t →
    AtEach (λ leg x next. MustOpen e c leg x → OpensNext e c next) e c leg t
opened_from e c leg [] h = tt
opened_from e c leg (x ∷ t) h = (λ d. weaker t (h.0.opened d), opened_from e c (leg_behind e c leg x) t h.1)
  where
    weaker : (t : List Entry) → OpensSoon e c t → OpensNext e c t
    weaker [] k = tt
    weaker (y ∷ t) k = k

bounded_from : (e : End) (c : ℕ) (leg : Leg) → (t : List Entry) → SafeFrom e c leg t →
    AtEach (λ leg x next. IsBounded e c leg x) e c leg t
bounded_from e c leg [] h = tt
bounded_from e c leg (x ∷ t) h = (h.0.bounded, bounded_from e c (leg_behind e c leg x) t h.1)

pub joined_safe : (now : ℕ) (ps : Places) (t : List Entry) → Joined now ps t → Safe t now
joined_safe now ps t j =
    record {
      agreed = j.fit.agreed;
      opened = λ e c. opened_from e c first_leg t (j.fit.safe e c);
      bounded =
          λ e c.
          record {
            each = bounded_from e c first_leg t (j.fit.safe e c);
            last =
                within_of e now (clocks ps e c) (leg_at e c t) (sets_of e c t) (seats ps e c) (j.fit.seats e c)
                (j.fit.in_time e c) (j.fit.near e c);
          };
    }

-- The next tick.

rises_later : (a b c : ℕ) → b ≤ c → (xs : List Entry) → Rises a xs b → Rises a xs c
rises_later a b c h [] k = omega (arith, h, k)
rises_later a b c h (x ∷ xs) k = (k.0, rises_later x.tick b c h xs k.1)

next_tick : (n : ℕ) (ps : Places) (t : List Entry) → ((e : End) → (place ps e).clock ≡ n) → Joined n ps t →
    Joined (suc n) ps t
next_tick n ps t passed j =
    record {
      last = j.last;
      fit =
          record {
            seats = j.fit.seats;
            in_time = j.fit.in_time;
            near = λ e c. (let k : (place ps e).clock ≡ n = passed e in omega arith);
            links = j.fit.links;
            drawn = j.fit.drawn;
            rises = rises_later 0 n (suc n) (omega arith) t j.fit.rises;
            agreed = j.fit.agreed;
            ordered = j.fit.ordered;
            safe = j.fit.safe;
          };
      below = j.below;
      low = j.low;
      drawn = j.drawn;
    }

-- One end at one tick.

-- What the turns of a tick leave: the place, the turns behind them, and the joint trace with their entries.
record TickDone (e : End) (n now : ℕ) (ps : Places) (t others : List Entry) (ts : List Turn) : Type 0 where
  at : Place
  later : List Turn
  rest : Later e n at later
  clock : at.clock ≡ now
  same : (m : ℕ) → now < m → at_tick m (entries_of ts) ≡ at_tick m (entries_of later)
  came : AllByRecursion (CameFrom (other e) others) later
  joined : Joined now (with_end e at ps) (t ++ at_tick now (entries_of ts))

stand_all : (e : End) (now : ℕ) (t others : List Entry) → ((k : Carried) → SentBefore (other e) k now others → HasSent (other e) k t) →
    (p : Place) (ts : List Turn) (q : Place) → p.clock ≡ now → Events e p ts q →
    AllByRecursion (CameFrom (other e) others) ts → AllByRecursion (Stands e t) ts
stand_all e now t others f p [] q k h a = tt
stand_all e now t others f p (turn ∷ ts) q k h a =
    let at = event_now e p turn h.0 h.1 in (
      one turn.came (subst (λ (z : ℕ). IfSome turn.came (λ k. SentBefore (other e) k z others)) (at.0 ∙ k) a.0),
      stand_all e now t others f h.0 ts q (at.1 ∙ k) h.2 a.1,
    )
  where
    one : (o : Option Carried) → IfSome o (λ k. SentBefore (other e) k now others) → IfSome o (λ k. HasSent (other e) k t)
    one None h = tt
    one (Some k) h = f k h

all_front : {X : Type 0} (P : X → Type 0) → (xs ys : List X) → AllByRecursion P (xs ++ ys) → AllByRecursion P xs
all_front P [] ys a = tt
all_front P (x ∷ xs) ys a = (a.0, all_front P xs ys a.1)

all_behind : {X : Type 0} (P : X → Type 0) → (xs ys : List X) → AllByRecursion P (xs ++ ys) → AllByRecursion P ys
all_behind P [] ys a = a
all_behind P (x ∷ xs) ys a = all_behind P xs ys a.1

-- the events of a tick that was passed
events_done : (e : End) (n now : ℕ) (ps : Places) (t others : List Entry) (ts : List Turn)
    → Joined now ps t
    → (place ps e).clock ≡ now
    → ((k : Carried) → SentBefore (other e) k now others → HasSent (other e) k t)
    → AllByRecursion (CameFrom (other e) others) ts
    → OwedFrom e n (place ps e) ts
    → TickDone e n now ps t others ts
events_done e n now ps t others ts j passed sent came owed =
    let s : Split e n (place ps e) ts = split e n (place ps e) ts owed in
    let halves : AllByRecursion (CameFrom (other e) others) (s.now ++ s.later) =
    subst (λ (z : List Turn). AllByRecursion (CameFrom (other e) others) z) s.whole came in
    record {
      at = s.at;
      later = s.later;
      rest = s.rest;
      clock = events_clock e (place ps e) s.now s.at s.events ∙ passed;
      same = λ m above. split_later e n m (place ps e) ts s (omega (arith, above, passed));
      came = all_behind _ s.now s.later halves;
      joined =
          subst (λ (z : List Entry). Joined now (with_end e s.at ps) (t ++ z)) (sym (split_now e n now (place ps e) ts s passed))
          (events_kept now e s.at s.now ps t j passed
          (stand_all e now t others sent (place ps e) s.now s.at passed s.events (all_front _ s.now s.later halves))
          s.events);
    }

-- the tick passes, and then its events
tick_done : (e : End) (n now : ℕ) (ps : Places) (t others : List Entry) (ts : List Turn)
    → Joined now ps t
    → (place ps e).clock + 1 ≡ now
    → now ≤ n
    → ((k : Carried) → SentBefore (other e) k now others → HasSent (other e) k t)
    → AllByRecursion (CameFrom (other e) others) ts
    → Later e n (place ps e) ts
    → TickDone e n now ps t others ts
tick_done e n now ps t others [] j next low sent came owed = absurd (omega (arith, next, low, owed))
tick_done e n now ps t others (turn ∷ ts) j next low sent came owed =
    let r : Place = owed.0 in
    let u : List Entry = told turn.tick turn.items in
    let at : turn.tick ≡ now = owed.1.now ∙ next in
    let passed : Joined now (with_end e r ps) (t ++ u) =
    subst (λ (z : ℕ). Joined now (with_end e r ps) (t ++ told z turn.items)) (sym at)
    (passes_kept now ps t e turn r j next owed.1) in
    let d : TickDone e n now (with_end e r ps) (t ++ u) others ts =
    events_done e n now (with_end e r ps) (t ++ u) others ts passed
    (ap (λ z. z.clock) (here_is e r ps) ∙ owed.1.clock ∙ next)
    (λ k h. sent_front (other e) k t u (sent k h)) came.1
    (subst (λ (z : Place). OwedFrom e n z ts) (sym (here_is e r ps)) owed.2) in
    record {
      at = d.at;
      later = d.later;
      rest = d.rest;
      clock = d.clock;
      same =
          λ m above.
          at_append m u (entries_of ts)
          ∙ ap (λ z. z ++ at_tick m (entries_of ts)) (told_apart m turn.tick (λ same. absurd (omega (arith, above, same, at))) turn.items)
          ∙ d.same m above;
      came = d.came;
      joined =
          subst (λ (z : List Entry). Joined now (with_end e d.at ps) (t ++ z))
          (sym (at_append now u (entries_of ts) ∙ ap (λ z. z ++ at_tick now (entries_of ts)) (told_now now turn.tick at turn.items)))
          (subst (λ (z : List Entry). Joined now (with_end e d.at ps) z) (append_assoc t u (at_tick now (entries_of ts)))
          (subst (λ (z : Places). Joined now z ((t ++ u) ++ at_tick now (entries_of ts))) (again e d.at r ps) d.joined));
    }

-- Tick by tick.

-- Both ends ran to the end of a tick.
record Reached (n now : ℕ) (vs ps : List Turn) : Type 0 where
  at : Places
  vehicle_later : List Turn
  point_later : List Turn
  vehicle : Later «end».Vehicle n at.vehicle vehicle_later
  point : Later «end».Point n at.point point_later
  vehicle_clock : at.vehicle.clock ≡ now
  point_clock : at.point.clock ≡ now
  vehicle_same : (m : ℕ) → now < m → at_tick m (entries_of vs) ≡ at_tick m (entries_of vehicle_later)
  point_same : (m : ℕ) → now < m → at_tick m (entries_of ps) ≡ at_tick m (entries_of point_later)
  vehicle_came : AllByRecursion (CameFrom «end».Point (entries_of ps)) vehicle_later
  point_came : AllByRecursion (CameFrom «end».Vehicle (entries_of vs)) point_later
  joined : Joined now at (joint now (entries_of vs) (entries_of ps))

nothing_before : (e : End) (k : Carried) (t : List Entry) (xs : List Entry) → SentBefore e k 0 xs → HasSent e k t
nothing_before e k t [] h = absurd h
nothing_before e k t (x ∷ xs) (inl h) = absurd (omega (arith, h.0))
nothing_before e k t (x ∷ xs) (inr h) = nothing_before e k t xs h

first_joined : Joined 0 (record { vehicle = first_place; point = first_place }) []
first_joined =
    record {
      last = 0;
      fit =
          record {
            seats = seats_first;
            in_time = in_time_first;
            near = λ e c. omega arith;
            links = λ c. record { carried = tt; same = λ r o h. cc; confirmed = tt };
            drawn = tt;
            rises = omega arith;
            agreed = tt;
            ordered = tt;
            safe = λ e c. tt;
          };
      below = λ e. tt;
      low = low_first;
      drawn = drawn_first;
    }
  where
    ps : Places
    ps = record { vehicle = first_place; point = first_place }

    none : (b : Bool) (s : Option Seat) → (if b then s else s) ≡ s
    none true s = refl
    none false s = refl

    seats_first : (e : End) (c : ℕ) → SeatBy (λ n. n ≡ clocks ps e c) (seats ps e c) first_leg []
    seats_first «end».Vehicle c = rw (none (0 == c) None) refl
    seats_first «end».Point c = rw (none (0 == c) None) refl

    in_time_first : (e : End) (c : ℕ) → IfSome (seats ps e c) (InTime e)
    in_time_first «end».Vehicle c = rw (none (0 == c) None) tt
    in_time_first «end».Point c = rw (none (0 == c) None) tt

    low_first : (e : End) → (place ps e).call ≤ (place ps e).high
    low_first «end».Vehicle = omega arith
    low_first «end».Point = omega arith

    drawn_first : (e : End) → (place ps e).high ≤ 0
    drawn_first «end».Vehicle = omega arith
    drawn_first «end».Point = omega arith

-- the point's turns of a tick, and then the vehicle's
both_done : (n now : ℕ) (vs ps us ws : List Turn) (at : Places) (t : List Entry)
    → (d : TickDone «end».Point n now at t (entries_of vs) ps)
    → TickDone «end».Vehicle n now (with_end «end».Point d.at at) (t ++ at_tick now (entries_of ps)) (entries_of ws) us
    → ((m : ℕ) → now < m → at_tick m (entries_of vs) ≡ at_tick m (entries_of us))
    → ((m : ℕ) → now < m → at_tick m (entries_of ws) ≡ at_tick m (entries_of ps))
    → joint now (entries_of vs) (entries_of ws) ≡ (t ++ at_tick now (entries_of ps)) ++ at_tick now (entries_of us)
    → Reached n now vs ws
both_done n now vs ps us ws at t d f v_same p_same same =
    record {
      at = record { vehicle = f.at; point = d.at };
      vehicle_later = f.later;
      point_later = d.later;
      vehicle = f.rest;
      point = d.rest;
      vehicle_clock = f.clock;
      point_clock = d.clock;
      vehicle_same = λ m above. v_same m above ∙ f.same m above;
      point_same = λ m above. p_same m above ∙ d.same m above;
      vehicle_came = f.came;
      point_came = d.came;
      joined =
          subst (λ (z : List Entry). Joined now (record { vehicle = f.at; point = d.at }) z) (sym same) f.joined;
    }

reach : (n : ℕ) (vs ps : List Turn) → OwedFrom «end».Vehicle n first_place vs → OwedFrom «end».Point n first_place ps →
    Fits vs ps → (now : ℕ) → now ≤ n → Reached n now vs ps
reach n vs ps v p fits zero low =
    let at : Places = record { vehicle = first_place; point = first_place } in
    let d : TickDone «end».Point n 0 at [] (entries_of vs) ps =
    events_done «end».Point n 0 at [] (entries_of vs) ps first_joined refl
    (λ k h. nothing_before «end».Vehicle k [] (entries_of vs) h) fits.up p in
    both_done n 0 vs ps vs ps at [] d
    (events_done «end».Vehicle n 0 (with_end «end».Point d.at at) (at_tick 0 (entries_of ps)) (entries_of ps) vs d.joined refl
    (λ k h. nothing_before «end».Point k (at_tick 0 (entries_of ps)) (entries_of ps) h) fits.down v)
    (λ m above. refl) (λ m above. refl) refl
reach n vs ps v p fits (suc m) low =
    let r : Reached n m vs ps = reach n vs ps v p fits m (omega (arith, low)) in
    let t : List Entry = joint m (entries_of vs) (entries_of ps) in
    let d : TickDone «end».Point n (suc m) r.at t (entries_of vs) r.point_later =
    tick_done «end».Point n (suc m) r.at t (entries_of vs) r.point_later
    (next_tick m r.at t (clock r) r.joined) (let k : r.at.point.clock ≡ m = r.point_clock in omega arith) low
    (λ k h. sent_joint «end».Vehicle k m (entries_of vs) (entries_of ps) h) r.point_came r.point in
    let f : TickDone «end».Vehicle n (suc m) (with_end «end».Point d.at r.at) (t ++ at_tick (suc m) (entries_of r.point_later)) (entries_of ps) r.vehicle_later =
    tick_done «end».Vehicle n (suc m) (with_end «end».Point d.at r.at) (t ++ at_tick (suc m) (entries_of r.point_later)) (entries_of ps) r.vehicle_later
    d.joined (let k : r.at.vehicle.clock ≡ m = r.vehicle_clock in omega arith) low
    (λ k h. sent_front «end».Point k t (at_tick (suc m) (entries_of r.point_later)) (sent_joint «end».Point k m (entries_of vs) (entries_of ps) h))
    r.vehicle_came r.vehicle in
    both_done n (suc m) vs r.point_later r.vehicle_later ps r.at t d f
    (λ k above. r.vehicle_same k (omega (arith, above))) (λ k above. r.point_same k (omega (arith, above)))
    (ap (λ z. t ++ (z ++ at_tick (suc m) (entries_of vs))) (r.point_same (suc m) (omega arith))
    ∙ ap (λ z. t ++ (at_tick (suc m) (entries_of r.point_later) ++ z)) (r.vehicle_same (suc m) (omega arith))
    ∙ sym (append_assoc t (at_tick (suc m) (entries_of r.point_later)) (at_tick (suc m) (entries_of r.vehicle_later))))
  where
    clock : (r : Reached n m vs ps) → (e : End) → (place r.at e).clock ≡ m
    clock r «end».Vehicle = r.vehicle_clock
    clock r «end».Point = r.point_clock

-- Two runs of at least n ticks that owe what they must, and fit each other, are safe together up to that tick.
pub owed_safe : (n : ℕ) (vs ps : List Turn) → OwedFrom «end».Vehicle n first_place vs →
    OwedFrom «end».Point n first_place ps → Fits vs ps → Safe (joint n (entries_of vs) (entries_of ps)) n
owed_safe n vs ps v p fits =
    let r : Reached n n vs ps = reach n vs ps v p fits n (omega arith) in
    joined_safe n r.at (joint n (entries_of vs) (entries_of ps)) r.joined
