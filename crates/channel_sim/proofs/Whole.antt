-- The invariant at the world's tick, and what follows from it of whole traces.
use Rattle.std.specs.Prelude.{◌||◌, ◌≡◌, ◌+◌, ℕ, zero, suc, ◌==◌, Bool, true, false, List, [], ◌∷◌, ◌++◌, Option, Some, None, IfSome, if◌then◌else◌}
use Rattle.std.specs.List.{AllByRecursion}
use Rattle.std.specs.Option.{is_some}
use Rattle.std.proofs.lemmas.Bool.{eqb-true, false≢true}
use Rattle.std.proofs.Common.{refl, sym, ap, subst, ◌∙◌, inl, inr, arith, append_assoc}
use Rattle.link_frames.specs.declared.frame.End.{End}
use Rattle.link_frames.specs.declared.frame.End.TheVariants as «end»
use Rattle.link_frames.specs.declared.frame.Frame.TheVariants as frame
use Rattle.link_frames.specs.declared.note.Note.{Note}
use Rattle.link_frames.specs.declared.note.Note.TheVariants as note
use Rattle.link_frames.specs.Legs.{Kept}
use Rattle.link_frames.specs.Owes.{Seat, InTime, set_for}
use Rattle.msd_fit.specs.declared.facts.Facts.{Facts}
use Rattle.ivs_machine.specs.Vehicle.{Vehicle, Phase, Idle, Standby, Arming, InSeries, InCall, call_in, first_vehicle, vehicle_call}
use Rattle.ivs_machine.specs.VehicleOwes.{seat_in}
use Rattle.psap_machine.specs.Point as session
use Rattle.psap_machine.specs.Point.{Point}
use Rattle.psap_machine.specs.PointOwes as point_owes
use Rattle.trace_model.specs.declared.entry.Entry.{Entry}
use Rattle.trace_model.specs.declared.event.Event.{Event}
use Rattle.trace_model.specs.History.{Sent, sends, sent_by, sets_of}
use Rattle.trace_model.specs.Safety.{is_leg, Leg, first_leg, leg_at}
use Rattle.trace_model.proofs.Folds.{is_leg_same}
use Rattle.channel_sim.specs.World.{World, Call, first_world, session_of, vehicle_is_in, point_is_in, unit, units, call_of, session_in}
use Rattle.trace_fit.specs.Seats.{is_number, unless_over}
use Rattle.channel_sim.specs.Lines.{step, trace, trace_from, world_after}
use Rattle.channel_sim.specs.Fit.{Fit, seats_of, IsCall}
use Rattle.trace_fit.specs.Links.{CarriesMade}
use Rattle.trace_fit.specs.Order.{IsSent, WasSent}
use Rattle.trace_fit.specs.Seats.{LegFits, vehicle_seat, point_seat}
use Rattle.channel_sim.specs.inner.FitAt.{FitsAt, all_at}
use Rattle.trace_fit.specs.inner.FitAt.{SeatBy}
use Rattle.trace_fit.proofs.RowKept.{within_of}
use Rattle.channel_sim.proofs.CallsKept.{found_leg, found_session}
use Rattle.channel_sim.proofs.Running.{FitsNow, unit_now, step_goes, trace_goes}
use Rattle.trace_fit.proofs.SafeLegs.{opened_from, finished_from, bounded_from, safe_from}

-- A leg that is safe, as the rules have it.

-- Seats at the world's tick.

seat_to : (now : ℕ) → (s : Option Seat) → (leg : Leg) (sets : List Kept) → LegFits now s leg sets →
    SeatBy (λ n. n ≡ now) s leg sets
seat_to now None leg sets h = h
seat_to now (Some k) leg sets h = record { up = h.up; talks = h.talks; time = h.time; sets = h.sets }

seat_from : (now : ℕ) → (s : Option Seat) → (leg : Leg) (sets : List Kept) → SeatBy (λ n. n ≡ now) s leg sets →
    LegFits now s leg sets
seat_from now None leg sets h = h
seat_from now (Some k) leg sets h = record { up = h.up; talks = h.talks; time = h.time; sets = h.sets }

fits_now : (w : World) (t : List Entry) → Fit w t → FitsNow w t
fits_now w t h =
    record {
      now = w.tick;
      last = w.drawn;
      fits =
          record {
            tick = refl;
            drawn = refl;
            fit =
                record {
                  seats = λ e c. seat_to w.tick (seats_of w.vehicle w.calls e c) (leg_at e c t) (sets_of e c t) (h.seats e c);
                  in_time = h.in_time;
                  near = λ e c. omega arith;
                  links = h.links;
                  drawn = h.drawn;
                  rises = h.rises;
                  agreed = h.safe.agreed;
                  ordered = h.ordered;
                  safe = λ e c. safe_from e c first_leg t (h.safe.opened e c) (h.safe.bounded e c).each (h.finished e c);
                };
            vehicle = h.vehicle;
            calls = h.calls;
            frames = h.frames;
            legs = h.legs;
            in_order = h.in_order;
            listed = h.listed;
          };
    }

fit_at : (w : World) (t : List Entry) → FitsAt (all_at w.tick) w.tick w.drawn w t → Fit w t
fit_at w t f =
    record {
      drawn = f.fit.drawn;
      rises = f.fit.rises;
      seats = λ e c. seat_from w.tick (seats_of w.vehicle w.calls e c) (leg_at e c t) (sets_of e c t) (f.fit.seats e c);
      frames = f.frames;
      legs = f.legs;
      listed = f.listed;
      links = f.fit.links;
      ordered = f.fit.ordered;
      vehicle = f.vehicle;
      calls = f.calls;
      in_order = f.in_order;
      in_time = f.fit.in_time;
      safe =
          record {
            agreed = f.fit.agreed;
            opened = λ e c. opened_from e c first_leg t (f.fit.safe e c);
            bounded =
                λ e c.
                record {
                  each = bounded_from e c first_leg t (f.fit.safe e c);
                  last =
                      within_of e w.tick w.tick (leg_at e c t) (sets_of e c t) (seats_of w.vehicle w.calls e c)
                      (f.fit.seats e c) (f.fit.in_time e c) (f.fit.near e c);
                };
          };
      finished = λ e c. finished_from e c first_leg t (f.fit.safe e c);
    }

fit_now : (w : World) (t : List Entry) → FitsNow w t → Fit w t
fit_now w t f =
    fit_at w t
    (subst (λ (z : ℕ). FitsAt (all_at w.tick) w.tick z w t) (sym f.fits.drawn)
    (subst (λ (z : ℕ). FitsAt (all_at z) z f.last w t) (sym f.fits.tick) f.fits))

-- The laws.

pub first_fits : (known : Facts) → Fit (first_world known) []
first_fits known = fit_now (first_world known) [] (record { now = 0; last = 0; fits = first })
  where
    first : FitsAt (all_at 0) 0 0 (first_world known) []
    first =
        record {
          tick = refl;
          drawn = refl;
          fit =
              record {
                seats = λ e c. seats e c;
                in_time = λ e c. in_time e c;
                near = λ e c. omega arith;
                links = λ c. record { carried = tt; same = λ r o h. cc; confirmed = tt };
                drawn = tt;
                rises = omega arith;
                agreed = tt;
                ordered = tt;
                safe = λ e c. tt;
              };
          vehicle = record { made = tt; phase = tt };
          calls = tt;
          frames = tt;
          legs = tt;
          in_order = tt;
          listed = tt;
        }
      where
        seats : (e : End) (c : ℕ) → SeatBy (λ n. n ≡ 0) (seats_of (first_vehicle known) [] e c) first_leg []
        seats «end».Vehicle c = refl
        seats «end».Point c = refl

        in_time : (e : End) (c : ℕ) → IfSome (seats_of (first_vehicle known) [] e c) (InTime e)
        in_time «end».Vehicle c = tt
        in_time «end».Point c = tt

pub step_fits : (w : World) (t : List Entry) (e : Event) → Fit w t → Fit (step w e).world (t ++ (step w e).entries)
step_fits w t e h = fit_now (step w e).world (t ++ (step w e).entries) (step_goes w t (fits_now w t h) e)

pub unit_fits : (w : World) (t : List Entry) → Fit w t → Fit (unit w).world (t ++ (unit w).entries)
unit_fits w t h = fit_now (unit w).world (t ++ (unit w).entries) (unit_now w t (fits_now w t h))

pub trace_fits : (known : Facts) (es : List Event) → Fit (world_after (first_world known) es) (trace known es)
trace_fits known es =
    fit_now (world_after (first_world known) es) (trace known es)
    (trace_goes es (first_world known) [] (fits_now (first_world known) [] (first_fits known)))

front_from : (w : World) (es fs : List Event) → trace_from w (es ++ fs) ≡ trace_from w es ++ trace_from (world_after w es) fs
front_from w [] fs = refl
front_from w (e ∷ es) fs =
    ap (λ z. (step w e).entries ++ z) (front_from (step w e).world es fs)
    ∙ sym (append_assoc (step w e).entries (trace_from (step w e).world es) (trace_from (world_after (step w e).world es) fs))

pub trace_front : (known : Facts) (es fs : List Event) →
    trace known (es ++ fs) ≡ trace known es ++ trace_from (world_after (first_world known) es) fs
trace_front known es fs = front_from (first_world known) es fs

-- a line of n + m ticks is a line of n and then one of m
pub ticks_front : (n m : ℕ) (w : World) →
    (units (n + m) w).entries ≡ (units n w).entries ++ (units m (units n w).world).entries
ticks_front zero m w = let none : zero + m ≡ m = omega arith in rw none refl
ticks_front (suc n) m w =
    let more : suc n + m ≡ suc (n + m) = omega arith in
    rw more
    (ap (λ z. (unit w).entries ++ z) (ticks_front n m (unit w).world)
    ∙ sym (append_assoc (unit w).entries (units n (unit w).world).entries (units m (units n (unit w).world).world).entries))

-- What the invariant says, read aloud.

leg_of : (now : ℕ) (b : Bool) (s : Option Seat) → is_some s ≡ b → (leg : Leg) (sets : List Kept) → LegFits now s leg sets →
    leg.up ≡ b
leg_of now b None e leg sets h = h ∙ e
leg_of now b (Some k) e leg sets h = h.up ∙ e

vehicle_seated_in : (c : ℕ) (v : Vehicle) (p : Phase) →
    is_some (if is_number c (call_in v p) then seat_in v p else None) ≡ is_number c (call_in v p)
vehicle_seated_in c v (InCall stage) = at (v.call == c)
  where
    at : (b : Bool) → is_some (if b then seat_in v (InCall stage) else None) ≡ b
    at true = refl
    at false = refl
vehicle_seated_in c v Idle = refl
vehicle_seated_in c v Standby = refl
vehicle_seated_in c v (Arming before) = refl
vehicle_seated_in c v (InSeries s) = refl

pub vehicle_leg : (w : World) (t : List Entry) (c : ℕ) → Fit w t → (leg_at «end».Vehicle c t).up ≡ vehicle_is_in c w
vehicle_leg w t c h =
    leg_of w.tick (vehicle_is_in c w) (vehicle_seat c w.vehicle) (vehicle_seated_in c w.vehicle w.vehicle.phase)
    (leg_at «end».Vehicle c t) (sets_of «end».Vehicle c t) (h.seats «end».Vehicle c)

-- a session among the calls has a seat
point_seated : (o : Option Point) → IfSome o (λ s. is_some (point_seat (Some s)) ≡ true) → is_some (point_seat o) ≡ is_some o
point_seated None h = refl
point_seated (Some s) h = h

not_over_in : (s : Point) (p : session.Phase) → s.phase ≡ p → unless_over s p ≡ Some s → is_some (point_owes.seat_in s p) ≡ true
not_over_in s session.Over h k = cc
not_over_in s session.Listening h k = refl
not_over_in s (session.Asking r) h k = refl
not_over_in s (session.Telling r) h k = refl
not_over_in s session.Talking h k = refl
not_over_in s (session.Clearing r) h k = refl

sessions_seated : (last c : ℕ) (ks : List Call) → AllByRecursion (IsCall last) ks →
    IfSome (session_of c ks) (λ s. is_some (point_seat (Some s)) ≡ true)
sessions_seated last c ks a = at (session_of c ks) refl
  where
    at : (o : Option Point) → session_of c ks ≡ o → IfSome o (λ s. is_some (point_seat (Some s)) ≡ true)
    at None h = tt
    at (Some s) h = not_over_in s s.phase refl (found_session c last s ks a h).stays

pub point_leg : (w : World) (t : List Entry) (c : ℕ) → Fit w t → (leg_at «end».Point c t).up ≡ point_is_in c w
point_leg w t c h =
    leg_of w.tick (point_is_in c w) (point_seat (session_of c w.calls))
    (point_seated (session_of c w.calls) (sessions_seated w.drawn c w.calls h.calls)) (leg_at «end».Point c t)
    (sets_of «end».Point c t) (h.seats «end».Point c)

-- a set that was sent is the one that was made
carried_sent : (c r : ℕ) (o : List ℕ) (made : List Kept) → (t : List Entry) →
    AllByRecursion (λ s. CarriesMade made s.frame) (sent_by «end».Vehicle c t) → WasSent c r o t → set_for r made ≡ Some o
carried_sent c r o made [] a h = absurd h
carried_sent c r o made (x ∷ t) a (inl here) =
    first x.note here (sent_by «end».Vehicle c t) a
  where
    first : (n : Note) → IsSent c r o n → (others : List Sent) →
        AllByRecursion (λ s. CarriesMade made s.frame) (sends «end».Vehicle c x.tick n others) → set_for r made ≡ Some o
    first (note.Send «end».Vehicle d (frame.Content q k p)) sent others a =
        let own : is_leg «end».Vehicle c «end».Vehicle d ≡ true = rw sent.0 (is_leg_same «end».Vehicle c) in
        let b = rw own at a in
        subst (λ (z : ℕ). set_for z made ≡ Some o) sent.1 (subst (λ (z : List ℕ). set_for q made ≡ Some z) sent.2 b.0)
    first _ sent others a = absurd sent
carried_sent c r o made (x ∷ t) a (inr there) =
    carried_sent c r o made t (rest x.note a) there
  where
    rest : (n : Note) → AllByRecursion (λ s. CarriesMade made s.frame) (sends «end».Vehicle c x.tick n (sent_by «end».Vehicle c t)) →
        AllByRecursion (λ s. CarriesMade made s.frame) (sent_by «end».Vehicle c t)
    rest (note.Send f d frame) a = at (is_leg «end».Vehicle c f d) a
      where
        at : (b : Bool) → AllByRecursion (λ s. CarriesMade made s.frame) (if b then record { tick = x.tick; frame = frame } ∷ sent_by «end».Vehicle c t else sent_by «end».Vehicle c t) →
            AllByRecursion (λ s. CarriesMade made s.frame) (sent_by «end».Vehicle c t)
        at true a = a.1
        at false a = a
    rest _ a = a

pub one_set : (w : World) (t : List Entry) → Fit w t → (c r : ℕ) (o p : List ℕ) → WasSent c r o t → WasSent c r p t → o ≡ p
one_set w t h c r o p a b =
    let made : List Kept = sets_of «end».Vehicle c t in
    let x : set_for r made ≡ Some o = carried_sent c r o made t (h.links c).carried a in
    let y : set_for r made ≡ Some p = carried_sent c r p made t (h.links c).carried b in
    let z : Some o ≡ Some p = sym x ∙ y in
    cc

-- the calls of a world are those with a leg up
pub calls_up : (w : World) (t : List Entry) (c : ℕ) → Fit w t →
    is_some (call_of c w.calls) ≡ ((leg_at «end».Vehicle c t).up || (leg_at «end».Point c t).up)
calls_up w t c h = at (call_of c w.calls) refl ∙ sym (ap (λ z. z || (leg_at «end».Point c t).up) (vehicle_leg w t c h) ∙ ap (λ z. vehicle_is_in c w || z) (point_leg w t c h))
  where
    listed : (o : Option ℕ) → IfSome o (λ d. is_some (call_of d w.calls) ≡ true) → is_number c o ≡ true →
        is_some (call_of c w.calls) ≡ true
    listed None k e = absurd (false≢true e)
    listed (Some d) k e = subst (λ (z : ℕ). is_some (call_of z w.calls) ≡ true) (eqb-true d c e) k

    none : (b : Bool) → vehicle_is_in c w ≡ b → call_of c w.calls ≡ None → false ≡ (b || false)
    none false e k = refl
    none true e k = sym (ap (λ z. is_some z) k) ∙ listed (vehicle_call w.vehicle) h.listed e

    at : (o : Option Call) → call_of c w.calls ≡ o → is_some o ≡ (vehicle_is_in c w || is_some (session_in o))
    at None k = none (vehicle_is_in c w) refl k
    at (Some x) k = sym (found_leg (vehicle_call w.vehicle) c x w.calls h.legs k)
