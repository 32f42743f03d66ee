-- Ends that lag and catch up.
use Rattle.std.proofs.Common.{◌≡◌, ℕ, zero, suc, ◌+◌, ◌-◌, ◌<◌, ◌≤◌, true, false, inl, List, [], Option, Some, None, IfSome, refl, ap, sym, ◌∙◌, subst, arith}
use Rattle.std.specs.Option.{is_some}
use Rattle.link_frames.specs.declared.note.Note.{Note}
use Rattle.link_frames.specs.Row.{Row, silent}
use Rattle.ivs_machine.specs.declared.vehicle.Ivs.{Ivs}
use Rattle.ivs_machine.specs.IvsStands.{IvsStandsFor}
use Rattle.ivs_machine.specs.Vehicle.{Vehicle}
use Rattle.ivs_machine.specs.VehicleRows as vehicle
use Rattle.psap_machine.specs.declared.session.Session.{Session}
use Rattle.psap_machine.specs.Point.{Point}
use Rattle.psap_machine.specs.PointRows as point
use Rattle.psap_machine.specs.SessionStands.{SessionStandsFor}
use Rattle.channel_sim.specs.declared.calls.call.Call as kept_call
use Rattle.channel_sim.specs.World.{Call}
use Rattle.trace_fit.specs.Seats.{left_by}
use Rattle.channel_sim.specs.inner.Acts.{CallDid, seat_items, seat_after}
use Rattle.channel_sim.specs.Lag.{LeastPassed, SessionLags, SeatLags, CallLags, VehicleLags}
use Rattle.channel_sim.proofs.SeatLemmas.{stands_now}
use Rattle.channel_sim.proofs.EndJump.{point_acts, point_quiet, point_again, point_later, point_live, vehicle_acts, vehicle_quiet, vehicle_again, vehicle_later}

below : (m n : ℕ) (o : Option ℕ) → m ≤ n → IfSome o (λ due. n < due) → IfSome o (λ due. m < due)
below m n None le h = tt
below m n (Some due) le h = omega arith

pub as_sum : (m n k : ℕ) (o : Option ℕ) → k ≡ m + n → IfSome o (λ due. k < due) → IfSome o (λ due. m + n < due)
as_sum m n k None e h = tt
as_sum m n k (Some due) e h = omega arith

-- quiet unit ticks
pub point_units : (n : ℕ) (s : Point) → 0 < n → IfSome (point.due_of s) (λ due. n < due) → point.units n s ≡ silent (point.aged n s)
point_units zero s some h = absurd (omega arith)
point_units (suc n) s some h =
    let e : suc n ≡ n + 1 = omega arith in
    point_acts n s (below n (suc n) (point.due_of s) (omega arith) h)
    ∙ point_quiet (point.aged n s) (point_later n 1 s (as_sum n 1 (suc n) (point.due_of s) e h))
    ∙ ap silent (point_again n 1 s ∙ ap (λ m. point.aged m s) (sym e))

pub vehicle_units : (n : ℕ) (v : Vehicle) → 0 < n → IfSome (vehicle.due_of v) (λ due. n < due) → vehicle.units n v ≡ silent (vehicle.aged n v)
vehicle_units zero v some h = absurd (omega arith)
vehicle_units (suc n) v some h =
    let e : suc n ≡ n + 1 = omega arith in
    vehicle_acts n v (below n (suc n) (vehicle.due_of v) (omega arith) h)
    ∙ vehicle_quiet (vehicle.aged n v) (vehicle_later n 1 v (as_sum n 1 (suc n) (vehicle.due_of v) e h))
    ∙ ap silent (vehicle_again n 1 v ∙ ap (λ m. vehicle.aged m v) (sym e))

-- one that lags was passed by some of the ticks
pub session_passed : (n left : ℕ) (old new : Session) (s : Point) → 0 < n → n ≤ left → ((q : Point) → SessionStandsFor old q → SessionStandsFor new (point.units n q).new) → SessionLags left old s → SessionLags (left - n) new s
session_passed n left old new s some le passes h =
    let e : left ≡ n + (left - n) = omega arith in
    record {
      was = point.aged n h.was;
      stands = subst (λ (row : Row Point). SessionStandsFor new row.new) (point_units n h.was some (below n left (point.due_of h.was) le h.quiet)) (passes h.was h.stands);
      aged = h.aged ∙ ap (λ m. point.aged m h.was) e ∙ sym (point_again n (left - n) h.was);
      quiet = point_later n (left - n) h.was (as_sum n (left - n) left (point.due_of h.was) e h.quiet);
      live = h.live;
    }

pub vehicle_passed : (n left : ℕ) (old new : Ivs) (v : Vehicle) → 0 < n → n ≤ left → ((u : Vehicle) → IvsStandsFor old u → IvsStandsFor new (vehicle.units n u).new) → VehicleLags left old v → VehicleLags (left - n) new v
vehicle_passed n left old new v some le passes h =
    let e : left ≡ n + (left - n) = omega arith in
    record {
      was = vehicle.aged n h.was;
      stands = subst (λ (row : Row Vehicle). IvsStandsFor new row.new) (vehicle_units n h.was some (below n left (vehicle.due_of h.was) le h.quiet)) (passes h.was h.stands);
      aged = h.aged ∙ ap (λ m. vehicle.aged m h.was) e ∙ sym (vehicle_again n (left - n) h.was);
      quiet = vehicle_later n (left - n) h.was (as_sum n (left - n) left (vehicle.due_of h.was) e h.quiet);
    }

-- what is left of nothing
pub lags_by : (m n : ℕ) (kept : Session) (s : Point) → m ≡ n → SessionLags m kept s → SessionLags n kept s
lags_by m n kept s e h = subst (λ k. SessionLags k kept s) e h

pub vehicle_lags_by : (m n : ℕ) (kept : Ivs) (v : Vehicle) → m ≡ n → VehicleLags m kept v → VehicleLags n kept v
vehicle_lags_by m n kept v e h = subst (λ k. VehicleLags k kept v) e h

-- something is due later than nothing
pub some_later : (n : ℕ) (o : Option ℕ) → IfSome o (λ due. n < due) → IfSome o (λ due. 0 < due)
some_later n None h = tt
some_later n (Some due) h = omega arith

-- What a session does at its unit tick, as it is kept.

pub acted_over : (floor : LeastPassed) (before tick : ℕ) (x : kept_call.Call) (k : Call) (row : Point → Row Point) (session : Session) (items : List Note)
    → CallLags floor before x k
    → floor.waking ≤ tick
    → x.session ≡ Some session
    → ((s : Point) → SessionLags (before - x.passed) session s → (items ≡ (row s).items) × (left_by (row s).new ≡ None))
    → CallDid floor tick true items (record x { session = None; passed = tick }) k row
acted_over floor before tick x k row session items h floor_up e did = at k.session refl (subst (λ o. SeatLags (before - x.passed) o k.session) e h.session)
  where
    at : (o : Option Point) → k.session ≡ o → SeatLags (before - x.passed) (Some session) o → CallDid floor tick true items (record x { session = None; passed = tick }) k row
    at None f seat = absurd seat
    at (Some s) f seat =
        record {
          items = (did s seat).0 ∙ ap (seat_items row) (sym f);
          acts = λ there. ap is_some f;
          rests = λ wrong. cc;
          stands =
              record {
                number = h.number;
                up = h.up;
                down = h.down;
                passed = omega arith;
                from = inl floor_up;
                session = subst (λ o. SeatLags (tick - tick) None o) (sym (ap (seat_after row) f ∙ (did s seat).1)) tt;
              };
        }

pub acted_on : (floor : LeastPassed) (before tick : ℕ) (x : kept_call.Call) (k : Call) (row : Point → Row Point) (session new : Session) (items : List Note)
    → CallLags floor before x k
    → floor.waking ≤ tick
    → x.session ≡ Some session
    → ((s : Point) → SessionLags (before - x.passed) session s → (items ≡ (row s).items) × (left_by (row s).new ≡ Some (row s).new) × SessionStandsFor new (row s).new)
    → CallDid floor tick true items (record x { session = Some new; passed = tick }) k row
acted_on floor before tick x k row session new items h floor_up e did = at k.session refl (subst (λ o. SeatLags (before - x.passed) o k.session) e h.session)
  where
    at : (o : Option Point) → k.session ≡ o → SeatLags (before - x.passed) (Some session) o → CallDid floor tick true items (record x { session = Some new; passed = tick }) k row
    at None f seat = absurd seat
    at (Some s) f seat =
        record {
          items = (did s seat).0 ∙ ap (seat_items row) (sym f);
          acts = λ there. ap is_some f;
          rests = λ wrong. cc;
          stands =
              record {
                number = h.number;
                up = h.up;
                down = h.down;
                passed = omega arith;
                from = inl floor_up;
                session =
                    subst (λ o. SeatLags (tick - tick) (Some new) o) (sym (ap (seat_after row) f ∙ (did s seat).1))
                    (stands_now (tick - tick) new (row s).new (omega arith) (did s seat).2 (did s seat).1);
              };
        }

-- one that isn't due does nothing
pub rested : (floor : LeastPassed) (before tick : ℕ) (x : kept_call.Call) (k : Call) (session : Session)
    → CallLags floor before x k
    → before + 1 ≡ tick
    → x.session ≡ Some session
    → ((q : Point) → SessionStandsFor session q → IfSome (point.due_of q) (λ due. tick - x.passed < due))
    → CallDid floor tick false [] x k point.unit_row
rested floor before tick x k session h next e later = at k.session refl (subst (λ o. SeatLags (before - x.passed) o k.session) e h.session)
  where
    sum : tick - x.passed ≡ (before - x.passed) + 1
    sum = let p : x.passed ≤ before = h.passed in omega arith

    at : (o : Option Point) → k.session ≡ o → SeatLags (before - x.passed) (Some session) o → CallDid floor tick false [] x k point.unit_row
    at None f seat = absurd seat
    at (Some s) f seat =
        let quiet : IfSome (point.due_of seat.was) (λ due. (before - x.passed) + 1 < due) = as_sum (before - x.passed) 1 (tick - x.passed) (point.due_of seat.was) sum (later seat.was seat.stands) in
        let row : point.unit_row s ≡ silent (point.aged 1 s) = point_quiet s (subst (λ z. IfSome (point.due_of z) (λ due. 1 < due)) (sym seat.aged) (point_later (before - x.passed) 1 seat.was quiet)) in
        let new : (point.unit_row s).new ≡ point.aged (tick - x.passed) seat.was = ap (λ (r : Row Point). r.new) row ∙ ap (point.aged 1) seat.aged ∙ point_again (before - x.passed) 1 seat.was ∙ ap (λ n. point.aged n seat.was) (sym sum) in
        let live : left_by (point.unit_row s).new ≡ Some (point.unit_row s).new = subst (λ (r : Row Point). left_by r.new ≡ Some r.new) (sym row) (point_live 1 s seat.live) in
        record {
          items = sym (ap (seat_items point.unit_row) f ∙ ap (λ (r : Row Point). r.items) row);
          acts = λ wrong. cc;
          rests = λ same. ap (λ o. is_some (seat_after point.unit_row o)) f ∙ ap is_some live ∙ ap is_some (sym f);
          stands =
              record {
                number = h.number;
                up = h.up;
                down = h.down;
                passed = let p : x.passed ≤ before = h.passed in omega arith;
                from = h.from;
                session =
                    subst (λ o. SeatLags (tick - x.passed) x.session o) (sym (ap (seat_after point.unit_row) f ∙ live))
                    (subst (λ o. SeatLags (tick - x.passed) o (Some (point.unit_row s).new)) (sym e)
                    (record {
                      was = seat.was;
                      stands = seat.stands;
                      aged = new;
                      quiet = later seat.was seat.stands;
                      live = live;
                    }));
              };
        }

pub nobody_acts : (floor : LeastPassed) (before tick : ℕ) (x : kept_call.Call) (k : Call) (row : Point → Row Point) → CallLags floor before x k → before ≤ tick → x.session ≡ None → CallDid floor tick false [] x k row
nobody_acts floor before tick x k row h le e = at k.session refl (subst (λ o. SeatLags (before - x.passed) o k.session) e h.session)
  where
    at : (o : Option Point) → k.session ≡ o → SeatLags (before - x.passed) None o → CallDid floor tick false [] x k row
    at (Some s) f seat = absurd seat
    at None f seat =
        record {
          items = ap (seat_items row) (sym f);
          acts = λ wrong. cc;
          rests = λ same. ap (λ o. is_some (seat_after row o)) f ∙ ap is_some (sym f);
          stands =
              record {
                number = h.number;
                up = h.up;
                down = h.down;
                passed = let p : x.passed ≤ before = h.passed in omega arith;
                from = h.from;
                session = subst (λ o. SeatLags (tick - x.passed) x.session (seat_after row o)) (sym f) (subst (λ o. SeatLags (tick - x.passed) o None) (sym e) tt);
              };
        }

-- what is due now is due at the end of the lag
pub due_now : (m due : ℕ) (session : Session) (s : Point) (h : SessionLags m session s) → point.due_of h.was ≡ Some due → due ≤ m + 1 → due ≡ suc m
due_now m due session s h e le =
    let quiet : m < due = subst (λ o. IfSome o (λ d. m < d)) e h.quiet in omega arith
