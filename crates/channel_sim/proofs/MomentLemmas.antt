-- The world that jumps over quiet ticks, as it is kept.
use Rattle.std.proofs.Common.{◌≡◌, ℕ, zero, suc, ◌+◌, ◌-◌, ◌<◌, ◌≤◌, ◌⊎◌, inl, inr, nat_lt, max, Bool, true, false, Option, Some, None, IfSome, List, [], ◌∷◌, map, refl, ap, sym, ◌∙◌, subst, arith}
use Rattle.std.specs.List.{AllByRecursion}
use Rattle.std.specs.Option.{option_map}
use Rattle.std.proofs.lemmas.Bool.{ltb-true, ltb-false}
use Rattle.trace_model.specs.History.{Sent}
use Rattle.ivs_machine.specs.declared.vehicle.Ivs.{Ivs}
use Rattle.ivs_machine.specs.Vehicle.{Vehicle, vehicle_call}
use Rattle.ivs_machine.specs.VehicleRows as vehicle
use Rattle.psap_machine.specs.declared.session.Session.{Session}
use Rattle.psap_machine.specs.Point.{Point}
use Rattle.psap_machine.specs.PointRows as point
use Rattle.channel_sim.specs.declared.calls.call.Call as kept_call
use Rattle.channel_sim.specs.declared.channel.Channel as kept_channel
use Rattle.channel_sim.specs.World.{Call, World, Step, quiet_step, and_then, vehicle_passes, sessions_pass, unit, units}
use Rattle.channel_sim.specs.Lag.{LeastPassed, SessionLags, SeatLags, VehicleLags, CallsLag, StandsAt}
use Rattle.channel_sim.specs.Quiet.{SessionRests, CallRests, EndsRest, FramesRest, QuietFor, aged_call, aged_world}
use Rattle.channel_sim.specs.Tidy.{CallInTime, HasLeg, IsTidy}
use Rattle.channel_sim.proofs.SeatLemmas.{due_later}
use Rattle.channel_sim.proofs.VehicleLemmas.{vehicle_due_later}
use Rattle.channel_sim.proofs.EndJump.{less, vehicle_due_aged, vehicle_again, vehicle_later, point_due_aged, point_again, point_later, point_live}
use Rattle.channel_sim.proofs.Jump.{call_stays, quiet_vehicle, quiet_sessions, quiet_then, aged_tidy, jump, units_behind, units_one}

more_left : (m n : ℕ) (o : Option ℕ) → IfSome o (λ due. m < due) → IfSome (less m o) (λ due. n < due) → IfSome o (λ due. m + n < due)
more_left m n None h k = tt
more_left m n (Some due) h k = omega (arith, k)

lags_on : (m n : ℕ) (kept : Ivs) (v : Vehicle) → VehicleLags m kept v → IfSome (vehicle.due_of v) (λ due. n < due) → VehicleLags (m + n) kept (vehicle.aged n v)
lags_on m n kept v h due =
    record {
      was = h.was;
      stands = h.stands;
      aged = ap (vehicle.aged n) h.aged ∙ vehicle_again m n h.was;
      quiet =
          more_left m n (vehicle.due_of h.was) h.quiet
          (subst (λ o. IfSome o (λ due. n < due)) (ap vehicle.due_of h.aged ∙ vehicle_due_aged m h.was h.quiet) due);
    }

session_on : (m n : ℕ) (kept : Session) (s : Point) → SessionLags m kept s → SessionRests n s → SessionLags (m + n) kept (point.aged n s)
session_on m n kept s h rests =
    record {
      was = h.was;
      stands = h.stands;
      aged = ap (point.aged n) h.aged ∙ point_again m n h.was;
      quiet =
          more_left m n (point.due_of h.was) h.quiet
          (subst (λ o. IfSome o (λ due. n < due)) (ap point.due_of h.aged ∙ point_due_aged m h.was h.quiet) rests.due);
      live = point_live n s rests.live;
    }

seat_on : (m n : ℕ) (a : Option Session) (b : Option Point) → SeatLags m a b → IfSome b (SessionRests n) → SeatLags (m + n) a (option_map (point.aged n) b)
seat_on m n None None h rests = tt
seat_on m n None (Some s) h rests = absurd h
seat_on m n (Some k) None h rests = absurd h
seat_on m n (Some k) (Some s) h rests = session_on m n k s h rests

pub calls_on : (floor : LeastPassed) (t n : ℕ) (xs : List kept_call.Call) (ks : List Call) → CallsLag floor (λ c. t) xs ks → AllByRecursion (CallRests n) ks → CallsLag floor (λ c. t + n) xs (map (aged_call n) ks)
calls_on floor t n [] [] h rests = tt
calls_on floor t n [] (k ∷ ks) h rests = absurd h
calls_on floor t n (x ∷ xs) [] h rests = absurd h
calls_on floor t n (x ∷ xs) (k ∷ ks) h rests =
    let within : x.passed ≤ t = h.0.passed in
    let sum : (t - x.passed) + n ≡ (t + n) - x.passed = omega arith in (
      record {
        number = h.0.number;
        up = h.0.up;
        down = h.0.down;
        passed = omega arith;
        from = h.0.from;
        session = subst (λ m. SeatLags m x.session (option_map (point.aged n) k.session)) sum (seat_on (t - x.passed) n x.session k.session h.0.session rests.0);
      },
      calls_on floor t n xs ks h.1 rests.1,
    )

past_more : (m n : ℕ) (ts : List ℕ) → m ≤ n → AllByRecursion (λ t. t ≤ m) ts → AllByRecursion (λ t. t ≤ n) ts
past_more m n [] le h = tt
past_more m n (t ∷ ts) le h = (omega (arith, h.0), past_more m n ts le h.1)

in_time_more : (m n : ℕ) (ks : List Call) → m ≤ n → AllByRecursion (CallInTime m) ks → AllByRecursion (CallInTime n) ks
in_time_more m n [] le h = tt
in_time_more m n (k ∷ ks) le h = (
  record {
    up = record { rise = h.0.up.rise; past = past_more m n _ le h.0.up.past };
    down = record { rise = h.0.down.rise; past = past_more m n _ le h.0.down.past };
  },
  in_time_more m n ks le h.1,
)

-- quiet ticks later, and one tick more, at which nobody was passed yet
pub jumped : (floor : LeastPassed) (n tick : ℕ) (kept : kept_channel.Channel) (w : World) → StandsAt kept.tick floor (λ c. kept.tick) kept w → QuietFor n w → kept.tick + n + 1 ≡ tick → StandsAt (kept.tick + n) floor (λ c. kept.tick + n) (record kept { tick = tick }) (record (aged_world n w) { tick = (aged_world n w).tick + 1 })
jumped floor n tick kept w s quiet next =
    let within : kept.passed ≤ kept.tick = s.passed in
    let sum : (kept.tick - kept.passed) + n ≡ (kept.tick + n) - kept.passed = omega arith in
    let tidy : IsTidy (aged_world n w) = aged_tidy n w s.tidy in
    record {
      tick = ap (λ t. t + n + 1) s.tick ∙ next;
      drawn = s.drawn;
      up_flow = s.up_flow;
      down_flow = s.down_flow;
      passed = omega arith;
      from = s.from;
      vehicle = subst (λ m. VehicleLags m kept.vehicle (vehicle.aged n w.vehicle)) sum (lags_on (kept.tick - kept.passed) n kept.vehicle w.vehicle s.vehicle quiet.ends.0);
      calls = calls_on floor kept.tick n kept.calls w.calls s.calls quiet.ends.1;
      tidy =
          record {
            numbers = tidy.numbers;
            below = tidy.below;
            legs = tidy.legs;
            frames = in_time_more (w.tick + n) (w.tick + n + 1) (map (aged_call n) w.calls) (omega arith) tidy.frames;
          };
    }

still_same : (m : ℕ) (kept : Ivs) (v : Vehicle) → VehicleLags m kept v → vehicle.aged 0 v ≡ v
still_same m kept v h =
    let e : m + 0 ≡ m = omega arith in
    ap (vehicle.aged 0) h.aged ∙ vehicle_again m 0 h.was ∙ ap (λ k. vehicle.aged k h.was) e ∙ sym h.aged

pub units_jump : (floor : LeastPassed) (n : ℕ) (kept : kept_channel.Channel) (w : World) → StandsAt kept.tick floor (λ c. kept.tick) kept w → QuietFor n w → units (n + 1) w ≡ unit (aged_world n w)
units_jump floor n kept w s quiet =
    units_behind n 1 w s.tidy (still_same (kept.tick - kept.passed) kept.vehicle w.vehicle s.vehicle) quiet ∙ units_one (aged_world n w)

-- quiet ticks up to one at which nothing happens either
pub quiet_end : (floor : LeastPassed) (n tick : ℕ) (kept : kept_channel.Channel) (w : World) → StandsAt kept.tick floor (λ c. kept.tick) kept w → QuietFor n w → kept.tick + n ≡ tick → (units n w ≡ quiet_step (aged_world n w)) × StandsAt tick floor (λ c. tick) (record kept { tick = tick }) (aged_world n w)
quiet_end floor n tick kept w s quiet e =
    let within : kept.passed ≤ kept.tick = s.passed in
    let sum : (kept.tick - kept.passed) + n ≡ tick - kept.passed = omega arith in (
      jump n w s.tidy (still_same (kept.tick - kept.passed) kept.vehicle w.vehicle s.vehicle) quiet,
      record {
        tick = ap (λ t. t + n) s.tick ∙ e;
        drawn = s.drawn;
        up_flow = s.up_flow;
        down_flow = s.down_flow;
        passed = omega arith;
        from = s.from;
        vehicle = subst (λ m. VehicleLags m kept.vehicle (vehicle.aged n w.vehicle)) sum (lags_on (kept.tick - kept.passed) n kept.vehicle w.vehicle s.vehicle quiet.ends.0);
        calls = subst (λ t. CallsLag floor (λ c. t) kept.calls (map (aged_call n) w.calls)) e (calls_on floor kept.tick n kept.calls w.calls s.calls quiet.ends.1);
        tidy = aged_tidy n w s.tidy;
      },
    )

-- Nothing happens in no tick.

calls_rest : (floor : LeastPassed) (t : ℕ) (xs : List kept_call.Call) (ks : List Call) → CallsLag floor (λ c. t) xs ks → AllByRecursion (CallRests 0) ks
calls_rest floor t [] [] h = tt
calls_rest floor t [] (k ∷ ks) h = absurd h
calls_rest floor t (x ∷ xs) [] h = absurd h
calls_rest floor t (x ∷ xs) (k ∷ ks) h = (seat x.session k.session h.0.session, calls_rest floor t xs ks h.1)
  where
    seat : (a : Option Session) (b : Option Point) → SeatLags (t - x.passed) a b → IfSome b (SessionRests 0)
    seat None None h = tt
    seat None (Some s) h = absurd h
    seat (Some q) None h = absurd h
    seat (Some q) (Some s) h = record { due = due_later s; live = h.live }

this_or_later : (a b : ℕ) → (a ≤ b) ⊎ (b + 0 < a)
this_or_later a b = at (nat_lt b a) refl
  where
    at : (x : Bool) → nat_lt b a ≡ x → (a ≤ b) ⊎ (b + 0 < a)
    at true e = let low : b < a = ltb-true b a e in inr (omega arith)
    at false e = let high : a ≤ b = ltb-false b a e in inl high

frames_rest : (flow tick : ℕ) (xs : List Sent) → FramesRest 0 flow tick xs
frames_rest zero tick xs = tt
frames_rest (suc d) tick [] = tt
frames_rest (suc d) tick (x ∷ xs) = (this_or_later (x.tick + suc d) tick, frames_rest (suc d) tick xs)

all_frames : (sent : Call → List Sent) (flow tick : ℕ) (ks : List Call) → AllByRecursion (λ k. FramesRest 0 flow tick (sent k)) ks
all_frames sent flow tick [] = tt
all_frames sent flow tick (k ∷ ks) = (frames_rest flow tick (sent k), all_frames sent flow tick ks)

quiet_none : (floor : LeastPassed) (t : ℕ) (kept : kept_channel.Channel) (w : World) → StandsAt t floor (λ c. t) kept w → QuietFor 0 w
quiet_none floor t kept w s =
    record {
      ends = (vehicle_due_later w.vehicle, calls_rest floor t kept.calls w.calls s.calls);
      up = all_frames (λ k. k.up) w.up_flow w.tick w.calls;
      down = all_frames (λ k. k.down) w.down_flow w.tick w.calls;
    }

-- up to the next moment it is quiet
pub moment_quiet : (floor : LeastPassed) (t next_due : ℕ) (kept : kept_channel.Channel) (w : World) → StandsAt t floor (λ c. t) kept w → ((n : ℕ) → t + n < next_due → QuietFor n w) → (n : ℕ) × (t + n + 1 ≡ max next_due (t + 1)) × QuietFor n w
moment_quiet floor t next_due kept w s quiet = at (nat_lt t next_due) refl
  where
    at : (b : Bool) → nat_lt t next_due ≡ b → (n : ℕ) × (t + n + 1 ≡ max next_due (t + 1)) × QuietFor n w
    at true e = let low : t < next_due = ltb-true t next_due e in (next_due - (t + 1), omega arith, quiet (next_due - (t + 1)) (omega arith))
    at false e = let high : next_due ≤ t = ltb-false t next_due e in (0, omega arith, quiet_none floor t kept w s)

-- The unit ticks of the ends, where none is due.

session_next : (n : ℕ) (o : Option Point) → IfSome o (SessionRests (n + 1)) → IfSome (option_map (point.aged n) o) (SessionRests 1)
session_next n None h = tt
session_next n (Some s) h = record { due = point_later n 1 s h.due; live = point_live n s h.live }

sessions_next : (n : ℕ) (ks : List Call) → AllByRecursion (CallRests (n + 1)) ks → AllByRecursion (CallRests 1) (map (aged_call n) ks)
sessions_next n [] h = tt
sessions_next n (k ∷ ks) h = (session_next n k.session h.0, sessions_next n ks h.1)

-- who rests in one tick more rests in the tick behind the others
pub ends_next : (n : ℕ) (w : World) → EndsRest (n + 1) w → EndsRest 1 (record (aged_world n w) { tick = (aged_world n w).tick + 1 })
ends_next n w h = (vehicle_later n 1 w.vehicle h.0, sessions_next n w.calls h.1)

aged_frames : (n t : ℕ) (ks : List Call) → AllByRecursion (CallInTime t) ks → AllByRecursion (CallInTime t) (map (aged_call n) ks)
aged_frames n t [] h = tt
aged_frames n t (k ∷ ks) h = (record { up = h.0.up; down = h.0.down }, aged_frames n t ks h.1)

quiet_ends : (w : World) → IsTidy w → EndsRest 1 w → and_then (vehicle_passes w) sessions_pass ≡ quiet_step (record w { vehicle = vehicle.aged 1 w.vehicle; calls = map (aged_call 1) w.calls })
quiet_ends w tidy rests =
    let passed : World = record w { vehicle = vehicle.aged 1 w.vehicle } in
    let legs : AllByRecursion (HasLeg (vehicle_call passed.vehicle)) w.calls = subst (λ o. AllByRecursion (HasLeg o) w.calls) (sym (call_stays 1 w.vehicle)) tidy.legs in
    quiet_then (vehicle_passes w) sessions_pass passed (record passed { calls = map (aged_call 1) w.calls })
    (quiet_vehicle w rests.0 tidy.legs) (quiet_sessions passed tidy.numbers legs rests.1)

pub ends_stand : (floor : LeastPassed) (before : ℕ) (kept : kept_channel.Channel) (w : World) → StandsAt before floor (λ c. before) kept w → before + 1 ≡ kept.tick → EndsRest 1 w → ((and_then (vehicle_passes w) sessions_pass).entries ≡ []) × StandsAt kept.tick floor (λ c. kept.tick) kept (and_then (vehicle_passes w) sessions_pass).world
ends_stand floor before kept w s next rests =
    let within : kept.passed ≤ before = s.passed in
    let sum : (before - kept.passed) + 1 ≡ kept.tick - kept.passed = omega arith in
    let tidy : IsTidy (aged_world 1 w) = aged_tidy 1 w s.tidy in
    subst (λ (z : Step). (z.entries ≡ []) × StandsAt kept.tick floor (λ c. kept.tick) kept z.world) (sym (quiet_ends w s.tidy rests)) (
      refl,
      record {
        tick = s.tick;
        drawn = s.drawn;
        up_flow = s.up_flow;
        down_flow = s.down_flow;
        passed = omega arith;
        from = s.from;
        vehicle = subst (λ m. VehicleLags m kept.vehicle (vehicle.aged 1 w.vehicle)) sum (lags_on (before - kept.passed) 1 kept.vehicle w.vehicle s.vehicle rests.0);
        calls = subst (λ t. CallsLag floor (λ c. t) kept.calls (map (aged_call 1) w.calls)) next (calls_on floor before 1 kept.calls w.calls s.calls rests.1);
        tidy =
            record {
              numbers = tidy.numbers;
              below = tidy.below;
              legs = tidy.legs;
              frames = aged_frames 1 w.tick w.calls s.tidy.frames;
            };
      },
    )
