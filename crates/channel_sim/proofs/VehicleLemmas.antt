-- A vehicle that lags, and a vehicle that did something.
use Rattle.std.proofs.Common.{◌≡◌, ℕ, ◌-◌, ◌<◌, ◌≤◌, ◌||◌, Bool, true, false, Option, Some, None, IfSome, List, [], ◌∷◌, refl, ap, sym, ◌∙◌, subst, arith, not}
use lib.Dec.{eqb}
use Rattle.std.specs.List.{AllByRecursion}
use Rattle.std.specs.Option.{is_some, option_eq}
use Rattle.ivs_machine.specs.declared.vehicle.Ivs.{Ivs}
use Rattle.ivs_machine.specs.IvsStands.{IvsStandsFor}
use Rattle.ivs_machine.specs.Vehicle.{Vehicle, vehicle_call}
use Rattle.ivs_machine.specs.VehicleKept.{IsKept}
use Rattle.ivs_machine.specs.VehicleRows.{aged, due_of, deadlines}
use Rattle.ivs_machine.proofs.Ticks.{aged_none}
use Rattle.channel_sim.specs.declared.channel.Channel as kept_channel
use Rattle.channel_sim.specs.World.{Call, World}
use Rattle.trace_fit.specs.Seats.{is_number}
use Rattle.channel_sim.specs.inner.Acts.{OtherHasLeg, IsReady}
use Rattle.channel_sim.specs.Lag.{LeastPassed, VehicleLags, StandsAt}
use Rattle.channel_sim.specs.Tidy.{HasLeg}
use Rattle.channel_sim.proofs.Jump.{call_stays}
use Rattle.channel_sim.proofs.SeatLemmas.{soonest_later}

pub vehicle_due_later : (v : Vehicle) → IfSome (due_of v) (λ due. 0 < due)
vehicle_due_later v = soonest_later (deadlines (aged 1 v) (aged 1 v).phase)

pub vehicle_none : (v : Vehicle) → IsKept v → aged 0 v ≡ v
vehicle_none v h = aged_none v h

pub vehicle_lag_none : (n : ℕ) (kept : Ivs) (v : Vehicle) → n ≡ 0 → VehicleLags n kept v → IvsStandsFor kept v
vehicle_lag_none n kept v e h =
    subst (IvsStandsFor kept) (sym (h.aged ∙ ap (λ m. aged m h.was) e ∙ vehicle_none h.was h.stands.kept)) h.stands

pub vehicle_stands_now : (n : ℕ) (kept : Ivs) (v : Vehicle) → n ≡ 0 → IvsStandsFor kept v → VehicleLags n kept v
vehicle_stands_now n kept v e h =
    record {
      was = v;
      stands = h;
      aged = sym (ap (λ m. aged m v) e ∙ vehicle_none v h.kept);
      quiet = subst (λ m. IfSome (due_of v) (λ due. m < due)) (sym e) (vehicle_due_later v);
    }

or_true : (a : Bool) → (a || true) ≡ true
or_true true = refl
or_true false = refl

-- whatever becomes of the vehicle's leg, each call but the one that it was in has a leg
pub legs_others : (was now : Option ℕ) (ks : List Call) → AllByRecursion (HasLeg was) ks → AllByRecursion (OtherHasLeg now was) ks
legs_others was now [] h = tt
legs_others was now (k ∷ ks) h = (one, legs_others was now ks h.1)
  where
    one : OtherHasLeg now was k
    one other =
        let session : is_some k.session ≡ true = sym (ap (λ b. b || is_some k.session) other) ∙ h.0 in
        ap (λ z. is_number k.number now || z) session ∙ or_true (is_number k.number now)

-- a vehicle that doesn't lag did this
pub vehicle_ready : (ahead : ℕ) (floor : LeastPassed) (clock : ℕ → ℕ) (kept : kept_channel.Channel) (w : World) (new : Ivs) (v : Vehicle) (call : Option ℕ)
    → StandsAt ahead floor clock kept w
    → ahead ≡ kept.passed
    → IvsStandsFor new v
    → call ≡ vehicle_call w.vehicle
    → IsReady ahead floor clock (record kept { vehicle = new }) w v w.calls call
vehicle_ready ahead floor clock kept w new v call s caught stands e =
    record {
      tick = s.tick;
      drawn = s.drawn;
      up_flow = s.up_flow;
      down_flow = s.down_flow;
      passed = s.passed;
      from = s.from;
      vehicle = vehicle_stands_now (ahead - kept.passed) new v (omega arith) stands;
      calls = s.calls;
      numbers = s.tidy.numbers;
      below = s.tidy.below;
      others = subst (λ c. AllByRecursion (OtherHasLeg (vehicle_call v) c) w.calls) (sym e) (legs_others (vehicle_call w.vehicle) (vehicle_call v) w.calls s.tidy.legs);
      frames = s.tidy.frames;
    }

-- a vehicle that lagged was passed up to the tick, and did this
pub vehicle_reached : (ahead : ℕ) (floor : LeastPassed) (clock : ℕ → ℕ) (kept : kept_channel.Channel) (w : World) (new : Ivs) (v : Vehicle) (call : Option ℕ)
    → StandsAt ahead floor clock kept w
    → ahead ≡ kept.tick
    → IvsStandsFor new v
    → call ≡ vehicle_call w.vehicle
    → IsReady ahead floor clock (record kept { vehicle = new; passed = kept.tick }) w v w.calls call
vehicle_reached ahead floor clock kept w new v call s now stands e =
    let low : floor.waking ≤ kept.passed = s.from in
    let high : kept.passed ≤ ahead = s.passed in
    record {
      tick = s.tick;
      drawn = s.drawn;
      up_flow = s.up_flow;
      down_flow = s.down_flow;
      passed = omega (arith, now);
      from = omega (arith, low, high, now);
      vehicle = vehicle_stands_now (ahead - kept.tick) new v (omega (arith, now)) stands;
      calls = s.calls;
      numbers = s.tidy.numbers;
      below = s.tidy.below;
      others = subst (λ c. AllByRecursion (OtherHasLeg (vehicle_call v) c) w.calls) (sym e) (legs_others (vehicle_call w.vehicle) (vehicle_call v) w.calls s.tidy.legs);
      frames = s.tidy.frames;
    }

pub vehicle_is : (ahead : ℕ) (floor : LeastPassed) (clock : ℕ → ℕ) (kept : kept_channel.Channel) (w : World) → StandsAt ahead floor clock kept w → ahead ≡ kept.passed → IvsStandsFor kept.vehicle w.vehicle
vehicle_is ahead floor clock kept w s caught = vehicle_lag_none (ahead - kept.passed) kept.vehicle w.vehicle (omega arith) s.vehicle

-- the call of a vehicle that lags is that of the model's
pub lagging_call : (n : ℕ) (kept : Ivs) (v : Vehicle) (call : Option ℕ) → ((u : Vehicle) → IvsStandsFor kept u → call ≡ vehicle_call u) → VehicleLags n kept v → call ≡ vehicle_call v
lagging_call n kept v call is h = is h.was h.stands ∙ sym (call_stays n h.was) ∙ ap vehicle_call (sym h.aged)

-- whether the vehicle is in a call, as the code asks it
pub same_number : (o : Option ℕ) (c : ℕ) → option_eq eqb o (Some c) ≡ is_number c o
same_number None c = refl
same_number (Some d) c = refl

pub not_is_true : (b : Bool) → not b ≡ true → b ≡ false
not_is_true true e = cc
not_is_true false e = refl

pub not_is_false : (b : Bool) → not b ≡ false → b ≡ true
not_is_false true e = refl
not_is_false false e = cc

-- the vehicle isn't in this call, or is
pub not_in_call : (n c : ℕ) (kept : Ivs) (v : Vehicle) (call : Option ℕ) → ((u : Vehicle) → IvsStandsFor kept u → call ≡ vehicle_call u) → VehicleLags n kept v → true ≡ not (option_eq eqb call (Some c)) → is_number c (vehicle_call v) ≡ false
not_in_call n c kept v call is lags e =
    ap (is_number c) (sym (lagging_call n kept v call is lags)) ∙ sym (same_number call c) ∙ not_is_true (option_eq eqb call (Some c)) (sym e)

pub in_call : (n c : ℕ) (kept : Ivs) (v : Vehicle) (call : Option ℕ) → ((u : Vehicle) → IvsStandsFor kept u → call ≡ vehicle_call u) → VehicleLags n kept v → false ≡ not (option_eq eqb call (Some c)) → is_number c (vehicle_call v) ≡ true
in_call n c kept v call is lags e =
    ap (is_number c) (sym (lagging_call n kept v call is lags)) ∙ sym (same_number call c) ∙ not_is_false (option_eq eqb call (Some c)) (sym e)

pub called : (n c : ℕ) (kept : Ivs) (v : Vehicle) (call : Option ℕ) → ((u : Vehicle) → IvsStandsFor kept u → call ≡ vehicle_call u) → VehicleLags n kept v → true ≡ option_eq eqb call (Some c) → is_number c (vehicle_call v) ≡ true
called n c kept v call is lags e = ap (is_number c) (sym (lagging_call n kept v call is lags)) ∙ sym (same_number call c) ∙ sym e

pub not_called : (n c : ℕ) (kept : Ivs) (v : Vehicle) (call : Option ℕ) → ((u : Vehicle) → IvsStandsFor kept u → call ≡ vehicle_call u) → VehicleLags n kept v → false ≡ option_eq eqb call (Some c) → is_number c (vehicle_call v) ≡ false
not_called n c kept v call is lags e = ap (is_number c) (sym (lagging_call n kept v call is lags)) ∙ sym (same_number call c) ∙ sym e
