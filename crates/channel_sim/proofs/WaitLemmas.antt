-- When the next thing happens.
use Rattle.std.proofs.Common.{◌≡◌, ℕ, zero, suc, ◌+◌, ◌-◌, ◌<◌, ◌≤◌, Option, Some, None, IfSome, List, [], ◌∷◌, drop, sym, subst, arith}
use Rattle.std.specs.List.{AllByRecursion}
use Rattle.ivs_machine.specs.IvsStands.{IvsStandsFor}
use Rattle.ivs_machine.specs.Vehicle.{Vehicle}
use Rattle.ivs_machine.specs.VehicleRows as vehicle
use Rattle.trace_model.specs.History.{Sent}
use Rattle.channel_sim.specs.declared.calls.call.Call as kept_call
use Rattle.channel_sim.specs.declared.channel.Channel as kept_channel
use Rattle.channel_sim.specs.World.{Call, World}
use Rattle.channel_sim.specs.Lag.{LeastPassed, CallsLag, StandsAt}
use Rattle.channel_sim.specs.Quiet.{CallRests, QuietFor, EndsRest, UpRests, DownRests}
use Rattle.channel_sim.specs.Tidy.{CallInTime}
use Rattle.channel_sim.specs.inner.Turns.{WaitsUntil}
use Rattle.channel_sim.proofs.EndJump.{vehicle_later}
use Rattle.channel_sim.proofs.WakeLemmas.{call_until}

waits_for : (m n passed next : ℕ) (o : Option ℕ) → IfSome o (λ d. next ≤ passed + d) → (passed + m) + n < next → IfSome o (λ d. m + n < d)
waits_for m n passed next None h low = tt
waits_for m n passed next (Some d) h low = omega arith

-- what is due at the vehicle is due later
pub vehicle_waits : (floor : LeastPassed) (n next : ℕ) (due : Option ℕ) (kept : kept_channel.Channel) (w : World) → StandsAt kept.tick floor (λ c. kept.tick) kept w → ((u : Vehicle) → IvsStandsFor kept.vehicle u → due ≡ vehicle.due_of u) → IfSome due (λ d. next ≤ kept.passed + d) → kept.tick + n < next → IfSome (vehicle.due_of w.vehicle) (λ d. n < d)
vehicle_waits floor n next due kept w s is within low =
    let h = s.vehicle in
    let passed : kept.passed ≤ kept.tick = s.passed in
    let m = kept.tick - kept.passed in
    let early : (kept.passed + (kept.tick - kept.passed)) + n < next = omega arith in
    let later = waits_for (kept.tick - kept.passed) n kept.passed next (vehicle.due_of h.was) (subst (λ o. IfSome o (λ d. next ≤ kept.passed + d)) (is h.was h.stands) within) early in
    subst (λ z. IfSome (vehicle.due_of z) (λ d. n < d)) (sym h.aged) (vehicle_later (kept.tick - kept.passed) n h.was later)

-- where all that is kept does nothing before a tick, all rests up to it
pub all_until : (floor : LeastPassed) (tick n until : ℕ) (xs : List kept_call.Call) (ks : List Call) → CallsLag floor (λ c. tick) xs ks → AllByRecursion (WaitsUntil until) xs → tick + n < until → AllByRecursion (CallRests n) ks
all_until floor tick n until [] [] h wait low = tt
all_until floor tick n until [] (k ∷ ks) h wait low = absurd h
all_until floor tick n until (x ∷ xs) [] h wait low = absurd h
all_until floor tick n until (x ∷ xs) (k ∷ ks) h wait low = (call_until floor tick n until x k h.0 wait.0 low, all_until floor tick n until xs ks h.1 wait.1 low)

-- what holds of the frames that are kept holds of those of the calls: up, and down
pub up_rests : (floor : LeastPassed) (clock : ℕ → ℕ) (P : List Sent → Type 0) (xs : List kept_call.Call) (ks : List Call) → CallsLag floor clock xs ks → AllByRecursion (λ x. P x.up) xs → AllByRecursion (λ k. P k.up) ks
up_rests floor clock P [] [] h all = tt
up_rests floor clock P [] (k ∷ ks) h all = absurd h
up_rests floor clock P (x ∷ xs) [] h all = absurd h
up_rests floor clock P (x ∷ xs) (k ∷ ks) h all = (subst P (sym h.0.up) all.0, up_rests floor clock P xs ks h.1 all.1)

pub down_rests : (floor : LeastPassed) (clock : ℕ → ℕ) (P : List Sent → Type 0) (xs : List kept_call.Call) (ks : List Call) → CallsLag floor clock xs ks → AllByRecursion (λ x. P x.down) xs → AllByRecursion (λ k. P k.down) ks
down_rests floor clock P [] [] h all = tt
down_rests floor clock P [] (k ∷ ks) h all = absurd h
down_rests floor clock P (x ∷ xs) [] h all = absurd h
down_rests floor clock P (x ∷ xs) (k ∷ ks) h all = (subst P (sym h.0.down) all.0, down_rests floor clock P xs ks h.1 all.1)

-- the first behind these is in time
pub call_in_time_at : (tick i : ℕ) (ks rest : List Call) (k : Call) → drop i ks ≡ k ∷ rest → AllByRecursion (CallInTime tick) ks → CallInTime tick k
call_in_time_at tick i [] rest k e h = none i e
  where
    none : (i : ℕ) → drop i [] ≡ k ∷ rest → CallInTime tick k
    none zero e = cc
    none (suc i) e = cc
call_in_time_at tick zero (x ∷ ks) rest k e h = let same : x ≡ k = cc in subst (CallInTime tick) same h.0
call_in_time_at tick (suc i) (x ∷ ks) rest k e h = call_in_time_at tick i ks rest k e h.1

-- up to the first of three ticks it is quiet
pub quiet_until : (n t first acts up down : ℕ) (w : World) → first ≤ acts → first ≤ up → first ≤ down
    → (t + n < acts → EndsRest n w)
    → (t + n < up → UpRests n w)
    → (t + n < down → DownRests n w)
    → t + n < first
    → QuietFor n w
quiet_until n t first acts up down w a b c rests no_up no_down low =
    record { ends = rests (omega arith); up = no_up (omega arith); down = no_down (omega arith) }
