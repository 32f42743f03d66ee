-- What a line of the floor comes to: how many numbers it draws at most, and that it is one of its three forms.
use Rattle.std.proofs.Common.{◌≡◌, ℕ, Bool, true, false, List, [], ◌∷◌, ◌++◌, ◌+◌, ◌≤◌, Option, Some, None, Result, Ok, Err, OnOk, length, nat_lt, if◌then◌else◌, refl, ap, sym, ◌∙◌, subst, arith, length-append}
use Rattle.trace_model.specs.declared.event.Event.TheVariants as event
use Rattle.channel_sim.specs.Lines.{step}
use Rattle.channel_sim.specs.World.{World, Step}
use Rattle.call_floor.specs.declared.entry.FloorEntry.{FloorEntry}
use Rattle.call_floor.specs.declared.event.FloorEvent.{FloorEvent}
use Rattle.call_floor.specs.declared.event.FloorEvent.TheVariants as floor
use Rattle.call_floor.specs.declared.floor.Floor as kept_floor
use Rattle.call_floor.specs.Floor.{Floor, Stand, drawn_by, own, stand_of, turn, turn_in, units}
use Rattle.call_floor.specs.FloorKept.{IsKept}
use Rattle.call_floor.specs.FloorStands.{AreLive}
use Rattle.call_floor.specs.FloorEvents.{call_event, vehicle_event}
use Rattle.call_floor.specs.FloorLines.{drawn_for, floor_step, in_call}
use Rattle.call_floor.specs.inner.FloorAt.{Came, CameNow, FloorIs, FloorNow, Now, flow_step}
use Rattle.call_floor.proofs.Elapsed.{live_units, units_drawn}
use Rattle.call_floor.proofs.Elapsing.{units_tick}

drawn_few : (v last : ℕ) (ds : List ℕ) → length (drawn_by v last ds) ≤ length ds + 1
drawn_few v last ds = by (nat_lt (length ds) last)
  where
    by : (b : Bool) → length (if b then ds ++ v ∷ [] else ds) ≤ length ds + 1
    by true = let sum : length (ds ++ v ∷ []) ≡ length ds + 1 = length-append ds (v ∷ []) in omega (arith, sum)
    by false = omega arith

turn_few : (v : ℕ) (act : World → Step) (w : Floor) → length (turn v act w).floor.drawn ≤ length w.drawn + 1
turn_few v act w = by (stand_of v w.stands)
  where
    by : (o : Option Stand) → length (turn_in v act w o).floor.drawn ≤ length w.drawn + 1
    by None = omega arith
    by (Some s) = drawn_few v (act (own w s)).world.drawn w.drawn

-- a line draws at most one number
pub step_few : (w : Floor) (e : FloorEvent) → length (floor_step w e).floor.drawn ≤ length w.drawn + 1
step_few w (floor.Vehicle v l) = turn_few v (λ u. step u (vehicle_event l)) w
step_few w (floor.Call c l) = by (drawn_for c w.drawn)
  where
    by : (o : Option ℕ) → length (in_call (call_event c l) w o).floor.drawn ≤ length w.drawn + 1
    by None = omega arith
    by (Some v) = turn_few v (λ u. step u (call_event c l)) w
step_few w (floor.Flow true delay) = omega arith
step_few w (floor.Flow false delay) = omega arith
step_few w (floor.Tick n) = let same = ap length (units_drawn n w) in omega (arith, same)

pub flow_is : (up : Bool) (delay : ℕ) (w : Floor) → flow_step (event.Flow up delay) w ≡ floor_step w (floor.Flow up delay)
flow_is true delay w = refl
flow_is false delay w = refl

-- elapsed ticks of all that is kept
ticked_now : (n : ℕ) (w : Floor) (old new : kept_floor.Floor) → FloorNow old w → IsKept w → new ≡ record old { tick = new.tick; seats = new.seats; room = new.room } → new.tick ≡ old.tick + n → FloorIs Now new.seats.list.items (units n w).floor → FloorNow new (units n w).floor
ticked_now n w old new h kept same tick are =
    let reached = units_tick n w in
    record {
      tick = omega (arith, reached, h.tick, tick);
      are = are;
      drawn = units_drawn n w ∙ h.drawn ∙ sym (ap (λ (z : kept_floor.Floor). z.drawn.items) same);
      last = ap length (units_drawn n w) ∙ h.last ∙ sym (ap (λ (z : kept_floor.Floor). z.last) same);
      live =
          subst (AreLive (units n w).floor.stands 1 (units n w).floor.drawn) (sym (ap (λ (z : kept_floor.Floor). z.live.items) same))
          (live_units n w old.live.items kept h.live);
    }

pub ticked : {Done Fault : Type 0} (Grew Partly : List FloorEntry → Type 0) (result : Result Done Fault) (n : ℕ) (w : Floor) (old new : kept_floor.Floor) → FloorNow old w → IsKept w → new ≡ record old { tick = new.tick; seats = new.seats; room = new.room } → OnOk result (new.tick ≡ old.tick + n) → Came Grew Partly result Now new.seats.list.items (units n w) → CameNow Grew Partly result new (units n w)
ticked Grew Partly (Ok d) n w old new h kept same tick came = (came.0, ticked_now n w old new h kept same tick came.1)
ticked Grew Partly (Err e) n w old new h kept same tick came = came
