-- One part of a step, and then another: what was told by both, and what stands behind them.
use Rattle.std.proofs.Common.{◌≡◌, ℕ, Bool, List, [], ◌++◌, Result, Ok, Err, refl, ◌∙◌}
use Rattle.call_floor.specs.declared.entry.FloorEntry.{FloorEntry}
use Rattle.call_floor.specs.declared.listener.Tagged.{Tagged}
use Rattle.call_floor.specs.declared.live.Live as kept_live
use Rattle.call_floor.specs.declared.seat.Seat as kept_seat
use Rattle.call_floor.specs.Floor.{Floor, FloorStep, and_then, calls_of, session_turns, vehicle_turns}
use Rattle.call_floor.specs.Tagged.{heard, FloorGrew}
use Rattle.call_floor.specs.inner.FloorAt.{Came, Relation, ends_if, flow_turns, flows_if, vehicles_if}
use Rattle.call_floor.specs.inner.Placed.{IsReady}
use Rattle.call_floor.proofs.LiveCalls.{ready_sessions, ready_vehicles}
use Rattle.call_floor.proofs.LoopFronts.{tick_if}

module _ {H : Type 0} (grew partly : H → H → List FloorEntry → Type 0) where
  pub came_behind : {Done Fault : Type 0} → ((a b c : H) (s t : List FloorEntry) → grew a b s → grew b c t → grew a c (s ++ t)) → ((a b c : H) (s t : List FloorEntry) → grew a b s → partly b c t → partly a c (s ++ t)) → (Q : Relation) (ys : List kept_seat.Seat) (a b c : Tagged H) (s : FloorStep) (f : Floor → FloorStep) (result : Result Done Fault) → FloorGrew grew a b s.entries → Came (FloorGrew grew b c) (FloorGrew partly b c) result Q ys (f s.floor) → Came (FloorGrew grew a c) (FloorGrew partly a c) result Q ys (and_then s f)
  came_behind twice then_partly Q ys a b c s f (Ok d) first second =
      ((second.0.0 ∙ first.0, twice (heard a) (heard b) (heard c) s.entries (f s.floor).entries first.1 second.0.1), second.1)
  came_behind twice then_partly Q ys a b c s f (Err e) first second =
      (second.0 ∙ first.0, then_partly (heard a) (heard b) (heard c) s.entries (f s.floor).entries first.1 second.1)

  -- the first part failed
  pub cut_before : ((a b : H) (s t : List FloorEntry) → partly a b s → partly a b (s ++ t)) → (a b : Tagged H) (s : FloorStep) (f : Floor → FloorStep) → FloorGrew partly a b s.entries → FloorGrew partly a b (and_then s f).entries
  cut_before longer a b s f part = (part.0, longer (heard a) (heard b) s.entries (f s.floor).entries part.1)

  -- it failed before anything was told
  pub untold : ((a : H) → grew a a []) → ((a b : H) (s : List FloorEntry) → grew a b s → partly a b s) → ((a b : H) (s t : List FloorEntry) → partly a b s → partly a b (s ++ t)) → (a : Tagged H) (t : List FloorEntry) → FloorGrew partly a a t
  untold unchanged whole longer a t = (refl, longer (heard a) (heard a) [] t (whole (heard a) (heard a) [] (unchanged (heard a))))

-- The tick and the live calls behind the phases.

pub ends_tick : (acts : ℕ → Bool) (w : Floor) → (ends_if acts w).floor.tick ≡ w.tick
ends_tick acts w =
    let u : Floor = (vehicles_if acts w).floor in
    tick_if acts (session_turns (calls_of u)) u ∙ tick_if acts (vehicle_turns w.stands) w

pub flows_tick : (acts : ℕ → Bool) (up : Bool) (w : Floor) → (flows_if acts up w).floor.tick ≡ w.tick
flows_tick acts up w = tick_if acts (flow_turns up w) w

pub ends_ready : (acts : ℕ → Bool) (w : Floor) (ls : List kept_live.Live) → IsReady w ls → IsReady (ends_if acts w).floor ls
ends_ready acts w ls ready = ready_sessions acts (vehicles_if acts w).floor ls (ready_vehicles acts w ls ready)
