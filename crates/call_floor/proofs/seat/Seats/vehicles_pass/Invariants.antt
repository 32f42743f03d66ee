use Rattle.std.proofs.Common.{◌≡◌, ◌+◌, ◌^◌, ◌<◌, ◌≤◌, ℕ, Bool, take, drop}
use Rattle.channel_sim.specs.Lag.{clock_of}
use Rattle.call_floor.specs.Floor.{Floor, vehicle_turns}
use Rattle.call_floor.specs.Tagged.{heard, FloorGrew}
use Rattle.call_floor.specs.inner.FloorAt.{Amid, FloorIs, numbers_of, passes_of, plays_if}
use Rattle.call_floor.proofs.seat.Seats.vehicles_pass.Given as goal

-- the vehicles so far had their unit tick
abbrev pub invariant-loop-place : goal.invariant-loop-place
invariant-loop-place g l =
    record {
      stood : g.H.FloorListener.faults (heard l.to) ≡ g.H.FloorListener.faults (heard l.initial.to);
      came : (acts : ℕ → Bool) (floor before : ℕ) (w : Floor) → FloorIs (Amid acts l.tick floor (λ v. before) (λ v c. before)) l.initial.self.list.items w → w.tick ≡ l.tick → before + 1 ≡ l.tick →
          FloorGrew g.H.FloorListener.grew l.initial.to l.to (plays_if acts (take l.place (vehicle_turns w.stands)) w).entries
          × FloorIs (Amid acts l.tick floor (clock_of before (drop l.place (numbers_of w.stands))) (λ v c. before)) l.self.list.items (plays_if acts (take l.place (vehicle_turns w.stands)) w).floor;
      passes : (acts : ℕ → Bool) (floor before : ℕ) (w : Floor) → FloorIs (Amid acts l.tick floor (λ v. before) (λ v c. before)) l.initial.self.list.items w → w.tick ≡ l.tick → before + 1 ≡ l.tick → l.tick < floor + 2 ^ 32 →
          l.moments ≤ l.initial.moments + passes_of (plays_if acts (take l.place (vehicle_turns w.stands)) w);
    }
