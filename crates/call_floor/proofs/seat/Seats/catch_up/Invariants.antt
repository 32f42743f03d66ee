use Rattle.std.proofs.Common.{◌≡◌, ◌+◌, ◌^◌, ◌<◌, ◌≤◌, ℕ, length, take}
use Rattle.call_floor.specs.Floor.{Floor}
use Rattle.call_floor.specs.FloorLines.{ends}
use Rattle.call_floor.specs.inner.FloorAt.{FloorIs, Resting}
use Rattle.call_floor.proofs.Caught.{IsCaught}
use Rattle.call_floor.proofs.Paired.{Changed}
use Rattle.call_floor.proofs.seat.Seats.catch_up.Given as goal

-- the first ones so far were passed
abbrev pub invariant-loop-place : goal.invariant-loop-place
invariant-loop-place g l =
    record {
      changed : Changed (IsCaught l.tick) l.place l.initial.self.list.items l.self.list.items;
      count : length l.self.list.items ≡ length l.initial.self.list.items;
      passes : (floor : ℕ) (w : Floor) → FloorIs (Resting floor) l.initial.self.list.items w → w.tick ≡ l.tick → l.tick < floor + 2 ^ 32 → l.moments ≤ l.initial.moments + ends (take l.place w.stands);
    }
