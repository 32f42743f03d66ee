use Rattle.std.proofs.Common.{◌≡◌, length}
use Rattle.call_floor.specs.inner.Changes.{IsWoken}
use Rattle.call_floor.proofs.Paired.{Changed}
use Rattle.call_floor.proofs.seat.Seats.wake.Given as goal

-- the first ones so far
abbrev pub invariant-loop-place : goal.invariant-loop-place
invariant-loop-place l =
    record {
      changed : Changed (IsWoken l.tick) l.place l.initial.self.list.items l.self.list.items;
      count : length l.self.list.items ≡ length l.initial.self.list.items;
    }
