use Rattle.std.proofs.Common.{◌≤◌, take}
use Rattle.std.specs.List.{AllByRecursion}
use Rattle.call_floor.proofs.seat.Seats.soonest.Given as goal

-- the least so far
abbrev pub invariant-loop-seat : goal.invariant-loop-seat
invariant-loop-seat l = record {
  most : l.least ≤ l.limit;
  least : AllByRecursion (λ x. l.least ≤ x.next) (take l.seat-index l.self.list.items);
}
