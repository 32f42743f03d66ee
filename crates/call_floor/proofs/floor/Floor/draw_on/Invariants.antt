use Rattle.std.proofs.Common.{◌≡◌, ◌++◌, map, take, drop}
use Rattle.call_floor.specs.inner.FloorAt.{seat_drawn}
use Rattle.call_floor.proofs.floor.Floor.draw_on.Given as goal

-- the vehicles so far have it
abbrev pub invariant-loop-place : goal.invariant-loop-place
invariant-loop-place l =
    record {
      same : l.self ≡ record (l.initial.self) { seats = l.self.seats };
      items : l.self.seats.list.items ≡ map (seat_drawn l.last) (take l.place l.initial.self.seats.list.items) ++ drop l.place l.initial.self.seats.list.items;
    }
