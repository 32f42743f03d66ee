use Rattle.std.proofs.Common.{◌≡◌, ◌≤◌, [], length}
use Rattle.call_floor.specs.Floor.{Floor}
use Rattle.call_floor.specs.Tagged.{heard, FloorGrew}
use Rattle.call_floor.specs.inner.FloorAt.{FloorNow}
use Rattle.call_floor.proofs.FlowSet.{IsFlowed}
use Rattle.call_floor.proofs.Paired.{Changed}
use Rattle.call_floor.proofs.floor.Floor.set_flow.Given as goal

-- the vehicles so far have it
abbrev pub invariant-loop-place : goal.invariant-loop-place
invariant-loop-place g l =
    record {
      same : l.self ≡ record (l.initial.self) { seats = l.self.seats };
      changed : Changed (IsFlowed l.event) l.place l.initial.self.seats.list.items l.self.seats.list.items;
      count : length l.self.seats.list.items ≡ length l.initial.self.seats.list.items;
      stood : g.H.FloorListener.faults (heard l.to) ≡ g.H.FloorListener.faults (heard l.initial.to);
      told : (w : Floor) → FloorNow l.initial.self w → FloorGrew g.H.FloorListener.grew l.initial.to l.to [];
      passes : (w : Floor) → FloorNow l.initial.self w → l.moments ≤ l.initial.moments;
    }
