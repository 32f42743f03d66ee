use Rattle.std.proofs.Common.{◌≡◌, ◌-◌, ◌≤◌, ◌+◌}
use Rattle.call_floor.specs.Floor.{Floor, units}
use Rattle.call_floor.specs.FloorKept.{IsKept}
use Rattle.call_floor.specs.FloorStands.{AreLive}
use Rattle.call_floor.specs.Tagged.{heard, FloorGrew}
use Rattle.call_floor.specs.inner.FloorAt.{FloorIs, Resting, passes_of}
use Rattle.call_floor.proofs.floor.Floor.elapses.Given as goal

-- so many ticks have elapsed
abbrev pub invariant-loop-self : goal.invariant-loop-self
invariant-loop-self g l =
    record {
      began : l.initial.self.tick ≤ l.self.tick;
      within : l.self.tick ≤ l.end;
      same : l.self ≡ record (l.initial.self) { tick = l.self.tick; seats = l.self.seats; room = l.self.room };
      stood : g.H.FloorListener.faults (heard l.to) ≡ g.H.FloorListener.faults (heard l.initial.to);
      came : (w : Floor) → FloorIs (Resting l.initial.self.tick) l.initial.self.seats.list.items w → w.tick ≡ l.initial.self.tick → IsKept w → AreLive w.stands 1 w.drawn l.initial.self.live.items →
          FloorGrew g.H.FloorListener.grew l.initial.to l.to (units (l.self.tick - l.initial.self.tick) w).entries
          × FloorIs (Resting l.initial.self.tick) l.self.seats.list.items (units (l.self.tick - l.initial.self.tick) w).floor;
      passes : (w : Floor) → FloorIs (Resting l.initial.self.tick) l.initial.self.seats.list.items w → w.tick ≡ l.initial.self.tick → IsKept w → AreLive w.stands 1 w.drawn l.initial.self.live.items →
          l.moments ≤ l.initial.moments + passes_of (units (l.self.tick - l.initial.self.tick) w);
    }

abbrev pub decreases-loop-self : goal.decreases-loop-self
decreases-loop-self g l = l.end - l.self.tick
