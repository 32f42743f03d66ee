use Rattle.std.proofs.Common.{◌≡◌, ◌≤◌, ◌++◌, length, take, drop}
use Rattle.call_floor.specs.Floor.{Floor}
use Rattle.call_floor.specs.FloorStands.{AreLive}
use Rattle.call_floor.specs.inner.FloorAt.{FloorIs, Now}
use Rattle.call_floor.proofs.live.prune.Given as goal

-- those so far were looked at
abbrev pub invariant-loop-i : goal.invariant-loop-i
invariant-loop-i l =
    record {
      low : l.kept ≤ l.i;
      count : length l.live.items ≡ length l.initial.live.items;
      are : (w : Floor) → FloorIs Now l.seats.list.items w → AreLive w.stands 1 w.drawn l.initial.live.items →
          AreLive w.stands 1 w.drawn (take l.kept l.live.items ++ drop l.i l.live.items);
    }
