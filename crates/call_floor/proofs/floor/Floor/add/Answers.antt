use Rattle.std.proofs.Common.{◌<◌, subst, arith}
use Rattle.call_floor.specs.Floor.{first_stand, floor_with, joined}
use Rattle.call_floor.specs.FloorStands.{SeatsStandFor}
use Rattle.call_floor.proofs.FloorRuns.{joins_kept}
use Rattle.call_floor.proofs.NowStands.{none_live}
use Rattle.call_floor.proofs.floor.Floor.add.Goals as goal

pub returns-clause-stands : goal.returns-clause-stands
returns-clause-stands c =
    λ stands h away.
    let low : 0 < c.args.number = omega (arith, c.number.ensures.low, c.number.ensures.value) in
    record {
      tick = h.tick;
      drawn = h.drawn;
      last = h.last;
      seats = subst (λ n. SeatsStandFor (floor_with (joined (first_stand n c.args.facts) stands)) c.join.new.seats.items (joined (first_stand n c.args.facts) stands)) c.number.ensures.value (c.in_ok-join.ensures stands h.seats);
      live = none_live stands (joined (first_stand c.args.number c.args.facts) stands) 1 c.args.self.live.items h.live;
      floor = joins_kept c.args.number c.args.facts stands low away h.floor;
    }
