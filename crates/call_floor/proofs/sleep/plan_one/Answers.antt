use Rattle.std.proofs.Common.{refl, arith}
use Rattle.channel_sim.specs.Lag.{level}
use Rattle.call_floor.proofs.sleep.plan_one.Goals as goal

pub returns-then-seat-tick : goal.returns-then-seat-tick
returns-then-seat-tick c =
    record {
      number = refl;
      world = refl;
      sleeps = λ later. let now = c.if-seat-tick.true in absurd (omega (arith, now, later));
      acts = λ now floor n u stands before. c.next_tick-seat.ensures.quiet (level floor floor) n u stands before;
    }
