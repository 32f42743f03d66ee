use Rattle.std.proofs.Common.{refl}
use Rattle.channel_sim.specs.Lag.{level}
use Rattle.call_floor.proofs.sleep.ask_one.Goals as goal

pub returns : goal.returns
returns c =
    record {
      number = refl;
      world = refl;
      quiet = λ floor n u stands before. c.next_tick-seat.ensures.quiet (level floor floor) n u stands before;
    }
