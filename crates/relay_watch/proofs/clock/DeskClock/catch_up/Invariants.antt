use Rattle.std.proofs.Common.{◌≡◌, ◌≤◌, ◌-◌}
use Rattle.call_io.specs.Ways.{Onward}
use Rattle.relay_watch.specs.Clocks.{IsTold, clock_of, elapses}
use Rattle.relay_watch.proofs.clock.DeskClock.catch_up.Given as goal

-- what the ticks so far bring is written, and no write failed
abbrev pub invariant-loop-self : goal.invariant-loop-self
invariant-loop-self g l =
    record {
      later : l.initial.self.tick ≤ l.self.tick;
      within : l.self.tick - l.initial.self.tick ≤ l.target - l.initial.self.tick;
      told : IsTold (elapses (l.self.tick - l.initial.self.tick) (clock_of l.initial.self)) l.self
          (g.O.Sink.held l.initial.out) (g.O.Sink.held l.out);
      stood : g.O.Sink.faults l.out ≡ g.O.Sink.faults l.initial.out;
      onward : Onward (g.O.Sink.way l.initial.out) (g.O.Sink.way l.out);
    }

abbrev pub decreases-loop-self : goal.decreases-loop-self
decreases-loop-self g l = l.target - l.self.tick
