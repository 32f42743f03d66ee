use Rattle.channel_sim.specs.Passes.{passes_of}
use Rattle.std.proofs.Common.{◌≡◌, ℕ, ◌-◌, ◌≤◌, ◌+◌}
use Rattle.channel_sim.specs.World.{World, units}
use Rattle.channel_sim.specs.Lag.{StandsAt, StandsNow, level}
use Rattle.channel_sim.proofs.channel.Channel.elapses.Given as goal

-- so many ticks have elapsed
abbrev pub invariant-loop-self : goal.invariant-loop-self
invariant-loop-self g l =
    record {
      began : l.initial.self.tick ≤ l.self.tick;
      within : l.self.tick ≤ l.end;
      stood : g.H.Listener.faults l.to ≡ g.H.Listener.faults l.initial.to;
      passes : (settled : ℕ) (w : World) → StandsNow settled l.initial.self w → l.moments ≤ l.initial.moments + passes_of (units (l.self.tick - l.initial.self.tick) w);
      came : (settled : ℕ) (w : World) → StandsNow settled l.initial.self w →
          g.H.Listener.grew l.initial.to l.to (units (l.self.tick - l.initial.self.tick) w).entries
          × StandsAt l.self.tick (level settled l.initial.self.tick) (λ c. l.self.tick) l.self (units (l.self.tick - l.initial.self.tick) w).world;
    }

abbrev pub decreases-loop-self : goal.decreases-loop-self
decreases-loop-self g l = l.end - l.self.tick
