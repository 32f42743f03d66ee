use Rattle.std.proofs.Common.{◌≡◌, ℕ, ◌+◌, ◌-◌, ◌≤◌, ◌<◌, ◌^◌}
use Rattle.channel_sim.specs.World.{World}
use Rattle.channel_sim.specs.Lag.{LeastPassed, StandsAt, clock_of}
use Rattle.channel_sim.specs.Passes.{passes_of}
use Rattle.channel_sim.proofs.TurnTicks.{passed_to, to_pass}
use Rattle.channel_sim.proofs.channel.Channel.sessions_pass.Given as goal

-- the sessions of the calls below the number were passed
abbrev pub invariant-loop-number : goal.invariant-loop-number
invariant-loop-number g l =
    record {
      tick : l.self.tick ≡ l.initial.self.tick;
      stood : g.H.Listener.faults l.to ≡ g.H.Listener.faults l.initial.to;
      passes : (ahead : ℕ) (floor : LeastPassed) (before : ℕ) (w : World) → StandsAt ahead floor (λ c. before) l.initial.self w → ahead ≡ l.initial.self.tick → before + 1 ≡ ahead → l.initial.self.tick < floor.waking + 2 ^ 32 →
          l.moments ≤ l.initial.moments + passes_of (passed_to l.from w);
      came : (ahead : ℕ) (floor : LeastPassed) (before : ℕ) (w : World) → StandsAt ahead floor (λ c. before) l.initial.self w → ahead ≡ l.initial.self.tick → before + 1 ≡ ahead →
          g.H.Listener.grew l.initial.to l.to (passed_to l.from w).entries
          × StandsAt ahead floor (clock_of before (to_pass l.from w)) l.self (passed_to l.from w).world;
    }

abbrev pub decreases-loop-number : goal.decreases-loop-number
decreases-loop-number g l = 2 ^ 64 - l.from
