use Rattle.std.proofs.Common.{◌≡◌, ℕ, take}
use Rattle.channel_sim.specs.World.{World, each}
use Rattle.channel_sim.specs.Lines.{session_resets}
use Rattle.channel_sim.specs.Lag.{StandsNow}
use Rattle.channel_sim.proofs.channel.Channel.each_session_resets.Given as goal

-- the sessions of the calls so far heard it
abbrev pub invariant-loop-number : goal.invariant-loop-number
invariant-loop-number g l =
    record {
      stood : g.H.Listener.faults l.to ≡ g.H.Listener.faults l.initial.to;
      still : l.initial.self.passed ≡ l.initial.self.tick →
          (l.self.passed ≡ l.self.tick) × (l.moments ≡ l.initial.moments);
      came : (settled : ℕ) (w : World) → StandsNow settled l.initial.self w →
          g.H.Listener.grew l.initial.to l.to (each session_resets (take l.number-index l.numbers) w).entries
          × StandsNow settled l.self (each session_resets (take l.number-index l.numbers) w).world;
    }
