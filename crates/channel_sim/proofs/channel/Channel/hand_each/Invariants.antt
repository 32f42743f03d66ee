use Rattle.channel_sim.specs.Passes.{passes_of}
use Rattle.std.proofs.Common.{◌≡◌, ℕ, take, map, ◌+◌, ◌≤◌, ◌<◌, ◌^◌}
use Rattle.channel_sim.specs.World.{World, each}
use Rattle.channel_sim.specs.Handing.{due_of, hands_way}
use Rattle.channel_sim.specs.Lag.{LeastPassed, StandsAt}
use Rattle.channel_sim.proofs.channel.Channel.hand_each.Given as goal

-- the frames so far were handed over
abbrev pub invariant-loop-one : goal.invariant-loop-one
invariant-loop-one g l =
    record {
      tick : l.self.tick ≡ l.initial.self.tick;
      stood : g.H.Listener.faults l.to ≡ g.H.Listener.faults l.initial.to;
      passes : (ahead : ℕ) (floor : LeastPassed) (w : World) → StandsAt ahead floor (λ c. ahead) l.initial.self w → ahead ≡ l.initial.self.tick → l.initial.self.tick < floor.waking + 2 ^ 32 →
          l.moments ≤ l.initial.moments + passes_of (each (hands_way l.up) (take l.one-index (map due_of l.due)) w);
      came : (ahead : ℕ) (floor : LeastPassed) (w : World) → StandsAt ahead floor (λ c. ahead) l.initial.self w → ahead ≡ l.initial.self.tick →
          g.H.Listener.grew l.initial.to l.to (each (hands_way l.up) (take l.one-index (map due_of l.due)) w).entries
          × StandsAt ahead floor (λ c. ahead) l.self (each (hands_way l.up) (take l.one-index (map due_of l.due)) w).world;
    }
