use Rattle.channel_sim.specs.Passes.{passes_of}
use Rattle.std.proofs.Common.{◌≡◌, ℕ, take, ◌≤◌, ◌<◌, ◌+◌, ◌^◌}
use Rattle.trace_model.specs.History.{told}
use Rattle.channel_sim.specs.World.{World, does_each, consequences}
use Rattle.channel_sim.specs.Lag.{LeastPassed, StandsAt}
use Rattle.channel_sim.proofs.channel.Channel.follow.Given as goal

-- what the items so far have follow came about
abbrev pub invariant-loop-note : goal.invariant-loop-note
invariant-loop-note g l =
    record {
      tick : l.self.tick ≡ l.initial.self.tick;
      stood : g.H.Listener.faults l.to ≡ g.H.Listener.faults l.initial.to;
      passes : (ahead : ℕ) (floor : LeastPassed) (clock : ℕ → ℕ) (w : World) → StandsAt ahead floor clock l.initial.self w → ahead ≡ l.initial.self.tick → l.initial.self.tick < floor.waking + 2 ^ 32 →
          l.moments ≤ l.initial.moments + passes_of (does_each (consequences (told w.tick (take l.note-index l.items))) w);
      still : l.initial.self.passed ≡ l.initial.self.tick → (l.self.passed ≡ l.self.tick) × (l.moments ≡ l.initial.moments);
      came : (ahead : ℕ) (floor : LeastPassed) (clock : ℕ → ℕ) (w : World) → StandsAt ahead floor clock l.initial.self w → ahead ≡ l.initial.self.tick →
          g.H.Listener.grew l.initial.to l.to (does_each (consequences (told w.tick (take l.note-index l.items))) w).entries
          × StandsAt ahead floor clock l.self (does_each (consequences (told w.tick (take l.note-index l.items))) w).world;
    }
