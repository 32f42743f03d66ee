use Rattle.std.proofs.Common.{◌≡◌, ◌-◌}
use Rattle.call_io.specs.Ways.{Onward}
use Rattle.call_io.specs.Blocks.{sink, held, way}
use Rattle.call_io.proofs.block.Block.empty.Given as goal

-- what the sink has and what is pending are what they were together, and no write failed
abbrev pub invariant-loop-self : goal.invariant-loop-self
invariant-loop-self g l =
    (held g.O.Sink.held l.self ≡ held g.O.Sink.held l.initial.self)
    × (g.O.Sink.faults (sink l.self) ≡ g.O.Sink.faults (sink l.initial.self))
    × Onward (way g.O.Sink.held l.initial.self) (way g.O.Sink.held l.self)

abbrev pub decreases-loop-self : goal.decreases-loop-self
decreases-loop-self g l = l.self.end - l.self.start
