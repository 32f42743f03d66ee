use Rattle.std.specs.Prelude.{ℕ, List, [], Option}
use Rattle.std.proofs.Common.{◌≡◌}
use Rattle.call_io.specs.Blocks.{held, sink, way}
use Rattle.call_io.specs.Ways.{Onward}
use Rattle.live_link.specs.LiveOutcome.{LiveStreams, Over, streams}
use Rattle.live_link.specs.inner.PointGoes.{PointAt, no_more}
use Rattle.live_link.specs.inner.PointRun.{IsReady}
use Rattle.live_link.proofs.point_run.PointSide.go_on.Given as goal

-- another round may follow, no count of faults rose, and the run stands behind the rounds so far
abbrev pub invariant-loop : goal.invariant-loop
invariant-loop g l = record {
  ready : IsReady l.self;
  link : g.I.Source.faults l.from ≡ g.I.Source.faults l.initial.from;
  traced : g.O.Sink.faults (sink l.trace) ≡ g.O.Sink.faults (sink l.initial.trace);
  wrote : g.P.Sink.faults l.to ≡ g.P.Sink.faults l.initial.to;
  onward : Onward (way g.O.Sink.held l.initial.trace) (way g.O.Sink.held l.trace);
  goes : (over : Over) (start : LiveStreams) (script : Option (List ℕ)) (lines : List (List ℕ))
      → PointAt over start
      (streams script (held g.O.Sink.held l.initial.trace) (g.I.Source.left l.initial.from) (g.P.Sink.held l.initial.to)
      l.initial.moments) l.initial.self lines no_more []
      → PointAt over start
      (streams script (held g.O.Sink.held l.trace) (g.I.Source.left l.from) (g.P.Sink.held l.to) l.moments) l.self lines
      no_more [];
}
