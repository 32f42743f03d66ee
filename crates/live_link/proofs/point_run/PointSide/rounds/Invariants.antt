use Rattle.std.specs.Prelude.{ℕ, List, Option}
use Rattle.std.proofs.Common.{◌≡◌, ◌+◌, ◌≤◌}
use Rattle.call_io.specs.Blocks.{held, sink, way}
use Rattle.call_io.specs.Ways.{Onward}
use Rattle.live_link.specs.LiveOutcome.{LiveStreams, Over, streams}
use Rattle.live_link.specs.Runs.{rounds_of}
use Rattle.live_link.specs.inner.Brought.{Rest}
use Rattle.live_link.specs.inner.PointGoes.{PointAt}
use Rattle.live_link.specs.inner.PointRun.{IsReady}
use Rattle.live_link.proofs.VehicleBeats.{rounds_left}
use Rattle.live_link.proofs.point_run.PointSide.rounds.Given as goal

-- another round may follow, no count of faults rose, there was one pass a round at most, and the run stands behind the
-- rounds so far
abbrev pub invariant-loop : goal.invariant-loop
invariant-loop g l = record {
  ready : IsReady l.self;
  moments : l.moments ≤ l.initial.moments + l.counter;
  link : g.I.Source.faults l.from ≡ g.I.Source.faults l.initial.from;
  traced : g.O.Sink.faults (sink l.trace) ≡ g.O.Sink.faults (sink l.initial.trace);
  wrote : g.P.Sink.faults l.to ≡ g.P.Sink.faults l.initial.to;
  onward : Onward (way g.O.Sink.held l.initial.trace) (way g.O.Sink.held l.trace);
  goes : (over : Over) (start : LiveStreams) (script : Option (List ℕ)) (lines : List (List ℕ)) (rest : Rest)
      → PointAt over start
      (streams script (held g.O.Sink.held l.initial.trace) (g.I.Source.left l.initial.from) (g.P.Sink.held l.initial.to)
      l.initial.moments) l.initial.self lines rest (rounds_of l.count)
      → PointAt over start
      (streams script (held g.O.Sink.held l.trace) (g.I.Source.left l.from) (g.P.Sink.held l.to) l.moments) l.self lines rest
      (rounds_left l.counter l.count);
}
