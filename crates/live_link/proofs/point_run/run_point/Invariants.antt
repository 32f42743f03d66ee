use Rattle.std.proofs.Common.{◌≡◌, ◌-◌, ◌≤◌, false}
use Rattle.call_io.specs.Blocks.{held, sink, way}
use Rattle.call_io.specs.Ways.{Onward}
use Rattle.line_input.specs.Lines.{most_bytes}
use Rattle.live_link.specs.LiveOutcome.{streams}
use Rattle.live_link.specs.Scripts.{point_over}
use Rattle.live_link.specs.inner.PointGoes.{PointOver}
use Rattle.live_link.specs.inner.PointRun.{IsReady}
use Rattle.live_link.proofs.point_run.run_point.Given as goal

-- another round may follow, another line may be read, no count of faults rose, and the run stands behind the lines so far
abbrev pub invariant-loop-status : goal.invariant-loop-status
invariant-loop-status g l = record {
  ready : IsReady l.side;
  alive : l.lines.failed ≡ false;
  few : l.lines.lines ≤ most_bytes;
  script : g.S.Source.faults l.script ≡ g.S.Source.faults l.initial.script;
  link : g.I.Source.faults l.from ≡ g.I.Source.faults l.initial.from;
  traced : g.O.Sink.faults (sink l.trace) ≡ g.O.Sink.faults (sink l.initial.trace);
  wrote : g.P.Sink.faults l.to ≡ g.P.Sink.faults l.initial.to;
  onward : Onward (way g.O.Sink.held l.initial.trace) (way g.O.Sink.held l.trace);
  goes : PointOver point_over
      (streams (g.S.Source.left l.initial.script) (held g.O.Sink.held l.initial.trace) (g.I.Source.left l.initial.from)
      (g.P.Sink.held l.initial.to) l.initial.moments)
      (streams (g.S.Source.left l.script) (held g.O.Sink.held l.trace) (g.I.Source.left l.from) (g.P.Sink.held l.to) l.moments)
      l.side l.lines;
}

-- lines that are left to the greatest number of bytes
abbrev pub decreases-loop-status : goal.decreases-loop-status
decreases-loop-status g l = 16777217 - l.lines.lines
