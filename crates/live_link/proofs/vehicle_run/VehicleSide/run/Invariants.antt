use Rattle.std.proofs.Common.{◌≡◌, ◌-◌, ◌≤◌, false}
use Rattle.call_io.specs.Blocks.{held, sink, way}
use Rattle.call_io.specs.Ways.{Onward}
use Rattle.line_input.specs.Lines.{most_bytes}
use Rattle.live_link.specs.LiveOutcome.{LiveStreams, Over, streams}
use Rattle.live_link.specs.Runs.{beat_of}
use Rattle.live_link.specs.inner.VehicleGoes.{VehicleOver}
use Rattle.live_link.specs.inner.VehicleRun.{IsReady}
use Rattle.live_link.proofs.vehicle_run.VehicleSide.run.Given as goal

-- another round may follow, another line may be read, no count of faults rose, and the run stands behind the lines so far
abbrev pub invariant-loop-next : goal.invariant-loop-next
invariant-loop-next g l = record {
  ready : IsReady l.self;
  alive : l.lines.failed ≡ false;
  few : l.lines.lines ≤ most_bytes;
  script : g.S.Source.faults l.script ≡ g.S.Source.faults l.initial.script;
  link : g.I.Source.faults l.from ≡ g.I.Source.faults l.initial.from;
  traced : g.O.Sink.faults (sink l.trace) ≡ g.O.Sink.faults (sink l.initial.trace);
  wrote : g.P.Sink.faults l.to ≡ g.P.Sink.faults l.initial.to;
  onward : Onward (way g.O.Sink.held l.initial.trace) (way g.O.Sink.held l.trace);
  goes : (over : Over) (start : LiveStreams)
      → VehicleOver over start
      (streams (g.S.Source.left l.initial.script) (held g.O.Sink.held l.initial.trace) (g.I.Source.left l.initial.from)
      (g.P.Sink.held l.initial.to) l.initial.moments) l.initial.self l.initial.lines (beat_of l.fn.first)
      → VehicleOver over start
      (streams (g.S.Source.left l.script) (held g.O.Sink.held l.trace) (g.I.Source.left l.from) (g.P.Sink.held l.to) l.moments)
      l.self l.lines (beat_of l.event);
}

-- lines that are left to the greatest number of bytes
abbrev pub decreases-loop-next : goal.decreases-loop-next
decreases-loop-next g l = 16777217 - l.lines.lines
