use Rattle.std.specs.Prelude.{ℕ, List, Option, []}
use Rattle.std.proofs.Common.{◌≡◌, ◌-◌, ◌≤◌, false}
use Rattle.call_io.specs.Blocks.{held, sink, way}
use Rattle.call_io.specs.Ways.{Onward}
use Rattle.line_input.specs.Lines.{most_bytes}
use Rattle.trace_text.specs.Drafts.{DraftOf}
use Rattle.trace_text.specs.declared.draft.Draft.{Draft}
use Rattle.live_link.specs.LiveOutcome.{LiveStreams, Over, streams}
use Rattle.live_link.specs.inner.FrontGoes.{FrontOver}
use Rattle.live_link.proofs.vehicle_front.read_front.Given as goal

-- another line may be read, no count of faults rose, and the run stands behind the facts so far
abbrev pub invariant-loop-front : goal.invariant-loop-front
invariant-loop-front g l = record {
  alive : l.lines.failed ≡ false;
  few : l.lines.lines ≤ most_bytes;
  script : g.S.Source.faults l.script ≡ g.S.Source.faults l.initial.script;
  traced : g.O.Sink.faults (sink l.trace) ≡ g.O.Sink.faults (sink l.initial.trace);
  onward : Onward (way g.O.Sink.held l.initial.trace) (way g.O.Sink.held l.trace);
  goes : (over : Over) (start : LiveStreams) (from to : Option (List ℕ)) (passes : ℕ)
      → ((draft : Draft) → DraftOf draft []
      → FrontOver over start
      (streams (g.S.Source.left l.initial.script) (held g.O.Sink.held l.initial.trace) from to passes) l.initial.lines draft)
      → FrontOver over start (streams (g.S.Source.left l.script) (held g.O.Sink.held l.trace) from to passes) l.lines
      l.draft;
}

-- lines that are left to the greatest number of bytes
abbrev pub decreases-loop-front : goal.decreases-loop-front
decreases-loop-front g l = 16777217 - l.lines.lines
