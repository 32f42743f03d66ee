use Rattle.std.proofs.Common.{◌≡◌, ◌-◌, ◌≤◌}
use Rattle.call_io.specs.Blocks.{held, sink, way}
use Rattle.call_io.specs.Ways.{Onward}
use Rattle.command_base.specs.Outcome.{streams_of}
use Rattle.command_base.specs.inner.Standing.{CommandStanding}
use Rattle.command_base.proofs.lines.carry_out_lines.Given as goal

-- the command stands behind the lines so far, and no count of faults rose
abbrev pub invariant-loop-status : goal.invariant-loop-status
invariant-loop-status g l = record {
  stands :
      (first : g.C.LineCommand.Seen) → g.C.LineCommand.stands l.initial.command 0 first
      → CommandStanding g.C.LineCommand.rest g.C.LineCommand.most first (g.C.LineCommand.stands l.command)
      (streams_of g.I.Source.left (held g.O.Sink.held) l.initial.input l.initial.output
      (g.C.LineCommand.count l.initial.command).passes)
      (streams_of g.I.Source.left (held g.O.Sink.held) l.input l.output (g.C.LineCommand.count l.command).passes)
      l.lines;
  bound : l.lines.lines ≤ 16777216;
  named : (g.C.LineCommand.count l.command).name ≡ (g.C.LineCommand.count l.initial.command).name;
  silent : g.C.LineCommand.quiet → held g.O.Sink.held l.output ≡ held g.O.Sink.held l.initial.output;
  reads : g.I.Source.faults l.input ≡ g.I.Source.faults l.initial.input;
  writes : g.O.Sink.faults (sink l.output) ≡ g.O.Sink.faults (sink l.initial.output);
  onward : Onward (way g.O.Sink.held l.initial.output) (way g.O.Sink.held l.output);
}

-- lines that are left to the greatest number of bytes
abbrev pub decreases-loop-status : goal.decreases-loop-status
decreases-loop-status g l = 16777217 - l.lines.lines
