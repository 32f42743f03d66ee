use Rattle.std.proofs.Common.{◌≡◌, take}
use Rattle.std.specs.Prelude.{map}
use Rattle.call_io.specs.Bytes.{Grew}
use Rattle.call_io.specs.Ways.{Onward}
use Rattle.set_commands.specs.inner.ConformLines.{lines_from}
use Rattle.set_commands.proofs.conform.write_lines.Given as goal

-- the lines of the vectors so far stand written, and no write failed
abbrev pub invariant-loop-index : goal.invariant-loop-index
invariant-loop-index g l = record {
  grew :
      Grew (g.O.Sink.held l.initial.output) (g.O.Sink.held l.output)
      (lines_from 1 (map (λ text. text.now) (take l.index l.texts)));
  stood : g.O.Sink.faults l.output ≡ g.O.Sink.faults l.initial.output;
  onward : Onward (g.O.Sink.way l.initial.output) (g.O.Sink.way l.output);
}
