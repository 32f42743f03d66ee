use Rattle.std.proofs.Common.{◌≡◌}
use Rattle.call_io.specs.Bytes.{Grew}
use Rattle.call_io.specs.Ways.{Onward}
use Rattle.script_commands.specs.Make.{x_behind}
use Rattle.script_commands.proofs.MadeText.{script_so_far}
use Rattle.script_commands.proofs.make.write_script.Given as goal

-- the facts and the lines of the calls so far were written, and no write failed
abbrev pub invariant-loop-made : goal.invariant-loop-made
invariant-loop-made g l = record {
  wrote : Grew (g.O.Sink.held l.fn.output) (g.O.Sink.held l.output) (script_so_far l.seed l.made);
  drawn : l.draws.x ≡ x_behind l.seed l.made;
  stood : g.O.Sink.faults l.output ≡ g.O.Sink.faults l.fn.output;
  onward : Onward (g.O.Sink.way l.fn.output) (g.O.Sink.way l.output);
}
