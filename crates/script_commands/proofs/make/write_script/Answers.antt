use Rattle.std.proofs.Common.{arith, rules, sym, ◌∙◌}
use Rattle.call_io.specs.Bytes.{GrewPartly}
use Rattle.call_io.proofs.BlockLemmas.{Onward-append}
use Rattle.script_commands.specs.Make.{made_script}
use Rattle.script_commands.proofs.MadeText.{call_cut, call_written, facts_written, partly_facts, script_written, x_behind-more, x_behind-none}
use Rattle.script_commands.proofs.make.write_script.Goals as goal

pub returns-in_err-write_all-clause-partly : goal.returns-in_err-write_all-clause-partly
returns-in_err-write_all-clause-partly g c =
    let part : GrewPartly (g.O.Sink.held c.args.output.now) (g.O.Sink.held c.write_all.new.out)
    (made_script c.args.seed) =
    partly_facts _ _ c.args.seed c.in_err-write_all.ensures.partly in
    search rules

pub loop-made-init : goal.loop-made-init
loop-made-init g c = record {
  wrote = facts_written _ _ c.args.seed c.in_ok-write_all.ensures.ok;
  drawn = c.new-draws.ensures ∙ sym (x_behind-none c.args.seed);
  stood = c.in_ok-write_all.ensures.stood;
  onward = c.write_all.ensures.onward;
}

pub returns-in_err-write_call-clause-partly : goal.returns-in_err-write_call-clause-partly
returns-in_err-write_call-clause-partly g c =
    let before = c.loop-made.invariant in
    let part : GrewPartly (g.O.Sink.held c.args.output.now) (g.O.Sink.held c.write_call.new.output)
    (made_script c.args.seed) =
    call_cut _ _ _ c.args.seed c.loop-made.made c.call.result c.loop-made.draws.x (omega arith) before.drawn
    c.call.ensures.times before.wrote c.in_err-write_call.ensures.partly in
    search rules

pub loop-made-preserved : goal.loop-made-preserved
loop-made-preserved g c =
    let before = c.loop-made.invariant in
    record {
      wrote =
          call_written _ _ _ c.args.seed c.loop-made.made c.call.result c.loop-made.draws.x before.drawn
          c.call.ensures.times before.wrote c.in_ok-write_call.ensures.ok;
      drawn =
          x_behind-more c.args.seed c.loop-made.made c.loop-made.draws.x c.call.new.self.x before.drawn
          c.call.ensures.x;
      stood = c.in_ok-write_call.ensures.stood ∙ before.stood;
      onward = Onward-append _ _ _ before.onward c.write_call.ensures.onward;
    }

pub returns-clause-ok : goal.returns-clause-ok
returns-clause-ok g c =
    script_written _ _ c.args.seed c.loop-made.made (omega arith) c.loop-made.invariant.wrote
