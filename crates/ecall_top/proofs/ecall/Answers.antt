use Rattle.trace_text.specs.Script.{script_of}
use Rattle.script_stage.proofs.SafeTraces.{script_safe, script_finished}
use Rattle.std.specs.Prelude.{Some, map}
use Rattle.std.specs.String.{string_bytes}
use Rattle.std.proofs.Common.{rules, ◌∙◌, ap, subst, sym}
use Rattle.call_io.specs.Blocks.{sink}
use Rattle.command_base.specs.Outcome.{Streams}
use Rattle.ecall_top.specs.Commands.{command_of, reads}
use Rattle.ecall_top.specs.Replies.{CommandOutcome, passes_of}
use Rattle.ecall_top.specs.inner.Ends.{CommandEnds}
use Rattle.ecall_top.specs.declared.command.Command.TheVariants as command
use Rattle.ecall_top.proofs.WholeAnswers.{complete_answer}
use Rattle.script_commands.proofs.SafelyCut.{run_cut}
use Rattle.tones_command.specs.Tones.{toned_script}
use Rattle.tones_command.proofs.FaintScripts.{faint_reply}
use Rattle.relay_command.proofs.AsRun.{relay_accepted, relay_as_run}
use Rattle.relay_command.proofs.CarriedTraces.{relay_carried}
use Rattle.ecall_top.proofs.ecall.Goals as goal

pub returns-clause-agreed : goal.returns-clause-agreed
returns-clause-agreed g c = λ script. (script_safe (script_of script)).agreed

pub returns-clause-opened : goal.returns-clause-opened
returns-clause-opened g c = λ script. (script_safe (script_of script)).opened

pub returns-clause-finished : goal.returns-clause-finished
returns-clause-finished g c = λ script. script_finished (script_of script)

pub returns-clause-bounded : goal.returns-clause-bounded
returns-clause-bounded g c = λ script. (script_safe (script_of script)).bounded

pub returns-clause-toned : goal.returns-clause-toned
returns-clause-toned g c = λ noise script. script_safe (toned_script noise script)

pub returns-clause-faint : goal.returns-clause-faint
returns-clause-faint g c = faint_reply

pub returns-clause-apart : goal.returns-clause-apart
returns-clause-apart g c = c.floor_parts.ensures

pub returns-clause-relayed : goal.returns-clause-relayed
returns-clause-relayed g c = relay_as_run

pub returns-clause-accepted : goal.returns-clause-accepted
returns-clause-accepted g c = relay_accepted

pub returns-clause-carried : goal.returns-clause-carried
returns-clause-carried g c = relay_carried

pub returns-clause-outcome : goal.returns-clause-outcome
returns-clause-outcome g c =
    let ends = subst (λ h'. CommandEnds (command_of (map string_bytes c.args.words.now))
    (record { left = g.I.Source.left c.args.input.now; held = g.O.Sink.held c.args.output.now; passes = c.args.moments.now })
    (record { left = g.I.Source.left c.carry_out.new.input; held = h'; passes = c.carry_out.new.moments }) c.carry_out.result)
    (ap g.O.Sink.held
    (sym (c.output-1.given.1 (sym (c.carry_out.ensures.same_sink ∙ c.over-block.ensures.same_sink)))))
    (subst (λ h. CommandEnds (command_of (map string_bytes c.args.words.now))
    (record { left = g.I.Source.left c.args.input.now; held = h; passes = c.args.moments.now })
    (record {
      left = g.I.Source.left c.carry_out.new.input;
      held = g.O.Sink.held (sink c.carry_out.new.output);
      passes = c.carry_out.new.moments;
    }) c.carry_out.result) (ap g.O.Sink.held c.over-block.ensures.value) c.carry_out.ensures.ends) in
    ends.outcome

pub returns-clause-told : goal.returns-clause-told
returns-clause-told g c =
    let ends = subst (λ h'. CommandEnds (command_of (map string_bytes c.args.words.now))
    (record { left = g.I.Source.left c.args.input.now; held = g.O.Sink.held c.args.output.now; passes = c.args.moments.now })
    (record { left = g.I.Source.left c.carry_out.new.input; held = h'; passes = c.carry_out.new.moments }) c.carry_out.result)
    (ap g.O.Sink.held
    (sym (c.output-1.given.1 (sym (c.carry_out.ensures.same_sink ∙ c.over-block.ensures.same_sink)))))
    (subst (λ h. CommandEnds (command_of (map string_bytes c.args.words.now))
    (record { left = g.I.Source.left c.args.input.now; held = h; passes = c.args.moments.now })
    (record {
      left = g.I.Source.left c.carry_out.new.input;
      held = g.O.Sink.held (sink c.carry_out.new.output);
      passes = c.carry_out.new.moments;
    }) c.carry_out.result) (ap g.O.Sink.held c.over-block.ensures.value) c.carry_out.ensures.ends) in
    ends.told

pub returns-clause-silent : goal.returns-clause-silent
returns-clause-silent g c =
    let ends = subst (λ h'. CommandEnds (command_of (map string_bytes c.args.words.now))
    (record { left = g.I.Source.left c.args.input.now; held = g.O.Sink.held c.args.output.now; passes = c.args.moments.now })
    (record { left = g.I.Source.left c.carry_out.new.input; held = h'; passes = c.carry_out.new.moments }) c.carry_out.result)
    (ap g.O.Sink.held
    (sym (c.output-1.given.1 (sym (c.carry_out.ensures.same_sink ∙ c.over-block.ensures.same_sink)))))
    (subst (λ h. CommandEnds (command_of (map string_bytes c.args.words.now))
    (record { left = g.I.Source.left c.args.input.now; held = h; passes = c.args.moments.now })
    (record {
      left = g.I.Source.left c.carry_out.new.input;
      held = g.O.Sink.held (sink c.carry_out.new.output);
      passes = c.carry_out.new.moments;
    }) c.carry_out.result) (ap g.O.Sink.held c.over-block.ensures.value) c.carry_out.ensures.ends) in
    ends.silent

pub returns-clause-ends_unread : goal.returns-clause-ends_unread
returns-clause-ends_unread g c = c.carry_out.ensures.ends.unread

pub returns-clause-cut : goal.returns-clause-cut
returns-clause-cut g c =
    λ runs. λ before written. λ was is.
    let old : Streams = record {
      left = g.I.Source.left c.args.input.now;
      held = g.O.Sink.held (sink c.over-block.result);
      passes = c.args.moments.now;
    } in
    let new : Streams = record {
      left = g.I.Source.left c.carry_out.new.input;
      held = g.O.Sink.held (sink c.carry_out.new.output);
      passes = c.carry_out.new.moments;
    } in
    run_cut (λ input. passes_of (Some command.Run) input) (reads (Some command.Run)) old new c.carry_out.result
    (subst (λ asked. CommandOutcome asked old new c.carry_out.result) runs c.carry_out.ensures.ends.outcome) before written
    (ap g.O.Sink.held c.over-block.ensures.value ∙ was)
    (ap g.O.Sink.held
    (sym (c.output-1.given.1 (sym (c.carry_out.ensures.same_sink ∙ c.over-block.ensures.same_sink)))) ∙ is)

pub returns-clause-complete : goal.returns-clause-complete
returns-clause-complete g c =
    λ bytes told few calm.
    let ends = subst (λ h'. CommandEnds (command_of (map string_bytes c.args.words.now))
    (record { left = g.I.Source.left c.args.input.now; held = g.O.Sink.held c.args.output.now; passes = c.args.moments.now })
    (record { left = g.I.Source.left c.carry_out.new.input; held = h'; passes = c.carry_out.new.moments }) c.carry_out.result)
    (ap g.O.Sink.held
    (sym (c.output-1.given.1 (sym (c.carry_out.ensures.same_sink ∙ c.over-block.ensures.same_sink)))))
    (subst (λ h. CommandEnds (command_of (map string_bytes c.args.words.now))
    (record { left = g.I.Source.left c.args.input.now; held = h; passes = c.args.moments.now })
    (record {
      left = g.I.Source.left c.carry_out.new.input;
      held = g.O.Sink.held (sink c.carry_out.new.output);
      passes = c.carry_out.new.moments;
    }) c.carry_out.result) (ap g.O.Sink.held c.over-block.ensures.value) c.carry_out.ensures.ends) in
    complete_answer (command_of (map string_bytes c.args.words.now)) _ _ bytes told few c.carry_out.result _ _ _ _
    (search rules) (search rules) calm c.carry_out.ensures.in_place ends.outcome
