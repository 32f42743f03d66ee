use Rattle.std.proofs.Common.{◌+◌, ◌≤◌, arith, sym, ap, ◌∙◌}
use Rattle.trace_text.specs.Script.{event_answer}
use Rattle.call_io.specs.Bytes.{Grew, GrewPartly}
use Rattle.trace_text.specs.EntryLine.{text_of}
use Rattle.trace_text.specs.declared.script.ScriptLine.TheVariants as line
use Rattle.script_stage.specs.Stage.{StageStandsFor}
use Rattle.script_stage.proofs.PlayedLines.{plays_said, plays_refused}
use Rattle.script_commands.proofs.run.play_line.Goals as goal

pub returns-in-Some-Ok-clause-plays : goal.returns-in-Some-Ok-clause-plays
returns-in-Some-Ok-clause-plays g c =
    plays_said c.args.line.now (line.Event c.in-Some-Ok.event) c.number.result (StageStandsFor c.args.stage.now) c.args.stage.now
    c.obey.new.stage (g.O.Sink.held c.args.output.now) (g.O.Sink.held c.obey.new.output)
    _ _ (λ n. c.obey.new.moments ≤ c.args.moments.now + n) c.obey.result (sym (c.in-Some-Ok.ensures.says ∙ ap event_answer c.in-Some-Ok.field-0-is)) c.number.ensures
    c.obey.ensures.plays

pub returns-in-Some-Err-clause-plays : goal.returns-in-Some-Err-clause-plays
returns-in-Some-Err-clause-plays g c =
    plays_refused c.args.line.now c.in-Some-Err.bad (StageStandsFor c.args.stage.now) c.args.stage.now
    c.args.stage.now (g.O.Sink.held c.args.output.now) (g.O.Sink.held c.refuse.new.output)
    (λ es. Grew (g.O.Sink.held c.args.output.now) (g.O.Sink.held c.refuse.new.output) (text_of es))
    (λ es. GrewPartly (g.O.Sink.held c.args.output.now) (g.O.Sink.held c.refuse.new.output) (text_of es))
    (λ n. c.args.moments.now ≤ c.args.moments.now + n) c.refuse.result
    (omega arith) (sym (c.in-Some-Err.ensures.says ∙ ap event_answer c.in-Some-Err.field-0-is)) c.refuse.ensures.ends
