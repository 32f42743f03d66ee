use Rattle.std.proofs.Common.{◌+◌, ◌≤◌}
use Rattle.call_io.specs.Bytes.{Grew, GrewPartly}
use Rattle.trace_text.specs.EntryLine.{text_of}
use Rattle.script_stage.specs.Stage.{StageStandsFor}
use Rattle.script_stage.proofs.PlayedLines.{plays_out_of_place}
use Rattle.tones_command.specs.inner.Hearing.{FramesGrew}
use Rattle.tones_command.proofs.tones.obey.Goals as goal

pub returns-in-Err-Refused-clause-plays : goal.returns-in-Err-Refused-clause-plays
returns-in-Err-Refused-clause-plays g c =
    let obeys = rw c.in-Err-Refused.field-0-is at c.in-Err-Refused.ensures.obeys in
    plays_out_of_place c.args.number c.args.says.now c.in-Err-Refused.reason
    (StageStandsFor c.args.stage.now) c.args.stage.now
    c.tell.new.stage (g.O.Sink.held c.args.output.now) (g.O.Sink.held c.tell.new.output)
    (g.O.Sink.held c.refuse_line.new.output)
    (λ es. Grew (g.O.Sink.held c.args.output.now) (g.O.Sink.held c.refuse_line.new.output) (text_of es)
    × FramesGrew c.args.frames.now c.tell.new.frames es)
    (λ es. GrewPartly (g.O.Sink.held c.args.output.now) (g.O.Sink.held c.refuse_line.new.output) (text_of es))
    (λ n. c.tell.new.moments ≤ c.args.moments.now + n) c.refuse_line.result
    (λ said events stands.
    let o = obeys said events stands in (o.0, o.1.0, o.2)) c.refuse_line.ensures.ends
