use Rattle.std.proofs.Common.{◌+◌, ◌≤◌}
use Rattle.call_io.specs.Bytes.{Grew, GrewPartly}
use Rattle.floor_command.specs.FloorText.{text_of}
use Rattle.floor_command.specs.inner.FloorStage.{StageStandsFor}
use Rattle.floor_command.proofs.PlayedLines.{plays_out_of_place}
use Rattle.floor_command.proofs.play.obey.Goals as goal

pub returns-in-Err-Refused-clause-plays : goal.returns-in-Err-Refused-clause-plays
returns-in-Err-Refused-clause-plays g c =
    plays_out_of_place c.args.number c.args.says.now c.in-Err-Refused.reason
    (StageStandsFor c.args.stage.now) c.args.stage.now
    c.tell.new.stage (g.O.Sink.held c.args.output.now) (g.O.Sink.held c.tell.new.output)
    (g.O.Sink.held c.refuse_line.new.output)
    (λ es. Grew (g.O.Sink.held c.args.output.now) (g.O.Sink.held c.refuse_line.new.output) (text_of es))
    (λ es. GrewPartly (g.O.Sink.held c.args.output.now) (g.O.Sink.held c.refuse_line.new.output) (text_of es))
    (λ n. c.tell.new.moments ≤ c.args.moments.now + n) c.refuse_line.result
    (rw c.in-Err-Refused.field-0-is at c.in-Err-Refused.ensures.obeys) c.refuse_line.ensures.ends
