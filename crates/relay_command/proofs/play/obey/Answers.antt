use Rattle.relay_command.proofs.PlayRelayLines.{out_of_place}
use Rattle.relay_command.proofs.play.obey.Goals as goal

pub returns-in-Err-Refused-clause-plays : goal.returns-in-Err-Refused-clause-plays
returns-in-Err-Refused-clause-plays g c = λ seen stands.
    out_of_place c.args.number seen c.args.says.now c.in-Err-Refused.reason c.args.stage.now c.tell.new.stage
    c.tell.new.desk (g.O.Sink.held c.args.output.now) (g.O.Sink.held c.tell.new.output)
    (g.O.Sink.held c.refuse_line.new.output) c.args.moments.now c.tell.new.moments
    (rw c.in-Err-Refused.field-0-is at (c.in-Err-Refused.ensures.tells seen stands)) c.refuse_line.result
    c.refuse_line.ensures.ends
