use Rattle.std.proofs.Common.{arith}
use Rattle.relay_command.proofs.PlayRelayLines.{plays_refused, plays_said}
use Rattle.relay_command.proofs.play.play_line.Goals as goal

pub returns-in-Ok-clause-plays : goal.returns-in-Ok-clause-plays
returns-in-Ok-clause-plays g c = λ seen stands.
    plays_said c.args.line.now seen c.args.stage.now c.obey.new.stage c.obey.new.desk
    (g.O.Sink.held c.args.output.now) (g.O.Sink.held c.obey.new.output) c.args.moments.now c.obey.new.moments
    c.in-Ok.says c.number.result c.obey.result c.in-Ok.ensures c.number.ensures (c.obey.ensures.plays seen stands)

pub returns-in-Err-clause-plays : goal.returns-in-Err-clause-plays
returns-in-Err-clause-plays g c = λ seen stands.
    plays_refused c.args.line.now seen c.args.stage.now c.args.stage.now c.args.desk.now
    (g.O.Sink.held c.args.output.now) (g.O.Sink.held c.refuse.new.output) c.args.moments.now c.args.moments.now
    c.in-Err.bad c.refuse.result (omega arith) c.in-Err.ensures c.refuse.ensures.ends
