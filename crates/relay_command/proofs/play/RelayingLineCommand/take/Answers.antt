use Rattle.relay_command.proofs.PlayRelayLines.{takes_line}
use Rattle.relay_command.proofs.play.RelayingLineCommand.take.Goals as goal

pub returns-clause-takes : goal.returns-clause-takes
returns-clause-takes g c = λ before seen stands less.
    takes_line before seen c.args.self.now.stage.now c.play_line.new.stage c.args.self.now.desk.now
    c.play_line.new.desk c.args.line.now c.args.self.now.moments.now c.play_line.new.moments
    (g.O.Sink.held c.args.output.now) (g.O.Sink.held c.play_line.new.output) stands less c.requires.says
    c.play_line.result
    (c.play_line.ensures.plays seen
    (record { stage_stands = stands.stage_stands; scene_stands = stands.scene_stands }))

pub play_line-requires-clause-stands : goal.play_line-requires-clause-stands
play_line-requires-clause-stands g c = (
  c.requires.stands.1,
  record { stage_stands = c.requires.stands.2.stage_stands; scene_stands = c.requires.stands.2.scene_stands },
)
