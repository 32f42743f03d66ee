use Rattle.floor_command.proofs.FloorLines.{takes_line}
use Rattle.floor_command.proofs.play.PlayingFloorLineCommand.take.Goals as goal

pub returns-clause-takes : goal.returns-clause-takes
returns-clause-takes g c = λ before seen stands less.
    takes_line before seen c.args.self.now.stage.now c.play_line.new.stage c.args.line.now
    c.args.self.now.moments.now c.play_line.new.moments (g.O.Sink.held c.args.output.now)
    (g.O.Sink.held c.play_line.new.output) stands less c.requires.says c.play_line.result
    (c.play_line.ensures.plays seen.said seen.events stands.stage_stands)
