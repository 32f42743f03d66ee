use Rattle.tones_command.proofs.TonesLines.{takes_line}
use Rattle.tones_command.proofs.tones.ToningLineCommand.take.Goals as goal

pub returns-clause-takes : goal.returns-clause-takes
returns-clause-takes g c = λ before seen stands less.
    takes_line before seen c.args.self.now.stage.now c.play_line.new.stage c.args.self.now.frames.now
    c.play_line.new.frames c.args.self.now.modem.now c.play_line.new.modem c.args.line.now
    c.args.self.now.moments.now c.play_line.new.moments (g.O.Sink.held c.args.output.now)
    (g.O.Sink.held c.play_line.new.output) stands less c.requires.says c.play_line.ensures.most
    (c.play_line.ensures.drawn seen stands.ready) c.play_line.result (c.play_line.ensures.turns seen stands.ready)
