use Rattle.set_commands.proofs.FramesLines.{takes_line}
use Rattle.set_commands.proofs.frames.FramesLineCommand.take.Goals as goal

pub returns-clause-takes : goal.returns-clause-takes
returns-clause-takes g c = λ before seen stands less.
    takes_line before seen c.args.self.now.reader c.take_line.new.reader c.args.line.now
    (g.O.Sink.held c.args.output.now) (g.O.Sink.held c.take_line.new.output) c.take_line.result stands less
    c.requires.says (c.take_line.ensures.takes seen.stream seen.ended stands.read)
