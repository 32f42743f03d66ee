use Rattle.set_commands.proofs.FramesLines.{takes_end}
use Rattle.set_commands.proofs.frames.FramesLineCommand.finish.Goals as goal

pub returns-clause-ends : goal.returns-clause-ends
returns-clause-ends g c = λ before seen stands number.
    takes_end before number seen c.args.self.now.reader (g.O.Sink.held c.args.output.now)
    (g.O.Sink.held c.write_rest.new.output) c.write_rest.result stands c.write_rest.ensures.ends
