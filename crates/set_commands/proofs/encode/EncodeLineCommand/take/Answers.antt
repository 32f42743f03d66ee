use Rattle.set_commands.proofs.EncodeLines.{takes_line}
use Rattle.set_commands.proofs.encode.EncodeLineCommand.take.Goals as goal

pub returns-clause-takes : goal.returns-clause-takes
returns-clause-takes g c = λ before facts stands less.
    takes_line facts c.args.line.now (g.O.Sink.held c.args.output.now) (g.O.Sink.held c.obey.new.output)
    c.obey.new.draft c.obey.result c.requires.says (c.obey.ensures.takes facts stands)
