use Rattle.script_commands.proofs.RegisterLines.{takes_end}
use Rattle.script_commands.proofs.register.RegisteringLineCommand.finish.Goals as goal

pub returns-clause-ends : goal.returns-clause-ends
returns-clause-ends g c = λ before seen stands number.
    takes_end before number seen c.args.self.now.stage.now c.args.self.now.calls.now (g.O.Sink.held c.args.output.now)
    (g.O.Sink.held c.write_calls.new.output) c.write_calls.result stands c.write_calls.ensures.ends
