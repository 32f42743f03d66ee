use Rattle.script_commands.proofs.RegisterLines.{silent_line, takes_line}
use Rattle.script_commands.proofs.register.RegisteringLineCommand.take.Goals as goal

pub returns-clause-takes : goal.returns-clause-takes
returns-clause-takes g c = λ before seen stands less.
    takes_line before seen c.args.self.now.stage.now c.play_line.new.stage c.args.self.now.calls.now c.play_line.new.calls
    c.args.line.now c.args.self.now.moments.now c.play_line.new.moments (g.O.Sink.held c.args.output.now)
    (g.O.Sink.held c.play_line.new.output) stands less c.requires.says c.play_line.result
    (c.play_line.ensures.plays seen.said seen.events stands.stage_stands)

pub returns-clause-silent : goal.returns-clause-silent
returns-clause-silent g c = λ quiet line.
    silent_line _ _ _ _ _ _ _ _ _ _ _ c.play_line.result
    (c.play_line.ensures.plays c.requires.stands.1.said c.requires.stands.1.events
    c.requires.stands.2.stage_stands) line
