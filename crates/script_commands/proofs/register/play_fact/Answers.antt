use Rattle.std.specs.Prelude.{◌≡◌}
use Rattle.std.proofs.Common.{◌+◌, ◌≤◌, arith}
use Rattle.call_register.specs.Growth.{RegisterGrew}
use Rattle.script_stage.specs.Stage.{StageStandsFor}
use Rattle.script_stage.proofs.PlayedLines.{plays_said, plays_refused}
use Rattle.script_commands.proofs.register.play_fact.Goals as goal

pub returns-in-Ok-clause-plays : goal.returns-in-Ok-clause-plays
returns-in-Ok-clause-plays g c =
    plays_said c.args.line.now c.in-Ok.says c.number.result (StageStandsFor c.args.stage.now) c.args.stage.now
    c.obey.new.stage (g.O.Sink.held c.args.output.now) (g.O.Sink.held c.obey.new.output)
    _ _ (λ n. c.obey.new.moments ≤ c.args.moments.now + n) c.obey.result c.in-Ok.ensures c.number.ensures
    c.obey.ensures.plays

pub returns-in-Err-clause-plays : goal.returns-in-Err-clause-plays
returns-in-Err-clause-plays g c =
    plays_refused c.args.line.now c.in-Err.bad (StageStandsFor c.args.stage.now) c.args.stage.now
    c.args.stage.now (g.O.Sink.held c.args.output.now) (g.O.Sink.held c.refuse.new.output)
    (λ es. RegisterGrew c.args.calls.now c.args.calls.now es
    × (g.O.Sink.held c.refuse.new.output ≡ g.O.Sink.held c.args.output.now))
    (λ es. g.O.Sink.held c.refuse.new.output ≡ g.O.Sink.held c.args.output.now)
    (λ n. c.args.moments.now ≤ c.args.moments.now + n) c.refuse.result
    (omega arith) c.in-Err.ensures c.refuse.ensures.ends
