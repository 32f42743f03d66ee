use Rattle.std.proofs.Common.{◌+◌, ◌≤◌, arith}
use Rattle.tones_command.proofs.ReadLines.{draws_said, line_refused, line_said, no_draws}
use Rattle.tones_command.proofs.tones.play_line.Goals as goal

pub returns-in-Ok-clause-turns : goal.returns-in-Ok-clause-turns
returns-in-Ok-clause-turns g c = λ seen ready.
    line_said c.args.line.now c.in-Ok.says c.number.result seen c.args.stage.now c.play_said.new.stage
    c.args.frames.now c.play_said.new.frames (g.O.Sink.held c.args.output.now) (g.O.Sink.held c.play_said.new.output)
    (λ n. c.play_said.new.moments ≤ c.args.moments.now + n) c.play_said.result c.in-Ok.ensures c.number.ensures
    (c.play_said.ensures.turns seen ready)

pub returns-in-Ok-clause-drawn : goal.returns-in-Ok-clause-drawn
returns-in-Ok-clause-drawn g c = λ seen ready told reads.
    draws_said c.args.line.now c.in-Ok.says told seen c.play_said.new.modem.x c.in-Ok.ensures
    (c.play_said.ensures.drawn seen ready) reads

pub returns-in-Err-clause-turns : goal.returns-in-Err-clause-turns
returns-in-Err-clause-turns g c = λ seen ready.
    line_refused c.args.line.now c.in-Err.bad seen c.args.stage.now c.args.frames.now
    (g.O.Sink.held c.args.output.now) (g.O.Sink.held c.refuse.new.output)
    (λ n. c.args.moments.now ≤ c.args.moments.now + n) c.refuse.result (omega arith) c.in-Err.ensures
    c.refuse.ensures.ends

pub returns-in-Err-clause-drawn : goal.returns-in-Err-clause-drawn
returns-in-Err-clause-drawn g c = λ seen ready told reads.
    no_draws c.args.line.now c.in-Err.bad told seen c.args.modem.now.x c.in-Err.ensures reads
