use Rattle.std.specs.Prelude.{◌≡◌}
use Rattle.std.proofs.Common.{◌+◌, ◌≤◌, refl}
use Rattle.call_register.specs.Growth.{RegisterGrew}
use Rattle.trace_text.specs.Script.{placed}
use Rattle.command_base.specs.declared.refusal.Refused.TheVariants as refused
use Rattle.script_stage.proofs.PlayedLines.{refused_by}
use Rattle.script_commands.proofs.register.obey.Goals as goal

pub returns-in-Err-Refused-clause-plays : goal.returns-in-Err-Refused-clause-plays
returns-in-Err-Refused-clause-plays g c = λ said events stands.
    let obeys = rw c.in-Err-Refused.field-0-is at (c.in-Err-Refused.ensures.obeys said events stands) in
    refused_by (placed said c.args.says.now) c.args.number said events c.args.stage.now c.obey.new.self
    (g.O.Sink.held c.args.output.now) (g.O.Sink.held c.refuse_line.new.output)
    (λ es. RegisterGrew c.args.calls.now c.obey.new.to es
    × (g.O.Sink.held c.refuse_line.new.output ≡ g.O.Sink.held c.args.output.now))
    (λ es. g.O.Sink.held c.refuse_line.new.output ≡ g.O.Sink.held c.args.output.now)
    (λ n. c.obey.new.moments ≤ c.args.moments.now + n) c.in-Err-Refused.reason
    (refused.Line (record { line = c.args.number; reason = c.in-Err-Refused.reason })) obeys.0 refl obeys.2
    c.refuse_line.result c.refuse_line.ensures.ends
