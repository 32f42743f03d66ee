use Rattle.std.proofs.Common.{rules, arith, true, ◌≡◌, []}
use Rattle.call_io.specs.Blocks.{held}
use Rattle.trace_text.specs.Script.{nothing_said, script_of}
use Rattle.command_base.specs.Outcome.{Outcome, streams_of}
use Rattle.script_commands.specs.Run.{run_reply}
use Rattle.script_stage.specs.ScriptTrace.{script_passes}
use Rattle.script_commands.specs.inner.RunLaws.{RunStands}
use Rattle.script_commands.proofs.RunLines.{run_first, run_outcome}
use Rattle.script_commands.proofs.run.run_script.Goals as goal

pub carry_out_lines-requires : goal.carry_out_lines-requires
carry_out_lines-requires g c = (
  record { said = nothing_said; events = [] },
  run_first c.new-stage.result c.new-stage.ensures.stands
      (record { calls = omega (arith, c.new-stage.ensures.calls); ticks = omega (arith, c.new-stage.ensures.ticks) }),
)

pub returns-clause-outcome : goal.returns-clause-outcome
returns-clause-outcome g c =
    let first : RunStands 0 (record { said = nothing_said; events = [] }) c.new-stage.result =
    run_first c.new-stage.result c.new-stage.ensures.stands
    (record { calls = omega (arith, c.new-stage.ensures.calls); ticks = omega (arith, c.new-stage.ensures.ticks) }) in
    let named = c.carry_out_lines.ensures.named in
    let o : Outcome (λ bytes r. r ≡ run_reply bytes) (λ bytes. script_passes (script_of bytes)) true
    (streams_of g.I.Source.left (held g.O.Sink.held) c.args.input.now c.args.output.now c.args.moments.now)
    (streams_of g.I.Source.left (held g.O.Sink.held) c.carry_out_lines.new.input c.carry_out_lines.new.output
    c.carry_out_lines.new.command.moments.now) c.carry_out_lines.result =
    run_outcome _ _ c.carry_out_lines.result
    (c.carry_out_lines.ensures.outcome (record { said = nothing_said; events = [] }) first) in
    search rules

pub returns-clause-told : goal.returns-clause-told
returns-clause-told g c =
    c.carry_out_lines.ensures.told (record { said = nothing_said; events = [] })
    (run_first c.new-stage.result c.new-stage.ensures.stands
    (record { calls = omega (arith, c.new-stage.ensures.calls); ticks = omega (arith, c.new-stage.ensures.ticks) }))
