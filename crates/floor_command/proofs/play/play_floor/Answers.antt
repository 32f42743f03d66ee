use Rattle.std.proofs.Common.{rules, arith, true, ◌≡◌, []}
use Rattle.call_io.specs.Blocks.{held}
use Rattle.floor_command.specs.FloorScript.{nothing_said}
use Rattle.command_base.specs.Outcome.{Outcome, streams_of}
use Rattle.floor_command.specs.FloorRun.{floor_passes, floor_reply}
use Rattle.floor_command.specs.inner.FloorLaws.{FloorRunStands}
use Rattle.floor_command.proofs.FloorLines.{floor_first, floor_outcome}
use Rattle.floor_command.proofs.play.play_floor.Goals as goal

pub carry_out_lines-requires : goal.carry_out_lines-requires
carry_out_lines-requires g c = (
  record { said = nothing_said; events = [] },
  floor_first c.new-stage.result c.new-stage.ensures.stands
      (record { calls = omega (arith, c.new-stage.ensures.calls); ticks = omega (arith, c.new-stage.ensures.ticks) }),
)

pub returns-clause-outcome : goal.returns-clause-outcome
returns-clause-outcome g c =
    let first : FloorRunStands 0 (record { said = nothing_said; events = [] }) c.new-stage.result =
    floor_first c.new-stage.result c.new-stage.ensures.stands
    (record { calls = omega (arith, c.new-stage.ensures.calls); ticks = omega (arith, c.new-stage.ensures.ticks) }) in
    let named = c.carry_out_lines.ensures.named in
    let o : Outcome (λ bytes r. r ≡ floor_reply bytes) floor_passes true
    (streams_of g.I.Source.left (held g.O.Sink.held) c.args.input.now c.args.output.now c.args.moments.now)
    (streams_of g.I.Source.left (held g.O.Sink.held) c.carry_out_lines.new.input c.carry_out_lines.new.output
    c.carry_out_lines.new.command.moments.now) c.carry_out_lines.result =
    floor_outcome _ _ c.carry_out_lines.result
    (c.carry_out_lines.ensures.outcome (record { said = nothing_said; events = [] }) first) in
    search rules

pub returns-clause-told : goal.returns-clause-told
returns-clause-told g c =
    c.carry_out_lines.ensures.told (record { said = nothing_said; events = [] })
    (floor_first c.new-stage.result c.new-stage.ensures.stands
    (record { calls = omega (arith, c.new-stage.ensures.calls); ticks = omega (arith, c.new-stage.ensures.ticks) }))
