use Rattle.std.proofs.Common.{rules, arith, true, ◌≡◌}
use Rattle.call_io.specs.Blocks.{held}
use Rattle.command_base.specs.Outcome.{Outcome, streams_of}
use Rattle.tones_command.specs.Tones.{tones_passes, tones_reply}
use Rattle.tones_command.specs.inner.ToneSeen.{TonesStand}
use Rattle.tones_command.proofs.TonesLines.{first_seen, tones_first, tones_outcome}
use Rattle.tones_command.proofs.tones.play_tones.Goals as goal

pub carry_out_lines-requires : goal.carry_out_lines-requires
carry_out_lines-requires g c = (
  first_seen c.args.noise.now,
  tones_first c.args.noise.now c.new-stage.result c.new-frames.result c.new-modem.result c.new-stage.ensures.stands
      (record { calls = omega (arith, c.new-stage.ensures.calls); ticks = omega (arith, c.new-stage.ensures.ticks) })
      c.new-frames.ensures c.new-modem.ensures.most c.new-modem.ensures.bound c.new-modem.ensures.x,
)

pub returns-clause-outcome : goal.returns-clause-outcome
returns-clause-outcome g c =
    let first : TonesStand 0 (first_seen c.args.noise.now) c.new-stage.result c.new-frames.result c.new-modem.result =
    tones_first c.args.noise.now c.new-stage.result c.new-frames.result c.new-modem.result c.new-stage.ensures.stands
    (record { calls = omega (arith, c.new-stage.ensures.calls); ticks = omega (arith, c.new-stage.ensures.ticks) })
    c.new-frames.ensures c.new-modem.ensures.most c.new-modem.ensures.bound c.new-modem.ensures.x in
    let named = c.carry_out_lines.ensures.named in
    let o : Outcome (λ bytes r. r ≡ tones_reply c.args.noise.now bytes) (λ bytes. tones_passes c.args.noise.now bytes) true
    (streams_of g.I.Source.left (held g.O.Sink.held) c.args.input.now c.args.output.now c.args.moments.now)
    (streams_of g.I.Source.left (held g.O.Sink.held) c.carry_out_lines.new.input c.carry_out_lines.new.output
    c.carry_out_lines.new.command.moments.now) c.carry_out_lines.result =
    tones_outcome c.args.noise.now _ _ c.carry_out_lines.result
    (c.carry_out_lines.ensures.outcome (first_seen c.args.noise.now) first) in
    search rules

pub returns-clause-told : goal.returns-clause-told
returns-clause-told g c =
    c.carry_out_lines.ensures.told (first_seen c.args.noise.now)
    (tones_first c.args.noise.now c.new-stage.result c.new-frames.result c.new-modem.result c.new-stage.ensures.stands
    (record { calls = omega (arith, c.new-stage.ensures.calls); ticks = omega (arith, c.new-stage.ensures.ticks) })
    c.new-frames.ensures c.new-modem.ensures.most c.new-modem.ensures.bound c.new-modem.ensures.x)
