use Rattle.std.proofs.Common.{rules, true, ◌≡◌}
use Rattle.call_io.specs.Blocks.{held}
use Rattle.command_base.specs.Outcome.{Outcome, streams_of}
use Rattle.relay_command.specs.Relay.{relay_passes, relay_reply}
use Rattle.relay_command.proofs.FirstSeen.{first_seen, relay_first}
use Rattle.relay_command.proofs.play.play_relay.Goals as goal

pub carry_out_lines-requires : goal.carry_out_lines-requires
carry_out_lines-requires g c = (
  first_seen,
  relay_first c.new-stage.result c.new-desk.result c.new-stage.ensures.stands c.new-stage.ensures.calls
      c.new-stage.ensures.ticks c.new-desk.ensures,
)

pub returns-clause-outcome : goal.returns-clause-outcome
returns-clause-outcome g c =
    let named = c.carry_out_lines.ensures.named in
    let o : Outcome (λ bytes r. r ≡ relay_reply bytes) relay_passes true
    (streams_of g.I.Source.left (held g.O.Sink.held) c.args.input.now c.args.output.now c.args.moments.now)
    (streams_of g.I.Source.left (held g.O.Sink.held) c.carry_out_lines.new.input c.carry_out_lines.new.output
    c.carry_out_lines.new.command.moments.now) c.carry_out_lines.result =
    c.carry_out_lines.ensures.outcome first_seen
    (relay_first c.new-stage.result c.new-desk.result c.new-stage.ensures.stands c.new-stage.ensures.calls
    c.new-stage.ensures.ticks c.new-desk.ensures) in
    search rules

pub returns-clause-told : goal.returns-clause-told
returns-clause-told g c =
    c.carry_out_lines.ensures.told first_seen
    (relay_first c.new-stage.result c.new-desk.result c.new-stage.ensures.stands c.new-stage.ensures.calls
    c.new-stage.ensures.ticks c.new-desk.ensures)
