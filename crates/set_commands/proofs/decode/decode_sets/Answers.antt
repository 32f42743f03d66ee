use Rattle.call_io.specs.Blocks.{held}
use Rattle.set_commands.specs.Decode.{IsDecoded}
use Rattle.command_base.proofs.LineEnds.{any_passes}
use Rattle.set_commands.proofs.decode.decode_sets.Goals as goal

pub returns-clause-outcome : goal.returns-clause-outcome
returns-clause-outcome g c = λ passes.
    any_passes IsDecoded (g.I.Source.left c.args.input.now) (g.I.Source.left c.carry_out_lines.new.input)
    (held g.O.Sink.held c.args.output.now) (held g.O.Sink.held c.carry_out_lines.new.output) passes
    c.carry_out_lines.result (c.carry_out_lines.ensures.outcome tt tt)

pub returns-clause-told : goal.returns-clause-told
returns-clause-told g c = c.carry_out_lines.ensures.told tt tt
