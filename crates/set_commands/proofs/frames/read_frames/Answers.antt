use Rattle.call_io.specs.Blocks.{held}
use Rattle.std.proofs.Common.{[]}
use Rattle.set_commands.specs.Frames.{IsFrames}
use Rattle.set_commands.specs.inner.FrameTurns.{FramesStand}
use Rattle.set_commands.proofs.FramesLines.{frames_first}
use Rattle.command_base.proofs.LineEnds.{any_passes}
use Rattle.set_commands.proofs.frames.read_frames.Goals as goal

pub carry_out_lines-requires : goal.carry_out_lines-requires
carry_out_lines-requires g c =
    (record { stream = []; ended = [] }, rw c.new-reader.ensures frames_first)

pub returns-clause-outcome : goal.returns-clause-outcome
returns-clause-outcome g c = λ passes.
    let first : FramesStand 0 (record { stream = []; ended = [] }) c.new-reader.result =
    rw c.new-reader.ensures frames_first in
    any_passes IsFrames (g.I.Source.left c.args.input.now) (g.I.Source.left c.carry_out_lines.new.input)
    (held g.O.Sink.held c.args.output.now) (held g.O.Sink.held c.carry_out_lines.new.output) passes
    c.carry_out_lines.result (c.carry_out_lines.ensures.outcome (record { stream = []; ended = [] }) first)

pub returns-clause-told : goal.returns-clause-told
returns-clause-told g c = c.carry_out_lines.ensures.told (record { stream = []; ended = [] }) (rw c.new-reader.ensures frames_first)
