use Rattle.std.specs.Prelude.{◌≡◌, Err}
use Rattle.std.proofs.Common.{ap}
use Rattle.call_io.specs.Blocks.{held}
use Rattle.command_base.specs.declared.status.Status.TheVariants as status
use Rattle.command_base.proofs.CommandTurns.{found, finished, unread, end_reads, end_reads_on, taken_on, line_silent, found_less, end_silent, unread_silent}
use Rattle.command_base.proofs.lines.take_turn.Goals as goal

pub returns-then-found-clause-turns : goal.returns-then-found-clause-turns
returns-then-found-clause-turns g c = λ start first s.
    let reads = rw c.if-found.true at c.in-Ok.ensures.reads in
    found g.C.LineCommand.rest g.C.LineCommand.most first g.C.LineCommand.closes (g.C.LineCommand.stands c.args.command.now)
    (g.C.LineCommand.stands c.take.new.self) (g.met.C.LineCommand.lined c.args.command.now) start _
    (g.C.LineCommand.count c.take.new.self).passes c.args.lines.now c.read_line.new.lines c.line.result
    (g.I.Source.left c.read_line.new.input) (held g.O.Sink.held c.read_line.new.output)
    (held g.O.Sink.held c.take.new.output) reads.1 c.line.ensures reads.0 c.take.result c.take.ensures.takes s

pub returns-else-found-clause-turns : goal.returns-else-found-clause-turns
returns-else-found-clause-turns g c = λ start first s.
    let reads = rw c.if-found.false at c.in-Ok.ensures.reads in
    rw c.finish.ensures.counted_still (
    finished g.C.LineCommand.rest g.C.LineCommand.most first g.C.LineCommand.closes (g.C.LineCommand.stands c.args.command.now)
    (g.met.C.LineCommand.lined c.args.command.now) start _ c.args.lines.now c.read_line.new.lines
    (g.I.Source.left c.read_line.new.input) (held g.O.Sink.held c.read_line.new.output)
    (held g.O.Sink.held c.finish.new.output) reads.1 reads.0 c.finish.result c.finish.ensures.ends s)

pub returns-in-Err-clause-turns : goal.returns-in-Err-clause-turns
returns-in-Err-clause-turns g c = λ start first s.
    unread g.C.LineCommand.rest g.C.LineCommand.most first g.C.LineCommand.closes (g.C.LineCommand.stands c.args.command.now)
    (g.met.C.LineCommand.lined c.args.command.now) start _ c.args.lines.now c.read_line.new.lines
    (g.I.Source.left c.read_line.new.input) (held g.O.Sink.held c.read_line.new.output) c.in-Err.status
    c.in-Err.ensures.reads s

pub returns-else-found-clause-unread : goal.returns-else-found-clause-unread
returns-else-found-clause-unread g c =
    end_reads g.C.LineCommand.rest g.C.LineCommand.most c.requires.stands.0 g.C.LineCommand.closes c.requires.stands.0 0
    (held g.O.Sink.held c.read_line.new.output) (held g.O.Sink.held c.finish.new.output)
    (g.I.Source.faults c.args.input.now) (g.I.Source.faults c.read_line.new.input) c.in-Ok.ensures.unread
    c.finish.result (c.finish.ensures.ends _ c.requires.stands.0 c.requires.stands.1 0)

pub returns-then-found-clause-silent : goal.returns-then-found-clause-silent
returns-then-found-clause-silent g c = λ quiet turn.
    let reads = rw c.if-found.true at c.in-Ok.ensures.reads in
    line_silent g.C.LineCommand.rest g.C.LineCommand.most c.requires.stands.0 g.C.LineCommand.closes
    (g.C.LineCommand.stands c.take.new.self c.line.result.number) c.requires.stands.0 c.line.result.number
    c.line.result.text (g.C.LineCommand.count c.args.command.now).passes
    (g.C.LineCommand.count c.take.new.self).passes (held g.O.Sink.held c.args.output.now)
    (held g.O.Sink.held c.read_line.new.output) (held g.O.Sink.held c.take.new.output) reads.1 c.take.result
    (c.take.ensures.takes c.args.lines.now.lines c.requires.stands.0 c.requires.stands.1
    (found_less c.args.lines.now c.read_line.new.lines c.line.result (g.I.Source.left c.args.input.now)
    (g.I.Source.left c.read_line.new.input) c.line.ensures reads.0)) (c.take.ensures.silent quiet) turn

pub returns-else-found-clause-silent : goal.returns-else-found-clause-silent
returns-else-found-clause-silent g c = λ quiet turn.
    let reads = rw c.if-found.false at c.in-Ok.ensures.reads in
    end_silent g.C.LineCommand.rest g.C.LineCommand.most c.requires.stands.0 g.C.LineCommand.closes c.requires.stands.0 0
    (held g.O.Sink.held c.args.output.now) (held g.O.Sink.held c.read_line.new.output)
    (held g.O.Sink.held c.finish.new.output) reads.1 c.finish.result
    (c.finish.ensures.ends _ c.requires.stands.0 c.requires.stands.1 0) turn

pub returns-in-Err-clause-silent : goal.returns-in-Err-clause-silent
returns-in-Err-clause-silent g c = λ quiet turn.
    unread_silent c.args.lines.now c.read_line.new.lines (g.I.Source.left c.args.input.now)
    (g.I.Source.left c.read_line.new.input) (held g.O.Sink.held c.args.output.now)
    (held g.O.Sink.held c.read_line.new.output) c.in-Err.status c.in-Err.ensures.reads turn

pub returns-then-found-clause-handed : goal.returns-then-found-clause-handed
returns-then-found-clause-handed g c = λ is.
    let reads = rw c.if-found.true at c.in-Ok.ensures.reads in
    absurd (taken_on g.C.LineCommand.rest g.C.LineCommand.most (g.C.LineCommand.stands c.take.new.self c.line.result.number)
    c.requires.stands.0 c.line.result.number c.line.result.text (g.C.LineCommand.count c.args.command.now).passes
    (g.C.LineCommand.count c.take.new.self).passes (held g.O.Sink.held c.read_line.new.output)
    (held g.O.Sink.held c.take.new.output) c.take.result
    (c.take.ensures.takes c.args.lines.now.lines c.requires.stands.0 c.requires.stands.1
    (found_less c.args.lines.now c.read_line.new.lines c.line.result (g.I.Source.left c.args.input.now)
    (g.I.Source.left c.read_line.new.input) c.line.ensures reads.0)) is)

pub returns-else-found-clause-handed : goal.returns-else-found-clause-handed
returns-else-found-clause-handed g c = λ is.
    absurd (end_reads_on (g.C.LineCommand.rest c.requires.stands.0) 0 (held g.O.Sink.held c.read_line.new.output)
    (held g.O.Sink.held c.finish.new.output) c.finish.result
    (c.finish.ensures.ends _ c.requires.stands.0 c.requires.stands.1 0) (cc is))

pub returns-in-Err-clause-handed : goal.returns-in-Err-clause-handed
returns-in-Err-clause-handed g c = λ is. c.in-Err.ensures.handed (let same : c.in-Err.status ≡ status.ReadFault = cc is in ap Err same)
