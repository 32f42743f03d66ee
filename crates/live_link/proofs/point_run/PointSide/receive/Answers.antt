use Rattle.std.proofs.Common.{refl}
use Rattle.std.proofs.lemmas.Result.{err_from_is_err_and}
use Rattle.call_io.specs.Blocks.{held}
use Rattle.live_link.specs.LiveOutcome.{streams}
use Rattle.live_link.proofs.PointRounds.{message_cut, reads_round}
use Rattle.live_link.proofs.RoundLemmas.{writing_ends}
use Rattle.live_link.proofs.point_run.PointSide.receive.Goals as goal

-- what is pending could not be handed over
pub returns-in_err-empty-clause-goes : goal.returns-in_err-empty-clause-goes
returns-in_err-empty-clause-goes g c over start script to passes lines rest first later at =
    let p = err_from_is_err_and c.from_residual.result c.from_residual.ensures.1 in
    rw (p.1, p.2)
    (writing_ends over start _ lines _ c.in_err-empty.ensures.answers
    (message_cut over start
    (streams script (held g.O.Sink.held c.args.trace.now) (g.I.Source.left c.args.from.now) to passes)
    (streams script (held g.O.Sink.held c.empty.new.trace) (g.I.Source.left c.args.from.now) to passes)
    c.args.self.now lines rest first later at c.in_err-empty.ensures.held refl refl
    c.args.self.now.receiver.octets.pending at.brought.stands.so_far.took))

-- what was read
pub returns-clause-goes : goal.returns-clause-goes
returns-clause-goes g c over start script to passes lines rest first later at =
    reads_round over start
    (streams script (held g.O.Sink.held c.args.trace.now) (g.I.Source.left c.args.from.now) to passes)
    (streams script (held g.O.Sink.held c.empty.new.trace) (g.I.Source.left c.receive.new.from) to passes)
    c.args.self.now lines rest first later at c.in_ok-empty.ensures.held refl refl
    (record c.args.self.now { receiver = c.receive.new.self; parts = c.receive.new.parts }) refl c.receive.result
    (c.receive.ensures.receives start.from at.brought.octets at.brought.stands)
