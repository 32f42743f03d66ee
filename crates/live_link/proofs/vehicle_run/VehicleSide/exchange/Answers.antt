use Rattle.std.specs.Prelude.{ℕ, List}
use Rattle.std.proofs.Common.{refl, sym, subst}
use Rattle.std.proofs.lemmas.Result.{err_from_is_err_and}
use Rattle.call_io.specs.Blocks.{held}
use Rattle.call_io.specs.Bytes.{Grew, GrewPartly}
use Rattle.call_io.proofs.BytesLemmas.{GrewPartly-nothing}
use Rattle.link_frames.specs.declared.frame.End.TheVariants as «end»
use Rattle.live_link.specs.inner.Going.{IsOfSending, IsOfWriting}
use Rattle.live_link.specs.inner.Receiving.{Stops}
use Rattle.live_link.specs.inner.VehicleGoes.{outside}
use Rattle.live_link.proofs.RoundLemmas.{sending_ends, writing_ends}
use Rattle.live_link.proofs.VehicleRounds.{message_is, reads_none, reads_what, sends_partly}
use Rattle.live_link.proofs.vehicle_run.VehicleSide.exchange.Goals as goal

-- what is pending could not be handed over
pub returns-in_err-empty-clause-goes : goal.returns-in_err-empty-clause-goes
returns-in_err-empty-clause-goes g c over start script passes lines rest first pending at =
    let p = err_from_is_err_and c.from_residual.result c.from_residual.ensures.1 in
    rw p.1
    (writing_ends over start _ lines p.0 (subst IsOfWriting (sym p.2) c.in_err-empty.ensures.answers)
    (sends_partly over start
    (outside (held g.O.Sink.held c.args.trace.now) (g.I.Source.left c.args.from.now) (g.P.Sink.held c.args.to.now) script passes)
    (outside (held g.O.Sink.held c.empty.new.trace) (g.I.Source.left c.args.from.now) (g.P.Sink.held c.args.to.now) script passes)
    c.args.self.now lines rest first pending at refl c.in_err-empty.ensures.held refl (GrewPartly-nothing _ _)))

-- the message could not be written
pub returns-in_err-send-clause-goes : goal.returns-in_err-send-clause-goes
returns-in_err-send-clause-goes g c over start script passes lines rest first pending at =
    let p = err_from_is_err_and c.from_residual-in_err-send.result c.from_residual-in_err-send.ensures.1 in
    rw p.1
    (sending_ends over start _ lines p.0 (subst IsOfSending (sym p.2) c.in_err-send.ensures.answers)
    (sends_partly over start
    (outside (held g.O.Sink.held c.args.trace.now) (g.I.Source.left c.args.from.now) (g.P.Sink.held c.args.to.now) script passes)
    (outside (held g.O.Sink.held c.empty.new.trace) (g.I.Source.left c.args.from.now) (g.P.Sink.held c.send.new.to) script passes)
    c.args.self.now lines rest first pending at refl c.in_ok-empty.ensures.held refl
    (subst (λ (z : List ℕ). GrewPartly (g.P.Sink.held c.args.to.now) (g.P.Sink.held c.send.new.to) z)
    (message_is c.args.self.now.end at.left _ at.stands c.gathered.ensures) c.in_err-send.ensures.partly)))

-- no message could be read
pub returns-in_err-receive-clause-goes : goal.returns-in_err-receive-clause-goes
returns-in_err-receive-clause-goes g c over start script passes lines rest first pending at =
    let p = err_from_is_err_and c.from_residual-in_err-receive.result c.from_residual-in_err-receive.ensures.1 in
    rw p.1
    (reads_none over start
    (outside (held g.O.Sink.held c.args.trace.now) (g.I.Source.left c.args.from.now) (g.P.Sink.held c.args.to.now) script passes)
    (outside (held g.O.Sink.held c.empty.new.trace) (g.I.Source.left c.receive.new.from) (g.P.Sink.held c.send.new.to) script passes)
    c.args.self.now lines rest first pending at c.in_ok-empty.ensures.held
    (subst (λ (z : List ℕ). Grew (g.P.Sink.held c.args.to.now) (g.P.Sink.held c.send.new.to) z)
    (message_is c.args.self.now.end at.left _ at.stands c.gathered.ensures) c.in_ok-send.ensures.sent)
    p.0 refl
    (subst (λ how. Stops «end».Vehicle start.from (g.I.Source.left c.receive.new.from) at.brought.octets how) (sym p.2)
    (c.in_err-receive.ensures.receives start.from at.brought.octets at.brought.stands)))

-- one was read
pub returns-clause-goes : goal.returns-clause-goes
returns-clause-goes g c over start script passes lines rest first pending at =
    reads_what over start
    (outside (held g.O.Sink.held c.args.trace.now) (g.I.Source.left c.args.from.now) (g.P.Sink.held c.args.to.now) script passes)
    (outside (held g.O.Sink.held c.empty.new.trace) (g.I.Source.left c.receive.new.from) (g.P.Sink.held c.send.new.to) script passes)
    c.args.self.now lines rest first pending at c.in_ok-empty.ensures.held
    (subst (λ (z : List ℕ). Grew (g.P.Sink.held c.args.to.now) (g.P.Sink.held c.send.new.to) z)
    (message_is c.args.self.now.end at.left _ at.stands c.gathered.ensures) c.in_ok-send.ensures.sent)
    (record c.args.self.now { receiver = c.receive.new.self; parts = c.receive.new.parts; room = c.send.new.room }) refl refl
    _ c.in_ok-receive.ensures.going
    (c.in_ok-receive.ensures.receives start.from at.brought.octets at.brought.stands)
