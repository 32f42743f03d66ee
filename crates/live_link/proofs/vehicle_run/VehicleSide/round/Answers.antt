use Rattle.std.specs.Prelude.{List}
use Rattle.std.proofs.Common.{refl, subst}
use Rattle.std.proofs.lemmas.Result.{err_from_is_err_and}
use Rattle.call_io.specs.Blocks.{held}
use Rattle.call_io.specs.Bytes.{Grew, GrewPartly}
use Rattle.link_parts.specs.declared.part.Part.{Part}
use Rattle.trace_text.specs.EntryLine.{text_of}
use Rattle.live_link.specs.LiveOutcome.{streams}
use Rattle.live_link.specs.VehicleLive.{round}
use Rattle.live_link.specs.inner.VehicleEnd.{Acts, ActsPartly}
use Rattle.live_link.specs.inner.VehicleGoes.{outside}
use Rattle.live_link.proofs.RoundLemmas.{step_ends}
use Rattle.live_link.proofs.SideLemmas.{vehicle_stands}
use Rattle.live_link.proofs.VehicleBeats.{round_tick}
use Rattle.live_link.proofs.VehicleRounds.{tells_partly, tells_round}
use Rattle.live_link.proofs.vehicle_run.VehicleSide.round.Goals as goal

-- the messages were not exchanged
pub returns-in_err-exchange-clause-goes : goal.returns-in_err-exchange-clause-goes
returns-in_err-exchange-clause-goes g c over start script lines rest first pending at =
    let p = err_from_is_err_and c.from_residual.result c.from_residual.ensures.1 in
    rw (p.1, p.2) (c.in_err-exchange.ensures.goes over start script c.args.moments.now lines rest first pending at)

pub returns-in-Ok-clause-ready : goal.returns-in-Ok-clause-ready
returns-in-Ok-clause-ready g c =
    let before = c.in_ok-exchange.ensures.ready in
    record { stands = vehicle_stands _ _ _ _ c.in-Ok.ensures.ok before.stands; going = before.going }

-- the round was told
pub returns-in-Ok-clause-goes : goal.returns-in-Ok-clause-goes
returns-in-Ok-clause-goes g c over start script lines rest first pending at =
    let x = c.in_ok-exchange.ensures.goes over start script c.args.moments.now lines rest first pending at in
    tells_round over start
    (outside (held g.O.Sink.held c.exchange.new.trace) (g.I.Source.left c.exchange.new.from) (g.P.Sink.held c.exchange.new.to) script c.args.moments.now)
    (streams script (held g.O.Sink.held c.tell_round.new.trace) (g.I.Source.left c.exchange.new.from) (g.P.Sink.held c.exchange.new.to) c.tell_round.new.moments)
    c.exchange.new.self lines rest pending x refl refl
    (λ es. Grew (held g.O.Sink.held c.exchange.new.trace) (held g.O.Sink.held c.tell_round.new.trace) (text_of es))
    (record c.exchange.new.self { end = c.tell_round.new.end }) (λ es h. h)
    (subst (λ (z : List Part). Acts (λ es. Grew (held g.O.Sink.held c.exchange.new.trace) (held g.O.Sink.held c.tell_round.new.trace) (text_of es)) c.exchange.new.self.end c.tell_round.new.end (λ s. round s z))
    c.as_slice.ensures.value c.in-Ok.ensures.ok) refl
    c.in-Ok.ensures.moments (round_tick x.left c.exchange.new.self.parts.items)

-- a part of it was told
pub returns-in-Err-clause-goes : goal.returns-in-Err-clause-goes
returns-in-Err-clause-goes g c over start script lines rest first pending at =
    let x = c.in_ok-exchange.ensures.goes over start script c.args.moments.now lines rest first pending at in
    rw c.failed.ensures
    (step_ends over start _ lines c.in-Err.fault
    (tells_partly over start
    (outside (held g.O.Sink.held c.exchange.new.trace) (g.I.Source.left c.exchange.new.from) (g.P.Sink.held c.exchange.new.to) script c.args.moments.now)
    (streams script (held g.O.Sink.held c.tell_round.new.trace) (g.I.Source.left c.exchange.new.from) (g.P.Sink.held c.exchange.new.to) c.tell_round.new.moments)
    c.exchange.new.self lines rest pending x refl refl
    (λ es. GrewPartly (held g.O.Sink.held c.exchange.new.trace) (held g.O.Sink.held c.tell_round.new.trace) (text_of es))
    (λ es h. h)
    (subst (λ (z : List Part). ActsPartly (λ es. GrewPartly (held g.O.Sink.held c.exchange.new.trace) (held g.O.Sink.held c.tell_round.new.trace) (text_of es)) c.exchange.new.self.end (λ s. round s z))
    c.as_slice.ensures.value c.in-Err.ensures.err) c.in-Err.ensures.moments))
