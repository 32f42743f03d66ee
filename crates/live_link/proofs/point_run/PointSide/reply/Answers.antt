use Rattle.std.specs.Prelude.{ℕ, List}
use Rattle.std.proofs.Common.{refl, subst}
use Rattle.std.proofs.lemmas.Result.{err_from_is_err_and}
use Rattle.call_io.specs.Blocks.{held}
use Rattle.call_io.specs.Bytes.{Grew, GrewPartly}
use Rattle.link_parts.specs.declared.part.Part.{Part}
use Rattle.trace_text.specs.EntryLine.{text_of}
use Rattle.live_link.specs.LiveOutcome.{streams}
use Rattle.live_link.specs.PointLive.{round}
use Rattle.live_link.specs.inner.PointEnd.{PointActs, PointActsPartly}
use Rattle.live_link.proofs.PointBeats.{round_tick}
use Rattle.live_link.proofs.PointRounds.{message_is, sends_partly, tells_partly, tells_round}
use Rattle.live_link.proofs.RoundLemmas.{sending_ends, step_ends}
use Rattle.live_link.proofs.SideLemmas.{point_stands}
use Rattle.live_link.proofs.point_run.PointSide.reply.Goals as goal

-- the message could not be written
pub returns-in_err-send-clause-goes : goal.returns-in_err-send-clause-goes
returns-in_err-send-clause-goes g c over start script from lines rest pending x =
    let p = err_from_is_err_and c.from_residual.result c.from_residual.ensures.1 in
    rw (p.1, p.2)
    (sending_ends over start _ lines _ c.in_err-send.ensures.answers
    (sends_partly over start
    (streams script (held g.O.Sink.held c.args.trace.now) from (g.P.Sink.held c.args.to.now) c.args.moments.now)
    (streams script (held g.O.Sink.held c.args.trace.now) from (g.P.Sink.held c.send.new.to) c.args.moments.now)
    c.args.self.now lines rest pending x refl refl refl
    (subst (λ (z : List ℕ). GrewPartly (g.P.Sink.held c.args.to.now) (g.P.Sink.held c.send.new.to) z)
    (message_is c.args.self.now.end x.left _ x.stands c.gathered.ensures) c.in_err-send.ensures.partly)))

pub returns-in-Ok-clause-ready : goal.returns-in-Ok-clause-ready
returns-in-Ok-clause-ready g c =
    record {
      stands = point_stands _ _ _ _ c.in-Ok.ensures.ok c.requires.stands;
      going = c.requires.going;
    }

-- the round was told
pub returns-in-Ok-clause-goes : goal.returns-in-Ok-clause-goes
returns-in-Ok-clause-goes g c over start script from lines rest pending x =
    tells_round over start
    (streams script (held g.O.Sink.held c.args.trace.now) from (g.P.Sink.held c.args.to.now) c.args.moments.now)
    (streams script (held g.O.Sink.held c.tell_round.new.trace) from (g.P.Sink.held c.send.new.to) c.tell_round.new.moments)
    c.args.self.now lines rest pending x refl
    (subst (λ (z : List ℕ). Grew (g.P.Sink.held c.args.to.now) (g.P.Sink.held c.send.new.to) z)
    (message_is c.args.self.now.end x.left _ x.stands c.gathered.ensures) c.in_ok-send.ensures.sent)
    (λ es. Grew (held g.O.Sink.held c.args.trace.now) (held g.O.Sink.held c.tell_round.new.trace) (text_of es))
    (record c.args.self.now { room = c.send.new.room; end = c.tell_round.new.end }) (λ es h. h)
    (subst (λ (z : List Part). PointActs (λ es. Grew (held g.O.Sink.held c.args.trace.now) (held g.O.Sink.held c.tell_round.new.trace) (text_of es)) c.args.self.now.end c.tell_round.new.end (λ s. round s z))
    c.as_slice.ensures.value c.in-Ok.ensures.ok) refl
    c.in-Ok.ensures.moments (round_tick x.left c.args.self.now.parts.items)

-- a part of it was told
pub returns-in-Err-clause-goes : goal.returns-in-Err-clause-goes
returns-in-Err-clause-goes g c over start script from lines rest pending x =
    rw c.failed.ensures
    (step_ends over start _ lines c.in-Err.fault
    (tells_partly over start
    (streams script (held g.O.Sink.held c.args.trace.now) from (g.P.Sink.held c.args.to.now) c.args.moments.now)
    (streams script (held g.O.Sink.held c.tell_round.new.trace) from (g.P.Sink.held c.send.new.to) c.tell_round.new.moments)
    c.args.self.now lines rest pending x refl
    (subst (λ (z : List ℕ). Grew (g.P.Sink.held c.args.to.now) (g.P.Sink.held c.send.new.to) z)
    (message_is c.args.self.now.end x.left _ x.stands c.gathered.ensures) c.in_ok-send.ensures.sent)
    (λ es. GrewPartly (held g.O.Sink.held c.args.trace.now) (held g.O.Sink.held c.tell_round.new.trace) (text_of es))
    (λ es h. h)
    (subst (λ (z : List Part). PointActsPartly (λ es. GrewPartly (held g.O.Sink.held c.args.trace.now) (held g.O.Sink.held c.tell_round.new.trace) (text_of es)) c.args.self.now.end (λ s. round s z))
    c.as_slice.ensures.value c.in-Err.ensures.err) c.in-Err.ensures.moments))
