use Rattle.std.specs.Prelude.{List, []}
use Rattle.std.proofs.Common.{refl, sym, ap, subst, ◌∙◌}
use Rattle.call_io.specs.Blocks.{held}
use Rattle.call_io.specs.Bytes.{Grew, GrewPartly}
use Rattle.trace_text.specs.EntryLine.{text_of}
use Rattle.live_link.specs.LiveOutcome.{streams}
use Rattle.live_link.specs.Runs.{Beat, beat_of, rounds_of}
use Rattle.live_link.specs.inner.PointGoes.{PointAt}
use Rattle.live_link.proofs.PointBeats.{tells_line, tells_line_partly}
use Rattle.live_link.proofs.RoundLemmas.{step_ends}
use Rattle.live_link.proofs.VehicleBeats.{heard_beat}
use Rattle.live_link.proofs.point_run.PointSide.obey.Goals as goal

-- rounds
pub returns-in-Tick-clause-goes : goal.returns-in-Tick-clause-goes
returns-in-Tick-clause-goes g c over start script lines rest at =
    let before = streams script (held g.O.Sink.held c.args.trace.now) (g.I.Source.left c.args.from.now) (g.P.Sink.held c.args.to.now) c.args.moments.now in
    c.rounds.ensures.goes over start script lines rest
    (subst (λ (z : List Beat). PointAt over start before c.args.self.now lines rest z)
    (ap beat_of c.in-Tick.is ∙ ap rounds_of (sym c.number.ensures.value)) at)

-- what is heard at once was told
pub returns-in-Ok-clause-goes : goal.returns-in-Ok-clause-goes
returns-in-Ok-clause-goes g c over start script lines rest at =
    let before = streams script (held g.O.Sink.held c.args.trace.now) (g.I.Source.left c.args.from.now) (g.P.Sink.held c.args.to.now) c.args.moments.now in
    tells_line over start before
    (streams script (held g.O.Sink.held c.tell_line.new.trace) (g.I.Source.left c.args.from.now) (g.P.Sink.held c.args.to.now) c.args.moments.now)
    c.args.self.now lines rest c.args.event.now []
    (subst (λ (z : List Beat). PointAt over start before c.args.self.now lines rest z)
    (heard_beat c.args.event.now c.in_default.not-Tick) at) refl refl
    (λ es. Grew (held g.O.Sink.held c.args.trace.now) (held g.O.Sink.held c.tell_line.new.trace) (text_of es))
    (record c.args.self.now { end = c.tell_line.new.end }) (λ es h. h) c.in-Ok.ensures.ok refl refl

-- a part of it was told
pub returns-in-Err-clause-goes : goal.returns-in-Err-clause-goes
returns-in-Err-clause-goes g c over start script lines rest at =
    let before = streams script (held g.O.Sink.held c.args.trace.now) (g.I.Source.left c.args.from.now) (g.P.Sink.held c.args.to.now) c.args.moments.now in
    rw c.failed.ensures
    (step_ends over start _ lines c.in-Err.fault
    (tells_line_partly over start before
    (streams script (held g.O.Sink.held c.tell_line.new.trace) (g.I.Source.left c.args.from.now) (g.P.Sink.held c.args.to.now) c.args.moments.now)
    c.args.self.now lines rest c.args.event.now []
    (subst (λ (z : List Beat). PointAt over start before c.args.self.now lines rest z)
    (heard_beat c.args.event.now c.in_default.not-Tick) at) refl refl
    (λ es. GrewPartly (held g.O.Sink.held c.args.trace.now) (held g.O.Sink.held c.tell_line.new.trace) (text_of es))
    (λ es h. h) c.in-Err.ensures.err refl))
