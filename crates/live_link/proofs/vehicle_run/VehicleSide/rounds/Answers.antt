use Rattle.std.specs.Prelude.{List, ◌+◌}
use Rattle.std.proofs.Common.{subst, ◌∙◌, arith}
use Rattle.std.proofs.lemmas.Result.{err_from_is_err_and}
use Rattle.call_io.specs.Blocks.{held}
use Rattle.call_io.proofs.BlockLemmas.{Onward-append}
use Rattle.live_link.specs.LiveOutcome.{streams}
use Rattle.live_link.specs.Runs.{Beat}
use Rattle.live_link.specs.inner.VehicleGoes.{VehicleAt}
use Rattle.live_link.proofs.VehicleBeats.{next_round, no_round, rounds_left}
use Rattle.live_link.proofs.vehicle_run.VehicleSide.rounds.Goals as goal

pub loop-preserved : goal.loop-preserved
loop-preserved g c = record {
  ready = c.in_ok-round.ensures.ready;
  moments = omega arith;
  link = c.in_ok-round.ensures.unread ∙ c.loop.invariant.link;
  traced = c.in_ok-round.ensures.unwritten.0 ∙ c.loop.invariant.traced;
  wrote = c.in_ok-round.ensures.unwritten.1 ∙ c.loop.invariant.wrote;
  onward = Onward-append _ _ _ c.loop.invariant.onward c.in_ok-round.ensures.onward;
  goes = λ over start script lines rest at.
      let before = streams script (held g.O.Sink.held c.loop.trace) (g.I.Source.left c.loop.from) (g.P.Sink.held c.loop.to) c.loop.moments in
      let n = next_round c.loop.counter c.args.count (omega arith) in
      c.in_ok-round.ensures.goes over start script lines rest n.0 (rounds_left (c.loop.counter + 1) c.args.count)
      (subst (λ (z : List Beat). VehicleAt over start before c.loop.self lines rest z) n.1 (c.loop.invariant.goes over start script lines rest at));
}

pub returns-in_err-round-clause-goes : goal.returns-in_err-round-clause-goes
returns-in_err-round-clause-goes g c over start script lines rest at =
    let p = err_from_is_err_and c.from_residual.result c.from_residual.ensures.1 in
    let before = streams script (held g.O.Sink.held c.loop.trace) (g.I.Source.left c.loop.from) (g.P.Sink.held c.loop.to) c.loop.moments in
    let n = next_round c.loop.counter c.args.count (omega arith) in
    rw (p.1, p.2)
    (c.in_err-round.ensures.goes over start script lines rest n.0 (rounds_left (c.loop.counter + 1) c.args.count)
    (subst (λ (z : List Beat). VehicleAt over start before c.loop.self lines rest z) n.1 (c.loop.invariant.goes over start script lines rest at)))

pub returns-clause-goes : goal.returns-clause-goes
returns-clause-goes g c over start script lines rest at =
    let now = streams script (held g.O.Sink.held c.loop.trace) (g.I.Source.left c.loop.from) (g.P.Sink.held c.loop.to) c.loop.moments in
    subst (λ (z : List Beat). VehicleAt over start now c.loop.self lines rest z) (no_round c.loop.counter c.args.count (omega arith) c.requires.some)
    (c.loop.invariant.goes over start script lines rest at)
