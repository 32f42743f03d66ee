use Rattle.channel_sim.proofs.BoundLemmas.{passes_front, passes_more}
use Rattle.std.proofs.Common.{sym, subst, ◌<◌, ◌+◌, ◌^◌}
use Rattle.std.proofs.lemmas.Result.{err_from_is_err_and}
use Rattle.channel_sim.specs.World as model
use Rattle.channel_sim.proofs.ActLemmas.{came_after}
use Rattle.channel_sim.proofs.MomentLemmas.{ends_stand}
use Rattle.channel_sim.proofs.channel.Channel.ends_from.Goals as goal

pub returns-then-next-self-clause-step : goal.returns-then-next-self-clause-step
returns-then-next-self-clause-step g c =
    λ floor before w s next rests.
    let stand = ends_stand floor before c.args.self.now w s next (rests c.if-next-self.true) in
    (subst (g.H.Listener.grew c.args.to.now c.args.to.now) (sym stand.0) (g.met.H.Listener.unchanged _), stand.1)

pub returns-in_err-vehicle_passes-clause-step : goal.returns-in_err-vehicle_passes-clause-step
returns-in_err-vehicle_passes-clause-step g c =
    λ floor before w s next rests.
    let failed = err_from_is_err_and c.from_residual.result c.from_residual.ensures.1 in
    rw failed.1 (g.met.H.Listener.longer _ _ _ _ (c.in_err-vehicle_passes.ensures.step floor before w s next))

pub returns-clause-step : goal.returns-clause-step
returns-clause-step g c =
    λ floor before w s next rests.
    let kept = c.args.self.now in
    let law = g.met.H.Listener in
    let d1 = c.in_ok-vehicle_passes.ensures.step floor before w s next in
    let came = c.sessions_pass.ensures.step kept.tick floor before (model.vehicle_passes w).world d1.1 (sym c.vehicle_passes.ensures.tick) next in
    came_after g.H.Listener.grew g.H.Listener.partly law.twice law.then_partly c.args.to.now c.vehicle_passes.new.to c.sessions_pass.new.to c.sessions_pass.result kept.tick floor (λ d. kept.tick) c.sessions_pass.new.self (model.vehicle_passes w) model.sessions_pass d1.0 came

pub returns-clause-passes : goal.returns-clause-passes
returns-clause-passes g c =
    λ floor before w s next small.
    let kept = c.args.self.now in
    let tick = c.vehicle_passes.ensures.tick in
    let d1 = c.in_ok-vehicle_passes.ensures.step floor before w s next in
    let p1 = c.vehicle_passes.ensures.passes floor before w s next small in
    let p2 = c.sessions_pass.ensures.passes kept.tick floor before (model.vehicle_passes w).world d1.1 (sym tick) next (subst (λ t. t < floor.waking + 2 ^ 32) (sym tick) small) in
    passes_more (model.vehicle_passes w) model.sessions_pass c.args.moments.now c.vehicle_passes.new.moments c.sessions_pass.new.moments p1 p2

pub returns-in_err-vehicle_passes-clause-passes : goal.returns-in_err-vehicle_passes-clause-passes
returns-in_err-vehicle_passes-clause-passes g c =
    λ floor before w s next small.
    passes_front (model.vehicle_passes w) model.sessions_pass c.args.moments.now c.vehicle_passes.new.moments (c.vehicle_passes.ensures.passes floor before w s next small)
