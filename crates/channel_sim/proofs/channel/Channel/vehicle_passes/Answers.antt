use Rattle.channel_sim.proofs.BoundLemmas.{acted_more}
use Rattle.channel_sim.specs.Passes.{passes_of}
use Rattle.std.proofs.Common.{ap, sym, ◌∙◌, subst, ◌+◌, ◌-◌, ◌≤◌, ◌<◌, ◌^◌, length, arith}
use Rattle.ivs_machine.specs.VehicleRows as vehicle
use Rattle.channel_sim.specs.World as model
use Rattle.channel_sim.specs.Lag.{CameAt, StandsAt}
use Rattle.channel_sim.proofs.PassLemmas.{vehicle_passed_ready, vehicle_rests_stand}
use Rattle.channel_sim.proofs.VehicleLemmas.{lagging_call}
use Rattle.channel_sim.proofs.channel.Channel.vehicle_passes.Goals as goal

pub returns-then-vehicle_act-clause-step : goal.returns-then-vehicle_act-clause-step
returns-then-vehicle_act-clause-step g c =
    λ floor before w s next.
    let kept = c.args.self.now in
    let moved = c.vehicle_act.new.self in
    let row = vehicle.unit_row w.vehicle in
    let acts = c.vehicle_act.ensures.acts before w.vehicle s.vehicle s.passed next c.if-vehicle_act.true in
    let call = lagging_call _ kept.vehicle w.vehicle c.call-call.result c.call-call.ensures s.vehicle in
    subst (λ items. CameAt (g.H.Listener.grew c.args.to.now c.settles.new.to) (g.H.Listener.partly c.args.to.now c.settles.new.to) c.settles.result kept.tick floor (λ d. before) c.settles.new.self (model.settled (model.did w items row.new w.calls)))
    (c.as_slice-items.ensures.value ∙ acts.0)
    (c.settles.ensures.step kept.tick floor (λ d. before) w row.new w.calls
    (vehicle_passed_ready floor before (λ d. before) kept moved w row.new c.call-call.result s next c.vehicle_act.ensures.same (c.vehicle_act.ensures.some c.if-vehicle_act.true) acts.1 call)
    (sym (ap (λ x. x.tick) c.vehicle_act.ensures.same)))

pub returns-else-vehicle_act-clause-step : goal.returns-else-vehicle_act-clause-step
returns-else-vehicle_act-clause-step g c =
    λ floor before w s next.
    let kept = c.args.self.now in
    let rests = c.vehicle_act.ensures.rests before w.vehicle s.vehicle s.passed next c.if-vehicle_act.false in
    let stand = vehicle_rests_stand floor before (λ d. before) kept w s next rests.0 rests.1 in
    (subst (g.H.Listener.grew c.args.to.now c.args.to.now) (sym stand.0) (g.met.H.Listener.unchanged _), subst (λ x. StandsAt kept.tick floor (λ d. before) x (model.vehicle_passes w).world) (sym (c.vehicle_act.ensures.none c.if-vehicle_act.false).0) stand.1)

pub returns-then-vehicle_act-clause-passes : goal.returns-then-vehicle_act-clause-passes
returns-then-vehicle_act-clause-passes g c =
    λ floor before w s next small.
    let kept = c.args.self.now in
    let moved = c.vehicle_act.new.self in
    let row = vehicle.unit_row w.vehicle in
    let given = c.as_slice-items.result.now in
    let acts = c.vehicle_act.ensures.acts before w.vehicle s.vehicle s.passed next c.if-vehicle_act.true in
    let call = lagging_call _ kept.vehicle w.vehicle c.call-call.result c.call-call.ensures s.vehicle in
    let tick = sym (ap (λ x. x.tick) c.vehicle_act.ensures.same) in
    subst (λ items. c.settles.new.moments ≤ c.args.moments.now + passes_of (model.settled (model.did w items row.new w.calls)))
    (c.as_slice-items.ensures.value ∙ acts.0)
    (acted_more c.args.moments.now c.vehicle_act.new.moments c.settles.new.moments (length given) (passes_of (model.settled (model.did w given row.new w.calls)))
    (subst (λ items. c.vehicle_act.new.moments ≤ c.args.moments.now + length items) (sym c.as_slice-items.ensures.value) (c.vehicle_act.ensures.passes (before - kept.passed) w.vehicle s.vehicle c.if-vehicle_act.true))
    (c.settles.ensures.passes kept.tick floor (λ d. before) w row.new w.calls
    (vehicle_passed_ready floor before (λ d. before) kept moved w row.new c.call-call.result s next c.vehicle_act.ensures.same (c.vehicle_act.ensures.some c.if-vehicle_act.true) acts.1 call)
    tick (subst (λ t. t < floor.waking + 2 ^ 32) tick small)))

pub returns-else-vehicle_act-clause-passes : goal.returns-else-vehicle_act-clause-passes
returns-else-vehicle_act-clause-passes g c =
    λ floor before w s next small.
    omega (arith, (c.vehicle_act.ensures.none c.if-vehicle_act.false).1)
