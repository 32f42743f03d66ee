use Rattle.std.proofs.Common.{◌≡◌, ◌≤◌, ◌-◌, ◌+◌, ◌∙◌, refl, sym, subst, arith}
use Rattle.ivs_machine.specs.VehicleRows as vehicle
use Rattle.channel_sim.specs.World as model
use Rattle.channel_sim.specs.Lag.{CameAt, VehicleLags}
use Rattle.channel_sim.proofs.VehicleLemmas.{lagging_call, vehicle_reached}
use Rattle.channel_sim.proofs.channel.Channel.vehicle_reaches.Goals as goal

pub returns-clause-step : goal.returns-clause-step
returns-clause-step g c =
    λ ahead floor clock w s now.
    let kept = c.args.self.now in
    let lag : ahead - kept.passed ≡ c.saturating_sub-lag.result = omega (arith, c.saturating_sub-lag.ensures) in
    let lags = subst (λ n. VehicleLags n kept.vehicle w.vehicle) lag s.vehicle in
    let row = vehicle.vehicle_row w.vehicle (vehicle.heard c.args.event.now) in
    let call = lagging_call (ahead - kept.passed) kept.vehicle w.vehicle c.call-call.result c.call-call.ensures s.vehicle in
    subst (λ items. CameAt (g.H.Listener.grew c.args.to.now c.settles.new.to) (g.H.Listener.partly c.args.to.now c.settles.new.to) c.settles.result ahead floor clock c.settles.new.self (model.settled (model.did w items row.new w.calls)))
    (c.as_slice-items.ensures.value ∙ c.reach_into.ensures.gives w.vehicle lags)
    (c.settles.ensures.step ahead floor clock w row.new w.calls
    (vehicle_reached ahead floor clock kept w c.reach_into.new.self row.new c.call-call.result s now (c.reach_into.ensures.stands w.vehicle lags) call) now)

pub returns-clause-passes : goal.returns-clause-passes
returns-clause-passes g c =
    λ ahead floor clock w s now small.
    let kept = c.args.self.now in
    let low : floor.waking ≤ kept.passed = s.from in
    let lag : ahead - kept.passed ≡ c.saturating_sub-lag.result = omega (arith, c.saturating_sub-lag.ensures) in
    let lags = subst (λ n. VehicleLags n kept.vehicle w.vehicle) lag s.vehicle in
    let once = c.reach_into.ensures.passes w.vehicle lags (omega (arith, c.saturating_sub-lag.ensures)) in
    subst (λ m. m ≤ c.args.moments.now + 1) (sym (c.settles.ensures.still refl).1) once
