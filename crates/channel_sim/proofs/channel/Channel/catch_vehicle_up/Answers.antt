use Rattle.std.proofs.Common.{◌≡◌, ◌≤◌, ◌-◌, subst, arith}
use Rattle.channel_sim.specs.Lag.{VehicleLags}
use Rattle.channel_sim.proofs.channel.Channel.catch_vehicle_up.Goals as goal

pub returns-clause-passes : goal.returns-clause-passes
returns-clause-passes g c =
    λ ahead floor clock w s now small.
    let kept = c.args.self.now in
    let low : floor.waking ≤ kept.passed = s.from in
    let lag : ahead - kept.passed ≡ c.saturating_sub-lag.result = omega (arith, c.saturating_sub-lag.ensures) in
    c.pass_quietly.ensures.passes w.vehicle (subst (λ n. VehicleLags n kept.vehicle w.vehicle) lag s.vehicle) (omega (arith, c.saturating_sub-lag.ensures))
