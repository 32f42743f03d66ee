use Rattle.channel_sim.proofs.BoundLemmas.{vehicle_gives}
use Rattle.std.proofs.Common.{◌<◌, ◌≤◌, ◌+◌, ◌-◌, IfSome, refl, subst, arith, length, sym}
use Rattle.ivs_machine.specs.VehicleRows as vehicle
use Rattle.channel_sim.proofs.PassLemmas.{vehicle_rests, vehicle_acts_now}
use Rattle.channel_sim.proofs.channel.Channel.vehicle_act.Goals as goal

pub returns-in-None-clause-rests : goal.returns-in-None-clause-rests
returns-in-None-clause-rests g c =
    λ before v lags within next none.
    let kept = c.args.self.now in
    vehicle_rests before kept.tick kept.passed kept.vehicle v lags within next
    (λ u one. subst (λ lag. IfSome (vehicle.due_of u) (λ due. lag < due)) c.saturating_sub.ensures
    (c.in-None.ensures.later u one refl))

pub returns-in-Some-clause-acts : goal.returns-in-Some-clause-acts
returns-in-Some-clause-acts g c =
    λ before v lags within next did.
    let kept = c.args.self.now in
    let least : c.in-Some.due ≤ (before - kept.passed) + 1 =
    omega (arith, c.in-Some.ensures.some.1, c.saturating_sub.ensures) in
    vehicle_acts_now before kept.passed c.in-Some.due kept.vehicle c.pass_into.new.self c.pass_into.new.items.items v
    lags least (c.in-Some.ensures.due lags.was lags.stands)
    (c.pass_into.ensures.ticks.gives lags.was lags.stands) (c.pass_into.ensures.ticks.stands lags.was lags.stands)

pub returns-in-Some-clause-passes : goal.returns-in-Some-clause-passes
returns-in-Some-clause-passes g c =
    λ n v lags did.
    let items = c.pass_into.new.items.items in
    let some : 1 ≤ length items =
    subst (λ ns. 1 ≤ length ns) (sym (c.pass_into.ensures.ticks.gives lags.was lags.stands))
    (vehicle_gives c.in-Some.due lags.was lags.stands.kept (c.in-Some.ensures.due lags.was lags.stands)) in
    omega (arith, c.pass_into.ensures.moments)
