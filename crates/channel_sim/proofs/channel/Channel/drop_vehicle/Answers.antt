use Rattle.std.proofs.Common.{refl, sym, ◌∙◌, subst}
use Rattle.ivs_machine.specs.VehicleRows as vehicle
use Rattle.channel_sim.specs.World as model
use Rattle.channel_sim.specs.Lag.{level, CameNow}
use Rattle.channel_sim.proofs.LineLemmas.{came_now, caught_now, its_call, no_call, nothing_came}
use Rattle.channel_sim.proofs.VehicleLemmas.{vehicle_is}
use Rattle.channel_sim.proofs.channel.Channel.drop_vehicle.Goals as goal

pub returns-then-is_some-clause-step : goal.returns-then-is_some-clause-step
returns-then-is_some-clause-step g c =
    λ settled w s.
    let kept = c.args.self.now in
    let act = model.Hears vehicle.Lost in
    let Grew = g.H.Listener.grew c.args.to.now c.vehicle_performs.new.to in
    let Partly = g.H.Listener.partly c.args.to.now c.vehicle_performs.new.to in
    let call = c.call.ensures w.vehicle (vehicle_is kept.tick (level settled kept.tick) (λ d. kept.tick) kept w s (caught_now settled kept w s)) in
    subst (CameNow Grew Partly c.vehicle_performs.result settled c.vehicle_performs.new.self) (sym (its_call vehicle.Lost w c.call.result call (sym c.is_some.ensures ∙ c.if-is_some.true)))
    (came_now Grew Partly c.vehicle_performs.result settled kept.tick c.vehicle_performs.new.self (model.performs act w) c.vehicle_performs.ensures.tick
    (c.vehicle_performs.ensures.step kept.tick (level settled kept.tick) (λ d. kept.tick) w s (caught_now settled kept w s) refl))

pub returns-else-is_some-clause-step : goal.returns-else-is_some-clause-step
returns-else-is_some-clause-step g c =
    λ settled w s.
    let kept = c.args.self.now in
    let Grew = g.H.Listener.grew c.args.to.now c.tell_nothing.new.to in
    let Partly = g.H.Listener.partly c.args.to.now c.tell_nothing.new.to in
    let call = c.call.ensures w.vehicle (vehicle_is kept.tick (level settled kept.tick) (λ d. kept.tick) kept w s (caught_now settled kept w s)) in
    subst (CameNow Grew Partly c.tell_nothing.result settled kept) (sym (no_call vehicle.Lost w c.call.result call (sym c.is_some.ensures ∙ c.if-is_some.false)))
    (nothing_came settled Grew Partly c.tell_nothing.result kept w s c.tell_nothing.ensures.ok c.tell_nothing.ensures.err)
