use Rattle.std.proofs.Common.{refl, sym, subst}
use Rattle.ivs_machine.specs.VehicleRows as vehicle
use Rattle.channel_sim.specs.Lines as lines
use Rattle.channel_sim.specs.World as model
use Rattle.channel_sim.specs.Lag.{level, CameNow, StandsNow}
use Rattle.channel_sim.specs.inner.Happenings.{happens, settled_behind}
use Rattle.channel_sim.proofs.LineLemmas.{one_deed, came_now, caught_now}
use Rattle.channel_sim.proofs.Standing.{flow_stands}
use Rattle.channel_sim.proofs.channel.Channel.plays.Goals as goal

pub returns-in-Flow-clause-step : goal.returns-in-Flow-clause-step
returns-in-Flow-clause-step g c =
    λ settled w s low.
    let kept = c.args.self.now in
    let stands = flow_stands settled c.in-Flow.up c.in-Flow.delay kept c.set_flow.new.self w s c.set_flow.ensures in
    subst (λ e. g.H.Listener.grew c.args.to.now c.args.to.now (happens e w).entries
    × StandsNow (settled_behind e c.args.passing settled c.set_flow.new.self.tick) c.set_flow.new.self (happens e w).world) (sym c.in-Flow.is)
    (subst (g.H.Listener.grew c.args.to.now c.args.to.now) (sym stands.0) (g.met.H.Listener.unchanged _), stands.1)

pub returns-in-Vehicle-clause-step : goal.returns-in-Vehicle-clause-step
returns-in-Vehicle-clause-step g c =
    λ settled w s low.
    let kept = c.args.self.now in
    let act = model.Hears (vehicle.heard c.in-Vehicle.event) in
    let Grew = g.H.Listener.grew c.args.to.now c.vehicle_performs.new.to in
    let Partly = g.H.Listener.partly c.args.to.now c.vehicle_performs.new.to in
    let new = c.vehicle_performs.new.self in
    let Came = CameNow Grew Partly c.vehicle_performs.result settled new in
    subst (λ e. CameNow Grew Partly c.vehicle_performs.result (settled_behind e c.args.passing settled new.tick) new (happens e w)) (sym c.in-Vehicle.is)
    (subst Came (sym (one_deed (lines.Does act) w))
    (came_now Grew Partly c.vehicle_performs.result settled kept.tick c.vehicle_performs.new.self (model.performs act w) c.vehicle_performs.ensures.tick
    (c.vehicle_performs.ensures.step kept.tick (level settled kept.tick) (λ d. kept.tick) w s (caught_now settled kept w s) refl)))
