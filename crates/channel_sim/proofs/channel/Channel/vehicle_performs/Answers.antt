use Rattle.std.proofs.Common.{◌∙◌, subst}
use Rattle.ivs_machine.specs.VehicleRows as vehicle
use Rattle.channel_sim.specs.World as model
use Rattle.channel_sim.specs.Lag.{CameAt}
use Rattle.channel_sim.proofs.VehicleLemmas.{vehicle_is, vehicle_ready}
use Rattle.channel_sim.proofs.channel.Channel.vehicle_performs.Goals as goal

pub returns-clause-step : goal.returns-clause-step
returns-clause-step g c =
    λ ahead floor clock w s caught now.
    let kept = c.args.self.now in
    let is = vehicle_is ahead floor clock kept w s caught in
    let row = vehicle.vehicle_row w.vehicle (vehicle.heard c.args.event.now) in
    subst (λ items. CameAt (g.H.Listener.grew c.args.to.now c.settles.new.to) (g.H.Listener.partly c.args.to.now c.settles.new.to) c.settles.result ahead floor clock c.settles.new.self (model.settled (model.did w items row.new w.calls)))
    (c.as_slice-items.ensures.value ∙ c.hear_into.ensures.gives w.vehicle is)
    (c.settles.ensures.step ahead floor clock w row.new w.calls
    (vehicle_ready ahead floor clock kept w c.hear_into.new.self row.new c.call-call.result s caught (c.hear_into.ensures.stands w.vehicle is) (c.call-call.ensures w.vehicle is)) now)
