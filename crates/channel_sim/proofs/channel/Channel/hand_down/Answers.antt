use Rattle.channel_sim.proofs.BoundLemmas.{handed_down_more}
use Rattle.std.proofs.Common.{◌-◌, refl, subst}
use Rattle.ivs_machine.specs.VehicleRows as vehicle
use Rattle.channel_sim.specs.World as model
use Rattle.channel_sim.specs.Lag.{CameAt}
use Rattle.channel_sim.proofs.HandLemmas.{came_alike, down_alike}
use Rattle.channel_sim.proofs.VehicleLemmas.{in_call}
use Rattle.channel_sim.specs.Handing.{full}
use Rattle.channel_sim.proofs.channel.Channel.hand_down.Goals as goal

pub returns-clause-step : goal.returns-clause-step
returns-clause-step g c =
    λ ahead floor w s now.
    let kept = c.args.self.now in
    let Grew = g.H.Listener.grew c.args.to.now c.vehicle_reaches.new.to in
    let Partly = g.H.Listener.partly c.args.to.now c.vehicle_reaches.new.to in
    let inside = in_call (ahead - kept.passed) c.args.number kept.vehicle w.vehicle c.call.result c.call.ensures s.vehicle c.if-ne.ensures in
    came_alike Grew Partly c.vehicle_reaches.result ahead floor (λ d. ahead) c.vehicle_reaches.new.self (model.hands_down (record { call = c.args.number; frame = full c.args.frame.now }) w)
    (model.performs (model.Hears (vehicle.Arrives (full c.args.frame.now))) w) (down_alike (record { call = c.args.number; frame = full c.args.frame.now }) w inside)
    (subst (λ f. CameAt Grew Partly c.vehicle_reaches.result ahead floor (λ d. ahead) c.vehicle_reaches.new.self (model.performs (model.Hears (vehicle.Arrives f)) w)) c.lend.ensures
    (c.vehicle_reaches.ensures.step ahead floor (λ d. ahead) w s now))

pub returns-clause-passes : goal.returns-clause-passes
returns-clause-passes g c =
    λ ahead floor w s now small.
    let kept = c.args.self.now in
    let inside = in_call (ahead - kept.passed) c.args.number kept.vehicle w.vehicle c.call.result c.call.ensures s.vehicle c.if-ne.ensures in
    handed_down_more (record { call = c.args.number; frame = full c.args.frame.now }) w c.args.moments.now c.vehicle_reaches.new.moments c.vehicle_reaches.new.moments inside
    (c.vehicle_reaches.ensures.passes ahead floor (λ d. ahead) w s now small) refl
