use Rattle.channel_sim.proofs.BoundLemmas.{hangup_gives, once_more}
use Rattle.std.proofs.Common.{◌≡◌, ◌-◌, if◌then◌else◌, ap, sym, ◌∙◌, subst}
use Rattle.link_frames.specs.declared.note.Why.TheVariants as why
use Rattle.ivs_machine.specs.VehicleRows as vehicle
use Rattle.psap_machine.specs.PointRows as point
use Rattle.channel_sim.specs.World as model
use Rattle.channel_sim.specs.Lag.{CameAt, StandsAt}
use Rattle.channel_sim.proofs.StepLemmas.{quiet_behind}
use Rattle.channel_sim.proofs.VehicleLemmas.{not_in_call, in_call}
use Rattle.channel_sim.proofs.channel.Channel.follow_one.Goals as goal

pub returns-in-Nothing-clause-step : goal.returns-in-Nothing-clause-step
returns-in-Nothing-clause-step g c =
    λ ahead floor clock w s now.
    subst (λ acts. g.H.Listener.grew c.args.to.now c.args.to.now (model.does_each acts w).entries × StandsAt ahead floor clock c.args.self.now (model.does_each acts w).world) (sym c.in-Nothing.ensures)
    (g.met.H.Listener.unchanged _, s)

pub returns-in-Releases-clause-step : goal.returns-in-Releases-clause-step
returns-in-Releases-clause-step g c =
    λ ahead floor clock w s now.
    let act = model.Session c.in-Releases.call (point.Ended why.Release) in
    subst (λ z. CameAt (g.H.Listener.grew c.args.to.now c.session_released.new.to) (g.H.Listener.partly c.args.to.now c.session_released.new.to) c.session_released.result ahead floor clock c.session_released.new.self z)
    (sym (ap (λ acts. model.does_each acts w) c.in-Releases.ensures ∙ quiet_behind (model.does act w)))
    (c.session_released.ensures.step ahead floor clock w s)

pub returns-then-ne-clause-step : goal.returns-then-ne-clause-step
returns-then-ne-clause-step g c =
    λ ahead floor clock w s now.
    let act = model.InCall c.in-HangsUp.call vehicle.Hangup in
    let out = not_in_call (ahead - c.args.self.now.passed) c.in-HangsUp.call c.args.self.now.vehicle w.vehicle c.call.result c.call.ensures s.vehicle c.if-ne.ensures in
    let quiet : model.does act w ≡ model.quiet_step w = ap (λ b. if b then model.vehicle_did w (vehicle.vehicle_row w.vehicle vehicle.Hangup) else model.quiet_step w) out in
    subst (λ (z : model.Step). g.H.Listener.grew c.args.to.now c.args.to.now z.entries × StandsAt ahead floor clock c.args.self.now z.world)
    (sym (ap (λ acts. model.does_each acts w) c.in-HangsUp.ensures ∙ quiet_behind (model.does act w) ∙ quiet))
    (g.met.H.Listener.unchanged _, s)

pub returns-else-ne-clause-step : goal.returns-else-ne-clause-step
returns-else-ne-clause-step g c =
    λ ahead floor clock w s now.
    let act = model.InCall c.in-HangsUp.call vehicle.Hangup in
    let inside = in_call (ahead - c.args.self.now.passed) c.in-HangsUp.call c.args.self.now.vehicle w.vehicle c.call.result c.call.ensures s.vehicle c.if-ne.ensures in
    let did : model.does act w ≡ model.vehicle_did w (vehicle.vehicle_row w.vehicle vehicle.Hangup) = ap (λ b. if b then model.vehicle_did w (vehicle.vehicle_row w.vehicle vehicle.Hangup) else model.quiet_step w) inside in
    subst (λ z. CameAt (g.H.Listener.grew c.args.to.now c.vehicle_hears.new.to) (g.H.Listener.partly c.args.to.now c.vehicle_hears.new.to) c.vehicle_hears.result ahead floor clock c.vehicle_hears.new.self z)
    (sym (ap (λ acts. model.does_each acts w) c.in-HangsUp.ensures ∙ quiet_behind (model.does act w) ∙ did))
    (c.vehicle_hears.ensures.step ahead floor clock w (c.catch_vehicle_up.ensures.caught ahead floor clock w s now) (now ∙ sym (ap (λ x. x.passed) c.catch_vehicle_up.ensures.same)))

pub returns-else-ne-clause-passes : goal.returns-else-ne-clause-passes
returns-else-ne-clause-passes g c =
    λ ahead floor clock w s now small.
    let act = model.InCall c.in-HangsUp.call vehicle.Hangup in
    let inside = in_call (ahead - c.args.self.now.passed) c.in-HangsUp.call c.args.self.now.vehicle w.vehicle c.call.result c.call.ensures s.vehicle c.if-ne.ensures in
    let did : model.does act w ≡ model.vehicle_did w (vehicle.vehicle_row w.vehicle vehicle.Hangup) = ap (λ b. if b then model.vehicle_did w (vehicle.vehicle_row w.vehicle vehicle.Hangup) else model.quiet_step w) inside in
    once_more c.args.moments.now c.catch_vehicle_up.new.moments (model.does_each (model.consequence c.args.note.now) w) (model.vehicle_did w (vehicle.vehicle_row w.vehicle vehicle.Hangup))
    (ap (λ acts. model.does_each acts w) c.in-HangsUp.ensures ∙ quiet_behind (model.does act w) ∙ did) (hangup_gives w)
    (c.catch_vehicle_up.ensures.passes ahead floor clock w s now small)
