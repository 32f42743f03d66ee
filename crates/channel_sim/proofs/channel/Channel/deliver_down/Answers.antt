use Rattle.std.proofs.Common.{[], if◌then◌else◌, slice_get, refl, ◌∙◌, subst}
use Rattle.std.proofs.lemmas.Result.{err_from_is_err_and}
use Rattle.ivs_machine.specs.VehicleRows as vehicle
use Rattle.channel_sim.specs.World as model
use Rattle.channel_sim.specs.Lines as lines
use Rattle.channel_sim.specs.Lag.{level, CameAt}
use Rattle.channel_sim.specs.Handing.{full}
use Rattle.channel_sim.proofs.HandLemmas.{came_alike_now, down_line}
use Rattle.channel_sim.proofs.LineLemmas.{came_now, caught_now}
use Rattle.channel_sim.proofs.channel.Channel.deliver_down.Goals as goal

pub returns-in_ok-kept-in-Some-clause-step : goal.returns-in_ok-kept-in-Some-clause-step
returns-in_ok-kept-in-Some-clause-step g c =
    λ settled w s.
    let kept = c.args.self.now in
    let Grew = g.H.Listener.grew c.args.to.now c.vehicle_performs.new.to in
    let Partly = g.H.Listener.partly c.args.to.now c.vehicle_performs.new.to in
    let frame = full c.in-Some.frame.now in
    let did = c.vehicle_performs.ensures.step kept.tick (level settled kept.tick) (λ d. kept.tick) w s (caught_now settled kept w s) refl in
    came_alike_now settled Grew Partly c.vehicle_performs.result c.vehicle_performs.new.self
    (lines.or_nothing (if model.vehicle_is_in c.args.number w then lines.hands_one lines.HandsDown c.args.number (slice_get (lines.sent_down (model.call_of c.args.number w.calls)) c.args.place) else []) w)
    (model.performs (model.Hears (vehicle.Arrives frame)) w)
    (down_line c.args.number c.args.place w frame (c.in-Some.ensures settled w s))
    (came_now Grew Partly c.vehicle_performs.result settled kept.tick c.vehicle_performs.new.self (model.performs (model.Hears (vehicle.Arrives frame)) w) c.vehicle_performs.ensures.tick
    (subst (λ f. CameAt Grew Partly c.vehicle_performs.result kept.tick (level settled kept.tick) (λ d. kept.tick) c.vehicle_performs.new.self (model.performs (model.Hears (vehicle.Arrives f)) w)) (c.lend.ensures ∙ c.in_ok-kept-in-Some.ensures) did))

pub returns-in_err-kept-in-Some-clause-step : goal.returns-in_err-kept-in-Some-clause-step
returns-in_err-kept-in-Some-clause-step g c =
    λ settled w s.
    let failed = err_from_is_err_and c.from_residual.result c.from_residual.ensures.1 in
    let law = g.met.H.Listener in
    rw failed.1 (law.longer _ _ [] _ (law.whole _ _ _ (law.unchanged _)))
