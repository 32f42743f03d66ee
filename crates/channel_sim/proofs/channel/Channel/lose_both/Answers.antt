use Rattle.std.proofs.Common.{◌≡◌, [], ◌∷◌, refl, sym, ◌∙◌, subst}
use Rattle.std.proofs.lemmas.Result.{err_from_is_err_and}
use Rattle.link_frames.specs.declared.note.Why.TheVariants as why
use Rattle.ivs_machine.specs.VehicleRows as vehicle
use Rattle.psap_machine.specs.PointRows as point
use Rattle.channel_sim.specs.World as model
use Rattle.channel_sim.specs.Lines as lines
use Rattle.channel_sim.specs.Lag.{level, CameNow, CameAt, StandsAt, StandsNow}
use Rattle.channel_sim.proofs.ActLemmas.{came_after}
use Rattle.channel_sim.proofs.StepLemmas.{quiet_behind}
use Rattle.channel_sim.proofs.LineLemmas.{came_now, caught_now, all_caught, in_call_performs}
use Rattle.channel_sim.proofs.channel.Channel.lose_both.Goals as goal

pub returns-in_err-vehicle_performs-clause-step : goal.returns-in_err-vehicle_performs-clause-step
returns-in_err-vehicle_performs-clause-step g c =
    λ settled w s inside.
    let kept = c.args.self.now in
    let failed = err_from_is_err_and c.from_residual.result c.from_residual.ensures.1 in
    let first = in_call_performs c.args.number vehicle.Lost w inside in
    rw failed.1 (g.met.H.Listener.longer _ _ _ _
    (subst (λ (z : model.Step). g.H.Listener.partly c.args.to.now c.vehicle_performs.new.to z.entries) (sym first)
    (c.in_err-vehicle_performs.ensures.step kept.tick (level settled kept.tick) (λ d. kept.tick) w s (caught_now settled kept w s) refl)))

pub returns-then-at_point-clause-step : goal.returns-then-at_point-clause-step
returns-then-at_point-clause-step g c =
    λ settled w s inside.
    let kept = c.args.self.now in
    let law = g.met.H.Listener in
    let act = model.InCall c.args.number vehicle.Lost in
    let lost = lines.Does act in
    let ends = lines.Does (model.Session c.args.number (point.Ended why.Lost)) in
    let first : model.Step = model.performs act w in
    let did = subst (λ (z : model.Step). g.H.Listener.grew c.args.to.now c.vehicle_performs.new.to z.entries × StandsAt kept.tick (level settled kept.tick) (λ d. kept.tick) c.vehicle_performs.new.self z.world)
    (sym (in_call_performs c.args.number vehicle.Lost w inside))
    (c.in_ok-vehicle_performs.ensures.step kept.tick (level settled kept.tick) (λ d. kept.tick) w s (caught_now settled kept w s) refl) in
    let then = c.session_performs.ensures.step kept.tick (level settled kept.tick) (λ d. kept.tick) first.world did.1 (sym c.vehicle_performs.ensures.tick) refl (all_caught settled kept.tick c.args.number c.vehicle_performs.new.self.calls first.world.calls did.1.calls) in
    let Grew = g.H.Listener.grew c.args.to.now c.session_performs.new.to in
    let Partly = g.H.Listener.partly c.args.to.now c.session_performs.new.to in
    subst (λ b. CameNow Grew Partly c.session_performs.result settled c.session_performs.new.self (model.each lines.deed (lost ∷ lines.when b ends) w)) (sym c.if-at_point.true)
    (came_now Grew Partly c.session_performs.result settled kept.tick c.session_performs.new.self (model.each lines.deed (lost ∷ ends ∷ []) w) (c.session_performs.ensures.tick ∙ c.vehicle_performs.ensures.tick)
    (came_after g.H.Listener.grew g.H.Listener.partly law.twice law.then_partly c.args.to.now c.vehicle_performs.new.to c.session_performs.new.to c.session_performs.result kept.tick (level settled kept.tick) (λ d. kept.tick) c.session_performs.new.self first
    (model.each lines.deed (ends ∷ [])) did.0
    (subst (CameAt (g.H.Listener.grew c.vehicle_performs.new.to c.session_performs.new.to) (g.H.Listener.partly c.vehicle_performs.new.to c.session_performs.new.to) c.session_performs.result kept.tick (level settled kept.tick) (λ d. kept.tick) c.session_performs.new.self)
    (sym (quiet_behind (lines.deed ends first.world))) then)))

pub returns-else-at_point-clause-step : goal.returns-else-at_point-clause-step
returns-else-at_point-clause-step g c =
    λ settled w s inside.
    let kept = c.args.self.now in
    let act = model.InCall c.args.number vehicle.Lost in
    let lost = lines.Does act in
    let ends = lines.Does (model.Session c.args.number (point.Ended why.Lost)) in
    let Grew = g.H.Listener.grew c.args.to.now c.vehicle_performs.new.to in
    let Partly = g.H.Listener.partly c.args.to.now c.vehicle_performs.new.to in
    let did = c.in_ok-vehicle_performs.ensures.step kept.tick (level settled kept.tick) (λ d. kept.tick) w s (caught_now settled kept w s) refl in
    let same : model.each lines.deed (lost ∷ []) w ≡ model.performs (model.Hears vehicle.Lost) w = quiet_behind (model.performs act w) ∙ in_call_performs c.args.number vehicle.Lost w inside in
    subst (λ b. Grew (model.each lines.deed (lost ∷ lines.when b ends) w).entries × StandsNow settled c.vehicle_performs.new.self (model.each lines.deed (lost ∷ lines.when b ends) w).world) (sym c.if-at_point.false)
    (subst (λ (z : model.Step). Grew z.entries × StandsNow settled c.vehicle_performs.new.self z.world) (sym same)
    (did.0, subst (λ t. StandsAt t (level settled t) (λ d. t) c.vehicle_performs.new.self (model.performs (model.Hears vehicle.Lost) w).world) (sym c.vehicle_performs.ensures.tick) did.1))
