use Rattle.std.proofs.Common.{◌≡◌, ◌-◌, ◌++◌, ◌∷◌, sym, subst}
use Rattle.std.specs.Option.{is_some}
use Rattle.link_frames.specs.declared.note.Why.TheVariants as why
use Rattle.ivs_machine.specs.VehicleRows as vehicle
use Rattle.psap_machine.specs.PointRows as point
use Rattle.channel_sim.specs.World as model
use Rattle.channel_sim.specs.Lines as lines
use Rattle.channel_sim.specs.Lag.{CameNow, CallsLag, level}
use Rattle.channel_sim.proofs.VehicleLemmas.{not_called, called}
use Rattle.channel_sim.proofs.channel.Channel.drop_both.Goals as goal

pub returns-then-eq-clause-step : goal.returns-then-eq-clause-step
returns-then-eq-clause-step g c =
    λ settled w s.
    let kept = c.args.self.now in
    let Grew = g.H.Listener.grew c.args.to.now c.lose_both.new.to in
    let Partly = g.H.Listener.partly c.args.to.now c.lose_both.new.to in
    let lost = lines.Does (model.InCall c.args.number vehicle.Lost) in
    let ends = lines.Does (model.Session c.args.number (point.Ended why.Lost)) in
    let inside = called (kept.tick - kept.passed) c.args.number kept.vehicle w.vehicle c.call.result c.call.ensures s.vehicle c.if-eq.ensures in
    let at_point : c.has_session-at_point.result ≡ is_some (model.session_of c.args.number w.calls) =
    c.has_session-at_point.ensures (level settled kept.tick) (λ d. kept.tick) w.calls (subst (λ xs. CallsLag (level settled kept.tick) (λ d. kept.tick) xs w.calls) (sym c.all.ensures) s.calls) s.tidy.numbers in
    subst (λ b. CameNow Grew Partly c.lose_both.result settled c.lose_both.new.self (lines.or_nothing (lines.when b lost ++ lines.at_point c.args.number (point.Ended why.Lost) w) w)) (sym inside)
    (subst (λ b. CameNow Grew Partly c.lose_both.result settled c.lose_both.new.self (model.each lines.deed (lost ∷ lines.when b ends) w)) at_point
    (c.lose_both.ensures.step settled w s inside))

pub returns-else-eq-clause-step : goal.returns-else-eq-clause-step
returns-else-eq-clause-step g c =
    λ settled w s.
    let kept = c.args.self.now in
    let Grew = g.H.Listener.grew c.args.to.now c.point_line.new.to in
    let Partly = g.H.Listener.partly c.args.to.now c.point_line.new.to in
    let lost = lines.Does (model.InCall c.args.number vehicle.Lost) in
    let out = not_called (kept.tick - kept.passed) c.args.number kept.vehicle w.vehicle c.call.result c.call.ensures s.vehicle c.if-eq.ensures in
    subst (λ b. CameNow Grew Partly c.point_line.result settled c.point_line.new.self (lines.or_nothing (lines.when b lost ++ lines.at_point c.args.number (point.Ended why.Lost) w) w)) (sym out)
    (c.point_line.ensures.step settled w s)
