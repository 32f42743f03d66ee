use Rattle.std.proofs.Common.{◌≡◌, ◌+◌, true, false, refl, ap, sym, ◌∙◌, subst}
use Rattle.ivs_machine.specs.Vehicle.{is_dialling}
use Rattle.ivs_machine.specs.VehicleRows as vehicle
use Rattle.psap_machine.specs.PointRows as point
use Rattle.psap_machine.specs.SessionStands.{SessionStandsFor}
use Rattle.channel_sim.specs.Lines as lines
use Rattle.channel_sim.specs.Lag.{level, CameNow}
use Rattle.channel_sim.proofs.LineLemmas.{one_deed, caught_now, nothing_came, is_out_dialling}
use Rattle.channel_sim.proofs.VehicleLemmas.{vehicle_is}
use Rattle.channel_sim.proofs.channel.Channel.answer.Goals as goal

pub returns-then-not-dialling-clause-step : goal.returns-then-not-dialling-clause-step
returns-then-not-dialling-clause-step g c =
    λ settled w s.
    let kept = c.args.self.now in
    let Grew = g.H.Listener.grew c.args.to.now c.tell_nothing.new.to in
    let Partly = g.H.Listener.partly c.args.to.now c.tell_nothing.new.to in
    let is = vehicle_is kept.tick (level settled kept.tick) (λ d. kept.tick) kept w s (caught_now settled kept w s) in
    let no_way : is_dialling w.vehicle ≡ false = sym (c.if-not-dialling.ensures w.vehicle is) in
    subst (λ b. CameNow Grew Partly c.tell_nothing.result settled kept (lines.or_nothing (lines.when b lines.Answers) w)) (sym no_way)
    (nothing_came settled Grew Partly c.tell_nothing.result kept w s c.tell_nothing.ensures.ok c.tell_nothing.ensures.err)

pub returns-clause-step : goal.returns-clause-step
returns-clause-step g c =
    λ settled w s.
    let kept = c.args.self.now in
    let Grew = g.H.Listener.grew c.args.to.now c.comes_up.new.to in
    let Partly = g.H.Listener.partly c.args.to.now c.comes_up.new.to in
    let is = vehicle_is kept.tick (level settled kept.tick) (λ d. kept.tick) kept w s (caught_now settled kept w s) in
    let way : is_dialling w.vehicle ≡ true = sym (c.if-not-dialling.ensures w.vehicle is) in
    let number : kept.drawn + 1 ≡ w.drawn + 1 = ap (λ n. n + 1) (sym s.drawn) in
    subst (λ b. CameNow Grew Partly c.comes_up.result settled c.comes_up.new.self (lines.or_nothing (lines.when b lines.Answers) w)) (sym way)
    (subst (CameNow Grew Partly c.comes_up.result settled c.comes_up.new.self) (sym (one_deed lines.Answers w))
    (c.comes_up.ensures.step settled w vehicle.Answered point.arriving s (is_out_dialling w.vehicle way) (ap vehicle.Answered number)
    (record {
      stands = subst (λ n. SessionStandsFor c.arriving_into-session.result (point.arriving n).new) number c.arriving_into-session.ensures.stands;
      live = refl;
      items = c.arriving_into-session.ensures.items ∙ ap (λ n. (point.arriving n).items) number;
    })))
