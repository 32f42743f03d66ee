use Rattle.std.proofs.Common.{◌≡◌, ◌+◌, true, false, refl, ap, sym, ◌∙◌, subst}
use Rattle.ivs_machine.specs.Vehicle.{is_reachable}
use Rattle.ivs_machine.specs.VehicleRows as vehicle
use Rattle.psap_machine.specs.PointRows as point
use Rattle.psap_machine.specs.SessionStands.{SessionStandsFor}
use Rattle.channel_sim.specs.Lines as lines
use Rattle.channel_sim.specs.Lag.{level, CameNow}
use Rattle.channel_sim.proofs.LineLemmas.{one_deed, caught_now, nothing_came, is_out_reachable}
use Rattle.channel_sim.proofs.VehicleLemmas.{vehicle_is}
use Rattle.channel_sim.proofs.channel.Channel.callback.Goals as goal

pub returns-then-not-reachable-clause-step : goal.returns-then-not-reachable-clause-step
returns-then-not-reachable-clause-step g c =
    λ settled w s.
    let kept = c.args.self.now in
    let Grew = g.H.Listener.grew c.args.to.now c.tell_nothing.new.to in
    let Partly = g.H.Listener.partly c.args.to.now c.tell_nothing.new.to in
    let is = vehicle_is kept.tick (level settled kept.tick) (λ d. kept.tick) kept w s (caught_now settled kept w s) in
    let no_way : is_reachable w.vehicle ≡ false = sym (c.if-not-reachable.ensures w.vehicle is) in
    subst (λ b. CameNow Grew Partly c.tell_nothing.result settled kept (lines.or_nothing (lines.when b lines.CallsBack) w)) (sym no_way)
    (nothing_came settled Grew Partly c.tell_nothing.result kept w s c.tell_nothing.ensures.ok c.tell_nothing.ensures.err)

pub returns-clause-step : goal.returns-clause-step
returns-clause-step g c =
    λ settled w s.
    let kept = c.args.self.now in
    let Grew = g.H.Listener.grew c.args.to.now c.comes_up.new.to in
    let Partly = g.H.Listener.partly c.args.to.now c.comes_up.new.to in
    let is = vehicle_is kept.tick (level settled kept.tick) (λ d. kept.tick) kept w s (caught_now settled kept w s) in
    let way : is_reachable w.vehicle ≡ true = sym (c.if-not-reachable.ensures w.vehicle is) in
    let number : kept.drawn + 1 ≡ w.drawn + 1 = ap (λ n. n + 1) (sym s.drawn) in
    subst (λ b. CameNow Grew Partly c.comes_up.result settled c.comes_up.new.self (lines.or_nothing (lines.when b lines.CallsBack) w)) (sym way)
    (subst (CameNow Grew Partly c.comes_up.result settled c.comes_up.new.self) (sym (one_deed lines.CallsBack w))
    (c.comes_up.ensures.step settled w vehicle.Incoming point.called s (is_out_reachable w.vehicle way) (ap vehicle.Incoming number)
    (record {
      stands = subst (λ n. SessionStandsFor c.called_into-session.result (point.called n).new) number c.called_into-session.ensures.stands;
      live = refl;
      items = c.called_into-session.ensures.items ∙ ap (λ n. (point.called n).items) number;
    })))
