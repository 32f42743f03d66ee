use Rattle.std.proofs.Common.{◌≡◌, ◌-◌, map, ap, sym, subst}
use Rattle.std.proofs.lemmas.Result.{err_from_is_err_and}
use Rattle.ivs_machine.specs.Vehicle.{vehicle_call}
use Rattle.trace_model.specs.History.{told}
use Rattle.channel_sim.specs.World.{carries}
use Rattle.channel_sim.specs.Lag.{CallsLag}
use Rattle.channel_sim.specs.Tidy.{AreAbove}
use Rattle.channel_sim.proofs.ActLemmas.{did_done}
use Rattle.channel_sim.proofs.CallsLemmas.{carried_numbers}
use Rattle.channel_sim.proofs.TidyLemmas.{carried_others}
use Rattle.channel_sim.proofs.channel.Channel.did.Goals as goal

pub returns-in_err-tell-clause-step : goal.returns-in_err-tell-clause-step
returns-in_err-tell-clause-step g c =
    λ ahead floor clock w v ks ready.
    let failed = err_from_is_err_and c.from_residual.result c.from_residual.ensures.1 in
    rw failed.1 (subst (λ t. g.H.Listener.partly c.args.to.now c.tell.new.to (told t c.args.items.now)) (sym ready.tick) c.in_err-tell.ensures.err)

pub returns-in_err-post-clause-step : goal.returns-in_err-post-clause-step
returns-in_err-post-clause-step g c =
    λ ahead floor clock w v ks ready.
    let failed = err_from_is_err_and c.from_residual-in_err-post.result c.from_residual-in_err-post.ensures.1 in
    rw failed.1 (subst (λ t. g.H.Listener.partly c.args.to.now c.tell.new.to (told t c.args.items.now)) (sym ready.tick) (g.met.H.Listener.whole _ _ _ c.in_ok-tell.ensures.ok))

pub returns-clause-step : goal.returns-clause-step
returns-clause-step g c =
    λ ahead floor clock w v ks ready.
    let es = told w.tick c.args.items.now in
    let same : told c.args.self.now.tick c.args.items.now ≡ es = ap (λ t. told t c.args.items.now) (sym ready.tick) in
    let carried : CallsLag floor clock c.post.new.calls (map (carries es) ks) =
    subst (λ z. CallsLag floor clock c.post.new.calls (map (carries z) ks)) same (c.in_ok-post.ensures floor clock ks ready.calls ready.numbers) in (
      subst (g.H.Listener.grew c.args.to.now c.tell.new.to) same c.in_ok-tell.ensures.ok,
      did_done ahead floor clock c.args.self.now c.drop_concerned.new.self w v ks c.args.call c.args.items.now ready c.drop_concerned.ensures.same
          (c.drop_concerned.ensures.calls (ahead - c.args.self.now.passed) floor clock v (map (carries es) ks) ready.vehicle carried
          (subst (AreAbove 0) (sym (carried_numbers es ks)) ready.numbers)
          (carried_others (vehicle_call v) c.args.call es ks ready.others)),
    )
