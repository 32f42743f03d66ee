use Rattle.channel_sim.proofs.BoundLemmas.{settled_more, settled_none}
use Rattle.std.proofs.Common.{sym, ◌∙◌, ◌+◌, ◌<◌, ◌^◌, subst}
use Rattle.std.proofs.lemmas.Result.{err_from_is_err_and}
use Rattle.channel_sim.specs.World as model
use Rattle.channel_sim.proofs.ActLemmas.{came_after}
use Rattle.channel_sim.proofs.channel.Channel.settles.Goals as goal

pub returns-in_err-did-clause-step : goal.returns-in_err-did-clause-step
returns-in_err-did-clause-step g c =
    λ ahead floor clock w v ks ready now.
    let failed = err_from_is_err_and c.from_residual.result c.from_residual.ensures.1 in
    rw failed.1 (g.met.H.Listener.longer _ _ _ _ (c.in_err-did.ensures.step ahead floor clock w v ks ready))

pub returns-clause-step : goal.returns-clause-step
returns-clause-step g c =
    λ ahead floor clock w v ks ready now.
    let first = model.did w c.args.items.now v ks in
    let did = c.in_ok-did.ensures.step ahead floor clock w v ks ready in
    let law = g.met.H.Listener in
    came_after g.H.Listener.grew g.H.Listener.partly law.twice law.then_partly c.args.to.now c.did.new.to c.follow.new.to c.follow.result ahead floor clock c.follow.new.self first
    (model.does_each (model.consequences first.entries)) did.0
    (c.follow.ensures.step ahead floor clock first.world did.1 (now ∙ sym c.did.ensures.tick))

pub returns-clause-passes : goal.returns-clause-passes
returns-clause-passes g c =
    λ ahead floor clock w v ks ready now small.
    let first = model.did w c.args.items.now v ks in
    let did = c.in_ok-did.ensures.step ahead floor clock w v ks ready in
    settled_more w c.args.items.now v ks c.args.moments.now c.follow.new.moments
    (c.follow.ensures.passes ahead floor clock first.world did.1 (now ∙ sym c.did.ensures.tick) (subst (λ t. t < floor.waking + 2 ^ 32) (sym c.did.ensures.tick) small))

pub returns-in_err-did-clause-passes : goal.returns-in_err-did-clause-passes
returns-in_err-did-clause-passes g c = λ ahead floor clock w v ks ready now small. settled_none w c.args.items.now v ks c.args.moments.now
