use Rattle.std.proofs.Common.{◌≤◌, ◌+◌, [], ap, ◌∙◌, subst, map}
use Rattle.std.proofs.lemmas.Result.{err_from_is_err_and}
use Rattle.channel_sim.specs.World.{each}
use Rattle.channel_sim.specs.Handing.{due_of, hands_way}
use Rattle.channel_sim.specs.Lag.{CameAt}
use Rattle.channel_sim.specs.Passes.{passes_of}
use Rattle.channel_sim.proofs.channel.Channel.flows_listed.Goals as goal

pub returns-in_err-list_due-clause-step : goal.returns-in_err-list_due-clause-step
returns-in_err-list_due-clause-step g c =
    λ ahead floor w s now.
    let failed = err_from_is_err_and c.from_residual.result c.from_residual.ensures.1 in
    let law = g.met.H.Listener in
    rw failed.1 (law.longer _ _ [] _ (law.whole _ _ _ (law.unchanged _)))

pub returns-clause-step : goal.returns-clause-step
returns-clause-step g c =
    λ ahead floor w s now.
    let Grew = g.H.Listener.grew c.args.to.now c.hand_each.new.to in
    let Partly = g.H.Listener.partly c.args.to.now c.hand_each.new.to in
    subst (λ ds. CameAt Grew Partly c.hand_each.result ahead floor (λ e. ahead) c.hand_each.new.self (each (hands_way c.args.up) ds w))
    (ap (map due_of) c.deref.ensures.value ∙ c.in_ok-list_due.ensures ahead floor w s)
    (c.hand_each.ensures.step ahead floor w s now)

pub returns-clause-passes : goal.returns-clause-passes
returns-clause-passes g c =
    λ ahead floor w s now small.
    subst (λ ds. c.hand_each.new.moments ≤ c.args.moments.now + passes_of (each (hands_way c.args.up) ds w))
    (ap (map due_of) c.deref.ensures.value ∙ c.in_ok-list_due.ensures ahead floor w s)
    (c.hand_each.ensures.passes ahead floor w s now small)
