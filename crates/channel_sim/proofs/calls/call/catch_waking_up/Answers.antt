use Rattle.std.proofs.Common.{subst, sym}
use Rattle.std.proofs.lemmas.Bool.{iff_false}
use Rattle.channel_sim.specs.Lag.{CallLags}
use Rattle.channel_sim.proofs.CatchLemmas.{soon_waking}
use Rattle.channel_sim.proofs.calls.call.catch_waking_up.Goals as goal

pub returns-then-not-sleeps-clause-passes : goal.returns-then-not-sleeps-clause-passes
returns-then-not-sleeps-clause-passes g c =
    λ floor k h small.
    c.catch_up.ensures.passes floor k h
    (soon_waking floor c.args.tick c.args.call.now k h (iff_false c.sleeps.ensures c.if-not-sleeps.true) small)

pub returns-then-not-sleeps-clause-caught : goal.returns-then-not-sleeps-clause-caught
returns-then-not-sleeps-clause-caught g c =
    λ floor k h. subst (λ x. CallLags floor c.args.tick x k) (sym c.look_ahead.ensures) (c.catch_up.ensures.caught floor k h)
