use Rattle.std.proofs.lemmas.Bool.{iff_false}
use Rattle.channel_sim.proofs.CatchLemmas.{soon_waking}
use Rattle.channel_sim.proofs.calls.call.reach_up.Goals as goal

pub returns-clause-passes : goal.returns-clause-passes
returns-clause-passes g c =
    λ floor k h small.
    c.catch_up.ensures.passes floor k h
    (soon_waking floor c.args.tick c.args.call.now k h (iff_false c.sleeps.ensures c.if-sleeps.false) small)
