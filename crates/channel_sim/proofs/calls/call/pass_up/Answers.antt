use Rattle.std.proofs.Common.{subst, sym}
use Rattle.channel_sim.specs.Lag.{CallLags}
use Rattle.channel_sim.proofs.calls.call.pass_up.Goals as goal

pub returns-else-sleeps-clause-caught : goal.returns-else-sleeps-clause-caught
returns-else-sleeps-clause-caught g c =
    λ floor k h. subst (λ x. CallLags floor c.args.tick x k) (sym c.look_ahead.ensures) (c.catch_up.ensures.caught floor k h)
