use Rattle.std.proofs.Common.{[]}
use Rattle.std.proofs.lemmas.Result.{err_from_is_err_and}
use Rattle.channel_sim.proofs.channel.Channel.flows.Goals as goal

pub returns-in_err-only_due-clause-step : goal.returns-in_err-only_due-clause-step
returns-in_err-only_due-clause-step g c =
    λ ahead floor w s now.
    let failed = err_from_is_err_and c.from_residual.result c.from_residual.ensures.1 in
    let law = g.met.H.Listener in
    rw failed.1 (law.longer _ _ [] _ (law.whole _ _ _ (law.unchanged _)))
