use Rattle.std.proofs.Common.{subst}
use Rattle.std.specs.List.{AllByRecursion}
use Rattle.channel_sim.specs.inner.Turns.{WaitsUntil}
use Rattle.channel_sim.proofs.TurnLemmas.{all_wait}
use Rattle.channel_sim.proofs.calls.Calls.act_at.Goals as goal

pub returns-clause-waits : goal.returns-clause-waits
returns-clause-waits c =
    subst (AllByRecursion (WaitsUntil c.least.result)) c.self.view_is
    (all_wait c.self.inside.turns c.least.result c.self.inside.list.items c.least.ensures.least c.self.invariant.watched)
