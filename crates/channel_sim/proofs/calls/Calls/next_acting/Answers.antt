use Rattle.std.proofs.Common.{subst}
use Rattle.std.specs.List.{AllByRecursion}
use Rattle.channel_sim.specs.inner.Beside.{WaitsBetween}
use Rattle.channel_sim.proofs.TurnLemmas.{none_acts}
use Rattle.channel_sim.proofs.calls.Calls.next_acting.Goals as goal

pub returns-clause-others : goal.returns-clause-others
returns-clause-others c =
    subst (AllByRecursion (WaitsBetween c.args.from c.next.result c.args.tick)) c.self.view_is
    (none_acts c.self.inside.turns c.args.from c.next.result c.args.tick c.self.inside.list.items c.next.ensures.others c.self.invariant.watched)
