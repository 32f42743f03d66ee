use Rattle.relay_desk.proofs.QueueLemmas.{settled_ticks}
use Rattle.relay_desk.proofs.pending.Pending.first.Goals as goal

pub returns-clause-front : goal.returns-clause-front
returns-clause-front c =
    rw (← c.self.view_is) (settled_ticks c.self.inside.first c.self.inside.phase c.self.inside.waits.items c.self.invariant.front)
