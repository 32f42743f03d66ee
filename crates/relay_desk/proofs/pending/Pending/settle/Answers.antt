use Rattle.relay_desk.proofs.QueueLemmas.{settled_ticks_stay, settled_ticks_end}
use Rattle.relay_desk.proofs.pending.Pending.settle.Goals as goal

pub returns-in-None : goal.returns-in-None
returns-in-None c =
    rw (← c.self.view_is) (settled_ticks_stay c.self.inside.phase c.args.place c.self.inside.waits.items c.index.result.now
    c.index.ensures c.in-None.is)

pub returns-in-Some : goal.returns-in-Some
returns-in-Some c =
    rw (← c.self.view_is) (settled_ticks_end c.self.inside.phase c.args.place c.self.inside.waits.items)
