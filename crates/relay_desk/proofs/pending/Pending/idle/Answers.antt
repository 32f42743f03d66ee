use Rattle.relay_desk.proofs.QueueLemmas.{idle_ticks}
use Rattle.relay_desk.proofs.pending.Pending.idle.Goals as goal

pub returns : goal.returns
returns c =
    rw (← c.self.view_is) (idle_ticks c.self.inside.phase c.args.n c.self.inside.waits.items c.self.invariant.in_ten
    c.self.invariant.each (rw c.self.view_is c.requires.room))
