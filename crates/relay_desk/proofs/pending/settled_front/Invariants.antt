use Rattle.std.proofs.Common.{take}
use Rattle.std.specs.List.{AllByRecursion}
use Rattle.relay_desk.specs.inner.Queue.{IsSettled}
use Rattle.relay_desk.proofs.pending.settled_front.Given as goal

abbrev pub invariant-loop-i : goal.invariant-loop-i
invariant-loop-i l = AllByRecursion IsSettled (take l.i l.waits)
