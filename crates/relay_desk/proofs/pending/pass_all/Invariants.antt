use Rattle.std.proofs.Common.{◌≡◌, ◌++◌, map, take, drop}
use Rattle.relay_desk.specs.inner.Queue.{passed_wait}
use Rattle.relay_desk.proofs.pending.pass_all.Given as goal

abbrev pub invariant-loop-wait : goal.invariant-loop-wait
invariant-loop-wait l =
    l.waits ≡ map (passed_wait l.phase) (take l.wait-index l.initial.waits) ++ drop l.wait-index l.initial.waits
