use Rattle.std.proofs.Common.{arith, None}
use Rattle.std.proofs.lemmas.List.{get_or_default}
use Rattle.std.proofs.lemmas.List.Edits.{map_over_more}
use Rattle.relay_desk.specs.inner.Queue.{passed_wait}
use Rattle.relay_desk.proofs.pending.pass_all.Goals as goal

pub loop-wait-preserved : goal.loop-wait-preserved
loop-wait-preserved c =
    rw c.after_tick.ensures (map_over_more (passed_wait c.args.phase) c.args.waits.now c.loop-wait.waits
    c.loop-wait.wait-index _ c.loop-wait-test.true c.loop-wait.invariant
    (get_or_default c.loop-wait.waits c.loop-wait.wait-index None _ (omega arith)))
