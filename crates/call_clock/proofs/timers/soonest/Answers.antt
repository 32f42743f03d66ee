use Rattle.std.proofs.Common.{None}
use Rattle.call_clock.proofs.Due.{due_of_more}
use Rattle.call_clock.proofs.timers.soonest.Goals as goal

-- One rank more is the sooner of what was found and what that rank has left.
pub loop-place-preserved : goal.loop-place-preserved
loop-place-preserved c =
    rw (due_of_more c.args.now c.args.places.now c.loop-place.place-index None c.loop-place-test.true) (cc)
