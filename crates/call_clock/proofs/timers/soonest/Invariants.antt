use Rattle.std.proofs.Common.{◌≡◌, take}
use Rattle.call_clock.specs.Timers.{due_of}
use Rattle.call_clock.specs.Clock.{all_seen}
use Rattle.call_clock.proofs.timers.soonest.Given as goal

abbrev pub invariant-loop-place : goal.invariant-loop-place
invariant-loop-place l = l.due ≡ due_of (all_seen l.now (take l.place-index l.places))
