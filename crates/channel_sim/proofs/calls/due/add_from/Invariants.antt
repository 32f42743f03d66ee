use Rattle.std.proofs.Common.{◌≡◌, ◌+◌, ◌++◌, ℕ, map, take}
use Rattle.channel_sim.specs.World.{due_frames}
use Rattle.channel_sim.specs.Handing.{due_of}
use Rattle.channel_sim.specs.inner.Sends.{IsFirstFrom}
use Rattle.channel_sim.specs.Tidy.{AreFrom, ticks_of}
use Rattle.channel_sim.proofs.calls.due.add_from.Given as goal

-- the frames so far that were sent at this tick stand behind those that were there
abbrev pub invariant-loop-k : goal.invariant-loop-k
invariant-loop-k l =
    (delay : ℕ) → AreFrom 0 (ticks_of l.sends) → IsFirstFrom l.tick l.first (ticks_of l.sends) →
    map due_of l.due.items ≡ map due_of l.initial.due.items ++ due_frames l.number delay (l.tick + delay) (take l.k l.sends)
