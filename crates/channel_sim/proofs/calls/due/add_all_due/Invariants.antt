use Rattle.std.proofs.Common.{◌≡◌, ◌+◌, ◌++◌, ℕ, suc, List, length, map, take}
use Rattle.std.specs.List.{AllByRecursion}
use Rattle.channel_sim.specs.World.{Call, due_in}
use Rattle.channel_sim.specs.Handing.{due_of, sent_way}
use Rattle.channel_sim.specs.Lag.{LeastPassed, CallsLag}
use Rattle.channel_sim.specs.Tidy.{CallInTime}
use Rattle.channel_sim.proofs.calls.due.add_all_due.Given as goal

-- the frames of the calls so far stand behind those that were there
abbrev pub invariant-loop-call : goal.invariant-loop-call
invariant-loop-call l =
    (d : ℕ) (floor : LeastPassed) (now : ℕ) (clock : ℕ → ℕ) (ks : List Call) → CallsLag floor clock l.calls.items ks → AllByRecursion (CallInTime now) ks →
    map due_of l.due.items ≡ map due_of l.initial.due.items ++ due_in (sent_way l.up) (suc d) (l.tick + suc d) (take (length l.yielded) ks)
