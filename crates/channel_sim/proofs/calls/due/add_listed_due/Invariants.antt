use Rattle.std.proofs.Common.{◌≡◌, ◌+◌, ◌++◌, ℕ, suc, List, map, take}
use Rattle.std.specs.List.{AllByRecursion}
use Rattle.channel_sim.specs.World.{Call}
use Rattle.channel_sim.specs.Handing.{due_of, sent_way}
use Rattle.channel_sim.specs.Lag.{LeastPassed, CallsLag}
use Rattle.channel_sim.specs.Tidy.{AreAbove, CallInTime, numbers_of}
use Rattle.channel_sim.proofs.DueLemmas.{due_listed}
use Rattle.channel_sim.proofs.calls.due.add_listed_due.Given as goal

-- the frames of the calls of the numbers so far stand behind those that were there
abbrev pub invariant-loop-number : goal.invariant-loop-number
invariant-loop-number l =
    (d : ℕ) (floor : LeastPassed) (now : ℕ) (clock : ℕ → ℕ) (ks : List Call) → CallsLag floor clock l.calls.items ks → AreAbove 0 (numbers_of ks) → AllByRecursion (CallInTime now) ks →
    map due_of l.due.items ≡ map due_of l.initial.due.items ++ due_listed (sent_way l.up) d (l.tick + suc d) (take l.number-index l.numbers) ks
