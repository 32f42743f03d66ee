use Rattle.std.proofs.Common.{◌≡◌, ◌≤◌, List, map, take, ◌<◌, ◌+◌, ◌^◌}
use Rattle.std.specs.List.{AllByRecursion}
use Rattle.channel_sim.specs.World.{Call}
use Rattle.channel_sim.specs.inner.Beside.{bare}
use Rattle.channel_sim.specs.inner.Turns.{IsListed, calls_of}
use Rattle.channel_sim.specs.Lag.{LeastPassed, CallsLag}
use Rattle.channel_sim.proofs.ListedLemmas.{AreReached, turn_count}
use Rattle.channel_sim.proofs.calls.passing.pass_listed.Given as goal

-- the calls of the turns so far were caught up, or sleep, and all stand for the same calls
abbrev pub invariant-loop-turn : goal.invariant-loop-turn
invariant-loop-turn g l =
    record {
      same : map bare l.calls.items ≡ map bare l.initial.calls.items;
      listed : AllByRecursion (IsListed l.turns) l.initial.calls.items → AllByRecursion (IsListed l.turns) l.calls.items;
      lags : (floor : LeastPassed) (ks : List Call) → CallsLag floor (λ c. l.tick) l.initial.calls.items ks → CallsLag floor (λ c. l.tick) l.calls.items ks;
      reached : AreReached l.tick (calls_of (take l.turn-index l.turns)) l.calls.items;
      passes : (floor : LeastPassed) (ks : List Call) → CallsLag floor (λ c. l.tick) l.initial.calls.items ks → l.tick < floor.waking + 2 ^ 32 →
          l.moments ≤ l.initial.moments + turn_count (calls_of (take l.turn-index l.turns)) ks;
    }
