use Rattle.std.proofs.Common.{◌≡◌, ◌≤◌, List, map, take, drop, ◌<◌, ◌+◌, ◌^◌}
use Rattle.std.specs.List.{AllByRecursion}
use Rattle.channel_sim.specs.World.{Call, session_count}
use Rattle.channel_sim.specs.declared.calls.turns.Turn.{Turn}
use Rattle.channel_sim.specs.inner.Beside.{bare}
use Rattle.channel_sim.specs.inner.Turns.{IsListed}
use Rattle.channel_sim.specs.Lag.{LeastPassed, CallsLag, level}
use Rattle.channel_sim.proofs.calls.passing.pass_each.Given as goal

-- the calls so far were caught up, those that sleep still do, and the rest is as it was
abbrev pub invariant-loop-call : goal.invariant-loop-call
invariant-loop-call g l =
    record {
      same : map bare l.call-items ≡ map bare l.initial.call-items;
      listed : (turns : List Turn) → AllByRecursion (IsListed turns) l.initial.call-items → AllByRecursion (IsListed turns) l.call-items;
      done : (floor : LeastPassed) (ks : List Call) → CallsLag floor (λ c. l.tick) l.initial.call-items ks → CallsLag (level l.tick l.tick) (λ c. l.tick) (take l.call-index l.call-items) (take l.call-index ks);
      passes : (floor : LeastPassed) (ks : List Call) → CallsLag floor (λ c. l.tick) l.initial.call-items ks → l.tick < floor.waking + 2 ^ 32 → l.tick < floor.settled + 2 ^ 32 →
          l.moments ≤ l.initial.moments + session_count (take l.call-index ks);
      rest : drop l.call-index l.call-items ≡ drop l.call-index l.initial.call-items;
    }
