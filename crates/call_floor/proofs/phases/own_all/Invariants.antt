use Rattle.std.proofs.Common.{◌≡◌, ◌≤◌, ◌-◌, ◌++◌, ◌⊎◌, replicate}
use Rattle.call_floor.proofs.phases.own_all.Given as goal

-- so many have this owner
abbrev pub invariant-loop : goal.invariant-loop
invariant-loop l =
    record {
      began : l.from ≤ l.counter;
      within : (l.counter ≡ l.from) ⊎ (l.counter ≤ l.count);
      owned : l.owners.items ≡ l.initial.owners.items ++ replicate (l.counter - l.from) l.place;
    }
