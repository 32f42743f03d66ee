use Rattle.std.proofs.Common.{◌≤◌, take}
use Rattle.std.specs.List.{AllByRecursion}
use Rattle.call_floor.proofs.floor.place_for.Given as goal

-- the vehicles so far have no higher number
abbrev pub invariant-loop-place : goal.invariant-loop-place
invariant-loop-place l = AllByRecursion (λ x. x.number ≤ l.number) (take l.place l.seats)
