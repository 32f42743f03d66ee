use Rattle.std.proofs.Common.{◌≡◌, take}
use Rattle.std.specs.List.{AllByRecursion}
use Rattle.call_floor.proofs.seat.Seats.find.Given as goal

-- the vehicles so far have other numbers
abbrev pub invariant-loop-place : goal.invariant-loop-place
invariant-loop-place l = AllByRecursion (λ x. x.number ≡ l.number → ⊥) (take l.place l.self.list.items)
