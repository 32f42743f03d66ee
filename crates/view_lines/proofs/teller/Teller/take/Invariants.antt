use Rattle.std.proofs.Common.{◌≡◌, ◌++◌, List, ℕ, length}
use Rattle.view_lines.specs.inner.Standing.{Stands}
use Rattle.view_lines.proofs.teller.Teller.take.Given as goal

-- so many of the bytes were taken
abbrev pub invariant-loop-at : goal.invariant-loop-at
invariant-loop-at g l =
    (taken : List ℕ) × (l.fn.piece ≡ taken ++ l.rest)
    × ((front handed : List ℕ) → Stands g.T.LineTeller.tells g.T.LineTeller.heard front handed l.initial.self
    → Stands g.T.LineTeller.tells g.T.LineTeller.heard (front ++ taken) handed l.self)

abbrev pub decreases-loop-at : goal.decreases-loop-at
decreases-loop-at g l = length l.rest
