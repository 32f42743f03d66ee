use Rattle.std.proofs.Common.{◌≤◌, take}
use Rattle.std.specs.List.{AllByRecursion}
use Rattle.channel_sim.proofs.calls.turns.Turns.least.Given as goal

-- no turn so far comes earlier
abbrev pub invariant-loop-turn : goal.invariant-loop-turn
invariant-loop-turn l = (l.least ≤ l.end) × AllByRecursion (λ t. l.least ≤ t.tick) (take l.turn-index l.turn-items)
