use Rattle.std.proofs.Common.{◌<◌, take}
use Rattle.std.specs.List.{AllByRecursion}
use Rattle.channel_sim.proofs.calls.turns.first_by.Given as goal

-- the turns so far come later
abbrev pub invariant-loop-turn : goal.invariant-loop-turn
invariant-loop-turn l = AllByRecursion (λ t. l.tick < t.tick) (take l.turn-index l.turns)
