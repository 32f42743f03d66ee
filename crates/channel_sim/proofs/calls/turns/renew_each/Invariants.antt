use Rattle.std.proofs.Common.{◌≡◌, take}
use Rattle.std.specs.List.{AllByRecursion}
use Rattle.channel_sim.specs.inner.Turns.{calls_of}
use Rattle.channel_sim.proofs.TurnLemmas.{Holds}
use Rattle.channel_sim.proofs.calls.turns.renew_each.Given as goal

-- the calls are as before, and the turns so far hold
abbrev pub invariant-loop-turn : goal.invariant-loop-turn
invariant-loop-turn l = (calls_of l.turn-items ≡ calls_of l.fn.turns) × AllByRecursion (Holds l.calls.items) (take l.turn-index l.turn-items)
