use Rattle.std.proofs.Common.{◌≡◌, map, take}
use Rattle.channel_sim.proofs.calls.sendings.list_at.Given as goal

-- the calls of those so far
abbrev pub invariant-loop-place : goal.invariant-loop-place
invariant-loop-place l = l.numbers.items ≡ map (λ s. s.call) (take l.place l.sendings)
