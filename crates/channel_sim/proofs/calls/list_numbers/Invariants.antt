use Rattle.std.proofs.Common.{◌≡◌, map}
use Rattle.channel_sim.proofs.calls.list_numbers.Given as goal

-- the numbers of the calls so far
abbrev pub invariant-loop-call : goal.invariant-loop-call
invariant-loop-call l = l.numbers.items ≡ map (λ k. k.now.number) l.yielded
