use Rattle.std.proofs.Common.{◌≡◌, ℕ, ◌<◌, get_or}
use Rattle.per_types.specs.Kinds.{alphabet}
use Rattle.per_types.proofs.writers.index_of.Given as goal

abbrev pub invariant-loop-i : goal.invariant-loop-i
invariant-loop-i l = (k : ℕ) → k < l.i → get_or alphabet k 0 ≡ l.value → ⊥
