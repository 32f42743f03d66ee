use Rattle.std.proofs.Common.{◌≡◌, ◌<◌, ◌≤◌, ◌+◌, ◌%◌, ℕ, get_or}
use Rattle.relay_desk.proofs.pending.Pending.due.Given as goal

abbrev pub invariant-loop-n : goal.invariant-loop-n
invariant-loop-n l = (m : ℕ) → 1 ≤ m → m < l.n → get_or l.self-inside.counts ((l.self-inside.phase + m) % 10) 0 ≡ 0
