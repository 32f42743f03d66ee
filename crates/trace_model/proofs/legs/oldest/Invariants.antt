use Rattle.std.specs.Prelude.{ℕ, nat_eq}
use Rattle.std.specs.HashMap.{get}
use Rattle.std.specs.VecDeque.{deque_len}
use Rattle.trace_model.specs.LegsStand.{Keeps}
use Rattle.trace_model.proofs.legs.oldest.Given as goal

abbrev pub invariant-loop-first : goal.invariant-loop-first
invariant-loop-first l =
    (before : ℕ) → Keeps (get nat_eq l.up) l.initial.muted.items before → Keeps (get nat_eq l.up) l.muted.items before

abbrev pub decreases-loop-first : goal.decreases-loop-first
decreases-loop-first l = deque_len l.muted
