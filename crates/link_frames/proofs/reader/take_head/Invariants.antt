use Rattle.std.proofs.Common.{◌≡◌, ◌≤◌, ◌<◌, ◌-◌, ℕ, List, false, length}
use Rattle.link_frames.specs.Stages.{kept, request_of, filled_of}
use Rattle.link_frames.specs.inner.Coming.{is_stopped, ComesTo}
use Rattle.link_frames.proofs.reader.take_head.Given as goal

abbrev pub invariant-loop-n : goal.invariant-loop-n
invariant-loop-n l =
    (l.n ≤ length l.piece) × (is_stopped l.stage ≡ false) × (0 < request_of l.stage) × (filled_of l.stage < 140)
    × ((set : List ℕ) → ComesTo set (kept set l.fn.stage) l.piece l.n l.stage)

abbrev pub decreases-loop-n : goal.decreases-loop-n
decreases-loop-n l = length l.piece - l.n
