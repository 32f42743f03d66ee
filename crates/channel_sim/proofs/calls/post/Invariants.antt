use Rattle.std.proofs.Common.{ℕ, List, take, map}
use Rattle.trace_model.specs.History.{told}
use Rattle.channel_sim.specs.World.{Call, carries}
use Rattle.channel_sim.specs.Lag.{LeastPassed, CallsLag}
use Rattle.channel_sim.specs.Tidy.{AreAbove, numbers_of}
use Rattle.channel_sim.proofs.calls.post.Given as goal

-- the calls carry the items so far
abbrev pub invariant-loop-note : goal.invariant-loop-note
invariant-loop-note l =
    (floor : LeastPassed) (clock : ℕ → ℕ) (ks : List Call) → CallsLag floor clock l.initial.calls ks → AreAbove 0 (numbers_of ks) →
    CallsLag floor clock l.calls (map (carries (told l.tick (take l.note-index l.items))) ks)
