use Rattle.std.proofs.Common.{◌≡◌, ℕ, ◌+◌, ◌-◌, length}
use Rattle.link_frames.specs.declared.frame.End.{End}
use Rattle.tones_command.specs.inner.Hearing.{frames_of}
use Rattle.tones_command.proofs.sent.SentFrames.reach.Given as goal

abbrev pub invariant-loop-alloc : goal.invariant-loop-alloc
invariant-loop-alloc l =
    (e : End) (c : ℕ) → frames_of e c l.self.calls.items ≡ frames_of e c l.initial.self.calls.items

abbrev pub decreases-loop-alloc : goal.decreases-loop-alloc
decreases-loop-alloc l = l.call + 1 - length l.self.calls.items
