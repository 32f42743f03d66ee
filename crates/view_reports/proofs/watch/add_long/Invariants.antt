use Rattle.std.proofs.Common.{◌≡◌, ◌++◌, length}
use Rattle.link_frames.specs.Legs.{muting_limit}
use Rattle.view_reports.specs.Muting.{left_in, long_breaks}
use Rattle.view_reports.proofs.watch.add_long.Given as goal

abbrev pub invariant-loop-stretch : goal.invariant-loop-stretch
invariant-loop-stretch l = record {
  told : l.breaks.items ++ long_breaks l.calls l.end l.now l.queue
      ≡ l.initial.breaks.items ++ long_breaks l.calls l.end l.now l.initial.queue;
  left : left_in (muting_limit l.end) l.now l.queue ≡ left_in (muting_limit l.end) l.now l.initial.queue;
}

abbrev pub decreases-loop-stretch : goal.decreases-loop-stretch
decreases-loop-stretch l = length l.queue
