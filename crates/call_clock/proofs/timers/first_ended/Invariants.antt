use Rattle.std.proofs.Common.{◌≡◌, drop}
use Rattle.std.specs.List.{position_from}
use Rattle.call_clock.specs.Timers.{is_at_end, first_at_end}
use Rattle.call_clock.specs.Clock.{all_seen}
use Rattle.call_clock.proofs.timers.first_ended.Given as goal

abbrev pub invariant-loop-rank : goal.invariant-loop-rank
invariant-loop-rank l = position_from is_at_end l.rank (all_seen l.now (drop l.rank l.places)) ≡ first_at_end (all_seen l.now l.places)
