use Rattle.std.proofs.Common.{◌≡◌, ◌≤◌, ◌<◌, ◌^◌}
use Rattle.psap_machine.specs.Point.{Point}
use Rattle.psap_machine.specs.SessionStands.{IsSettled}
use Rattle.channel_sim.specs.Lag.{SessionLags}
use Rattle.channel_sim.proofs.quiet.rest_long.Given as goal

-- it lags by what is left, and was not passed yet where one pass is enough
abbrev pub invariant-loop-left : goal.invariant-loop-left
invariant-loop-left g l =
    record {
      lags : (s : Point) → SessionLags l.fn.lag l.initial.session s → SessionLags l.left l.session s;
      settled : IsSettled l.session;
      within : l.left ≤ l.fn.lag;
      once : l.fn.lag < 2 ^ 32 → l.moments ≡ l.initial.moments;
    }

abbrev pub decreases-loop-left : goal.decreases-loop-left
decreases-loop-left g l = l.left
