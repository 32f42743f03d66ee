use Rattle.std.proofs.Common.{◌≡◌, ◌≤◌, ◌<◌, ◌+◌, ◌^◌}
use Rattle.psap_machine.specs.Point.{Point}
use Rattle.channel_sim.specs.Lag.{SessionLags}
use Rattle.channel_sim.proofs.quiet.pass_quietly.Given as goal

-- it lags by what is left, and was passed once at most
abbrev pub invariant-loop-left : goal.invariant-loop-left
invariant-loop-left g l =
    record {
      lags : (s : Point) → SessionLags l.fn.lag l.initial.session s → SessionLags l.left l.session s;
      within : l.left ≤ l.fn.lag;
      still : l.fn.lag ≡ 0 → l.moments ≡ l.initial.moments;
      once : (s : Point) → SessionLags l.fn.lag l.initial.session s → l.fn.lag < 2 ^ 32 →
          (l.moments ≤ l.initial.moments + 1) × (0 < l.left → l.moments ≡ l.initial.moments);
    }

abbrev pub decreases-loop-left : goal.decreases-loop-left
decreases-loop-left g l = l.left
