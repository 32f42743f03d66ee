use Rattle.std.proofs.Common.{◌≡◌, ◌≤◌, ◌<◌, ◌+◌, ◌^◌}
use Rattle.ivs_machine.specs.Vehicle.{Vehicle}
use Rattle.channel_sim.specs.Lag.{VehicleLags}
use Rattle.channel_sim.proofs.quiet.pass_vehicle_quietly.Given as goal

-- it lags by what is left, and was passed once at most
abbrev pub invariant-loop-left : goal.invariant-loop-left
invariant-loop-left g l =
    record {
      lags : (v : Vehicle) → VehicleLags l.fn.lag l.initial.ivs v → VehicleLags l.left l.ivs v;
      within : l.left ≤ l.fn.lag;
      still : l.fn.lag ≡ 0 → l.moments ≡ l.initial.moments;
      once : (v : Vehicle) → VehicleLags l.fn.lag l.initial.ivs v → l.fn.lag < 2 ^ 32 →
          (l.moments ≤ l.initial.moments + 1) × (0 < l.left → l.moments ≡ l.initial.moments);
    }

abbrev pub decreases-loop-left : goal.decreases-loop-left
decreases-loop-left g l = l.left
