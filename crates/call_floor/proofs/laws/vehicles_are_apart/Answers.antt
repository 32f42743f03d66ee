use Rattle.call_floor.proofs.FloorSteps.{apart_step, kept_step}
use Rattle.call_floor.proofs.FloorRuns.{run_apart, parts_safe}
use Rattle.call_floor.proofs.laws.vehicles_are_apart.Goals as goal

pub returns : goal.returns
returns c =
    record {
      step = apart_step;
      kept = kept_step;
      told = λ w es v u kept h. (run_apart es w v u kept h).told;
      world = λ w es v u kept h. (run_apart es w v u kept h).world;
      safe = λ w es v known kept h. parts_safe es w v known kept h;
    }
