use Rattle.trace_model.proofs.Fronts.{agreed_one, bounded_one, leg_one, nothing_safe, opened_one, safe_front}
use Rattle.trace_model.proofs.laws.safe_traces.Goals as goal

pub returns : goal.returns
returns c =
    record {
      leg = leg_one;
      agreed = agreed_one;
      opened = opened_one;
      bounded = bounded_one;
      none = nothing_safe;
      front = safe_front;
    }
