use Rattle.channel_sim.proofs.Whole.{first_fits, step_fits, ticks_front, trace_fits, trace_front, unit_fits}
use Rattle.channel_sim.proofs.laws.traces_are_safe.Goals as goal

pub returns : goal.returns
returns c =
    record {
      safe = λ known events. (trace_fits known events).safe;
      finished = λ known events. (trace_fits known events).finished;
      front = trace_front;
      ticks = ticks_front;
      fits = trace_fits;
      first = first_fits;
      kept = step_fits;
      ticked = unit_fits;
    }
