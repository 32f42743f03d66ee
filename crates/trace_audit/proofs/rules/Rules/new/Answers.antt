use Rattle.link_frames.specs.declared.frame.End.TheVariants as «end»
use Rattle.trace_model.proofs.Fronts.{nothing_safe}
use Rattle.trace_audit.proofs.rules.Rules.new.Goals as goal

pub returns : goal.returns
returns c =
    record {
      vehicle = c.new.ensures «end».Vehicle;
      point = c.new-2.ensures «end».Point;
      shown = c.new-3.ensures;
      owed = λ e d. (λ h. h, λ h. h);
      safe = nothing_safe 0;
    }
