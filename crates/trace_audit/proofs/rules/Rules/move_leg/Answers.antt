use Rattle.link_frames.specs.declared.frame.End.TheVariants as «end»
use Rattle.trace_model.proofs.LegsHeard.{legs_quiet}
use Rattle.trace_audit.proofs.rules.Rules.move_leg.Goals as goal

pub returns-in-None-clause-vehicle : goal.returns-in-None-clause-vehicle
returns-in-None-clause-vehicle c =
    λ before le h. legs_quiet «end».Vehicle c.args.self.now.vehicle before c.args.entry.now c.in-None.ensures le h

pub returns-in-None-clause-point : goal.returns-in-None-clause-point
returns-in-None-clause-point c =
    λ before le h. legs_quiet «end».Point c.args.self.now.point before c.args.entry.now c.in-None.ensures le h
