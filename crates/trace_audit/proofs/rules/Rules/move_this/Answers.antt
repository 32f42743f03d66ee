use Rattle.std.proofs.Common.{refl, subst}
use Rattle.link_frames.specs.declared.frame.End.{End}
use Rattle.link_frames.specs.declared.frame.End.TheVariants as «end»
use Rattle.trace_model.specs.LegsMoved.{Moves}
use Rattle.trace_model.proofs.LegsHeard.{legs_heard, legs_others}
use Rattle.trace_audit.proofs.RulesLemmas.{on_both, on_ok}
use Rattle.trace_audit.proofs.rules.Rules.move_this.Goals as goal

pub returns-in-Vehicle-clause-vehicle : goal.returns-in-Vehicle-clause-vehicle
returns-in-Vehicle-clause-vehicle c =
    λ before le m h.
    on_both c.hear.result _ _ _
    (λ voices keeps.
    legs_heard «end».Vehicle c.args.self.now.vehicle c.hear.new.self before c.args.entry.now c.args.leg.call
    (subst (λ (e : End). Moves e c.args.leg.call c.args.entry.now.note) c.in-Vehicle.is m) voices keeps h)
    c.hear.ensures.voices (c.hear.ensures.keeps _ le h.keeps)

pub returns-in-Vehicle-clause-point : goal.returns-in-Vehicle-clause-point
returns-in-Vehicle-clause-point c =
    λ before le m h.
    on_ok c.hear.result _
    (legs_others «end».Point «end».Vehicle c.args.self.now.point before c.args.entry.now c.args.leg.call refl
    (subst (λ (e : End). Moves e c.args.leg.call c.args.entry.now.note) c.in-Vehicle.is m) le h)

pub returns-in-Point-clause-vehicle : goal.returns-in-Point-clause-vehicle
returns-in-Point-clause-vehicle c =
    λ before le m h.
    on_ok c.hear-in-Point.result _
    (legs_others «end».Vehicle «end».Point c.args.self.now.vehicle before c.args.entry.now c.args.leg.call refl
    (subst (λ (e : End). Moves e c.args.leg.call c.args.entry.now.note) c.in-Point.is m) le h)

pub returns-in-Point-clause-point : goal.returns-in-Point-clause-point
returns-in-Point-clause-point c =
    λ before le m h.
    on_both c.hear-in-Point.result _ _ _
    (λ voices keeps.
    legs_heard «end».Point c.args.self.now.point c.hear-in-Point.new.self before c.args.entry.now c.args.leg.call
    (subst (λ (e : End). Moves e c.args.leg.call c.args.entry.now.note) c.in-Point.is m) voices keeps h)
    c.hear-in-Point.ensures.voices (c.hear-in-Point.ensures.keeps _ le h.keeps)
