use Rattle.link_frames.specs.declared.frame.End.TheVariants as «end»
use Rattle.trace_audit.proofs.RulesLemmas.{bounded_by, too_long}
use Rattle.trace_audit.proofs.rules.Rules.is_bounded.Goals as goal

pub returns-then-not-are_within-clause-bounded : goal.returns-then-not-are_within-clause-bounded
returns-then-not-are_within-clause-bounded c =
    λ before h le.
    too_long c.args.self.now «end».Vehicle before c.args.entry.now c.are_within.result h c.if-not-are_within.true
    (c.are_within.ensures.within _ h.vehicle.keeps)

pub returns-then-not-are_within-2-clause-bounded : goal.returns-then-not-are_within-2-clause-bounded
returns-then-not-are_within-2-clause-bounded c =
    λ before h le.
    too_long c.args.self.now «end».Point before c.args.entry.now c.are_within-2.result h c.if-not-are_within-2.true
    (c.are_within-2.ensures.within _ h.point.keeps)

pub returns-clause-bounded : goal.returns-clause-bounded
returns-clause-bounded c =
    λ before h le.
    bounded_by c.args.self.now
    (record c.args.self.now { vehicle = c.are_within.new.self; point = c.are_within-2.new.self }) before
    c.args.entry.now c.mutes_too_soon.result h
    ((c.are_within.ensures.within _ h.vehicle.keeps).0 c.if-not-are_within.false)
    ((c.are_within-2.ensures.within _ h.point.keeps).0 c.if-not-are_within-2.false) c.are_within.ensures.up
    c.are_within-2.ensures.up c.mutes_too_soon.ensures
