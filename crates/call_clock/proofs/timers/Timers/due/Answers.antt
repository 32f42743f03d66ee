use Rattle.std.proofs.Common.{arith, rules, ◌∙◌}
use Rattle.std.proofs.lemmas.List.{length-map}
use Rattle.call_clock.specs.Clock.{seen, all_seen}
use Rattle.call_clock.proofs.Clock.{within_all}
use Rattle.call_clock.proofs.Due.{none_due_is, at_due, before_due}
use Rattle.call_clock.proofs.timers.Timers.due.Goals as goal

-- The clauses are laws of `due_of`, at the places that are seen.
pub returns-clause-none : goal.returns-clause-none
returns-clause-none c = rw (c.soonest.ensures, ← c.self.view_is) (none_due_is (all_seen c.self.inside.time c.self.inside.places)
    (length-map c.self.inside.places (seen c.self.inside.time) ∙ search rules))

pub returns-clause-at_end : goal.returns-clause-at_end
returns-clause-at_end c = rw (c.soonest.ensures, ← c.self.view_is) (at_due (all_seen c.self.inside.time c.self.inside.places))

pub returns-clause-before : goal.returns-clause-before
returns-clause-before c = rw (c.soonest.ensures, ← c.self.view_is) (before_due (all_seen c.self.inside.time c.self.inside.places))

pub returns-clause-kept : goal.returns-clause-kept
returns-clause-kept c =
    rw (← c.self.view_is) (record { eight = length-map c.self.inside.places (seen c.self.inside.time) ∙ omega arith; within = within_all c.self.inside.time c.self.inside.places })
