use Rattle.redial.proofs.Ticks.{before_due, turns_at_due}
use Rattle.redial.proofs.redial.Redial.due.Goals as goal

pub returns-clause-turns : goal.returns-clause-turns
returns-clause-turns c = rw (← c.self.view_is) (turns_at_due c.due.result c.self.inside.series c.self.invariant c.due.ensures)

pub returns-clause-quiet : goal.returns-clause-quiet
returns-clause-quiet c = rw (← c.self.view_is) (λ n lt. before_due n c.due.result c.self.inside.series c.due.ensures lt)
