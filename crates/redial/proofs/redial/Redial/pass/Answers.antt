use Rattle.std.proofs.Common.{ap}
use Rattle.redial.specs.SeriesRows.{Units}
use Rattle.redial.proofs.Ticks.{passes, keeps}
use Rattle.redial.proofs.redial.Redial.pass.Goals as goal

pub invariant_of-self : goal.invariant_of-self
invariant_of-self c =
    keeps c.args.n c.self.inside.series c.grown.result c.acts-ticked.result c.grown.ensures c.acts-ticked.ensures
    c.self.invariant (rw c.self.view_is c.requires.due)

pub returns-clause-turn : goal.returns-clause-turn
returns-clause-turn c =
    rw (← c.self.view_is)
    (ap (λ (u : Units). u.turns)
    (passes c.args.n c.self.inside.series c.grown.result c.acts-ticked.result c.grown.ensures c.acts-ticked.ensures
    c.self.invariant (rw c.self.view_is c.requires.due)))

pub returns-clause-new : goal.returns-clause-new
returns-clause-new c =
    rw (← c.self.view_is)
    (ap (λ (u : Units). u.new)
    (passes c.args.n c.self.inside.series c.grown.result c.acts-ticked.result c.grown.ensures c.acts-ticked.ensures
    c.self.invariant (rw c.self.view_is c.requires.due)))
