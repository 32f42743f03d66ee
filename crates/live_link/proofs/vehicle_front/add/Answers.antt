use Rattle.std.proofs.Common.{sym, ◌∙◌}
use Rattle.live_link.proofs.FrontLemmas.{adds_fact, adds_none}
use Rattle.live_link.proofs.vehicle_front.add.Goals as goal

pub returns-then-add-clause-takes : goal.returns-then-add-clause-takes
returns-then-add-clause-takes c told d =
    adds_fact told c.add.new.self c.args.number c.args.fact.now (sym c.if-add.true ∙ c.add.ensures.answer told d) (c.add.ensures.taken told d)

pub returns-else-add-clause-takes : goal.returns-else-add-clause-takes
returns-else-add-clause-takes c told d =
    rw c.refused.ensures
    (adds_none told c.add.new.self c.args.number c.args.fact.now (sym c.if-add.false ∙ c.add.ensures.answer told d))
