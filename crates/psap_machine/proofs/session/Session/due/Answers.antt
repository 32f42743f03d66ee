use Rattle.std.proofs.Common.{Option, ℕ, sym, subst}
use Rattle.psap_machine.specs.PointRows.{IsLeastDue}
use Rattle.psap_machine.proofs.Ticks.{due_is_least}
use Rattle.psap_machine.proofs.session.Session.due.Goals as goal

pub returns-clause-least : goal.returns-clause-least
returns-clause-least c = λ s h.
    subst (λ (due : Option ℕ). IsLeastDue due s) (sym (c.ticks_left.ensures s h)) (due_is_least s h.kept)
