use Rattle.std.proofs.Common.{Option, ℕ, sym, subst}
use Rattle.ivs_machine.specs.VehicleRows.{IsLeastDue}
use Rattle.ivs_machine.proofs.Ticks.{due_is_least}
use Rattle.ivs_machine.proofs.vehicle.Ivs.due.Goals as goal

pub returns-clause-least : goal.returns-clause-least
returns-clause-least c = λ v h. subst (λ (due : Option ℕ). IsLeastDue due v) (sym (c.ticks_left.ensures v h)) (due_is_least v h.kept)
