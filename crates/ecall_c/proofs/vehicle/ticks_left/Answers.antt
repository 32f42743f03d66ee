use Rattle.std.proofs.Common.{ap, sym, Option}
use Rattle.ivs_machine.specs.declared.vehicle.Ivs.{Ivs}
use Rattle.ecall_c.proofs.vehicle.ticks_left.Goals as goal

pub returns-clause-kept : goal.returns-clause-kept
returns-clause-kept c =
    ap (λ (m : Option Ivs). record c.args.vehicle.now { ivs = m }) (sym c.ivs-ivs.ensures.value)
