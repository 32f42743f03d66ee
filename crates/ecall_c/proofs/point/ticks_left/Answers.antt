use Rattle.std.proofs.Common.{ap, sym, Option}
use Rattle.psap_machine.specs.declared.session.Session.{Session}
use Rattle.ecall_c.proofs.point.ticks_left.Goals as goal

pub returns-clause-kept : goal.returns-clause-kept
returns-clause-kept c =
    ap (λ (m : Option Session). record c.args.point.now { session = m }) (sym c.session-session.ensures.value)
