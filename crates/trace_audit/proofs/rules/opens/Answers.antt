use Rattle.trace_audit.proofs.RulesLemmas.{opens_by}
use Rattle.trace_audit.proofs.rules.opens.Goals as goal

pub returns-in-Some : goal.returns-in-Some
returns-in-Some c =
    opens_by c.in-Some.owed c.args.owed c.args.note.now c.is_opening.result c.in-Some.is c.is_opening.ensures
