use Rattle.trace_audit.proofs.ShownLemmas.{added_by}
use Rattle.trace_audit.proofs.shown.Shown.add.Goals as goal

pub returns-in-Ok : goal.returns-in-Ok
returns-in-Ok c =
    λ t x n h.
    added_by c.args.self.now (record { sets = c.insert.new.self }) c.args.call c.args.request c.number.result
    c.args.octets.now
    c.number.ensures.value c.in-Ok.ensures.updates.0 t x n h
