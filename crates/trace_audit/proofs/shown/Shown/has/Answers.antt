use Rattle.trace_audit.proofs.ShownLemmas.{has_by}
use Rattle.trace_audit.proofs.shown.Shown.has.Goals as goal

pub returns : goal.returns
returns c =
    λ t h.
    has_by c.args.self.now c.args.call c.args.request c.number.result c.args.octets.now c.contains.result
    c.number.ensures.value c.contains.ensures t h
