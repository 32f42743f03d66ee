use Rattle.std.proofs.Common.{subst, sym}
use Rattle.trace_audit.specs.Outcome.{Outcome}
use Rattle.trace_audit.specs.declared.verdict.Verdict.{Verdict}
use Rattle.trace_audit.proofs.AuditRead.{turn_ended, turn_found, turn_unread}
use Rattle.trace_audit.proofs.audit_lines.take_turn.Goals as goal

pub returns-then-found-clause-turns : goal.returns-then-found-clause-turns
returns-then-found-clause-turns g c = λ start s.
    let reads = rw c.if-found.true at c.in-Ok.ensures.reads in
    turn_found start (g.I.Source.left c.args.source.now) (g.I.Source.left c.next.new.source) c.args.lines.now
    c.next.new.self c.args.heard.now c.hear_line.new.self c.line.result c.line.ensures reads c.hear_line.result
    c.hear_line.ensures.hears s

pub returns-else-found-clause-turns : goal.returns-else-found-clause-turns
returns-else-found-clause-turns g c = λ start s.
    let reads = rw c.if-found.false at c.in-Ok.ensures.reads in
    turn_ended start (g.I.Source.left c.args.source.now) (g.I.Source.left c.next.new.source) c.args.lines.now
    c.next.new.self c.args.heard.now reads s

pub returns-in-Err-clause-turns : goal.returns-in-Err-clause-turns
returns-in-Err-clause-turns g c = λ start s.
    subst (λ (v : Verdict). Outcome start (g.I.Source.left c.next.new.source) v) (sym c.unread.ensures)
    (turn_unread start (g.I.Source.left c.args.source.now) (g.I.Source.left c.next.new.source) c.args.lines.now
    c.next.new.self c.args.heard.now c.in-Err.fault c.in-Err.ensures.reads s)
