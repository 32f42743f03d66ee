use Rattle.std.proofs.Common.{◌-◌, ◌≡◌, ◌≤◌}
use Rattle.trace_audit.specs.inner.AuditTurns.{Standing}
use Rattle.trace_audit.proofs.audit_lines.audit.Given as goal

-- the audit stands behind the lines so far, and no count of faults rose
abbrev pub invariant-loop-verdict : goal.invariant-loop-verdict
invariant-loop-verdict g l = record {
  stands : Standing (g.I.Source.left l.initial.source) (g.I.Source.left l.source) l.lines l.heard;
  bound : l.lines.lines ≤ 16777216;
  reads : g.I.Source.faults l.source ≡ g.I.Source.faults l.initial.source;
}

-- lines that are left to the greatest number of bytes
abbrev pub decreases-loop-verdict : goal.decreases-loop-verdict
decreases-loop-verdict g l = 16777217 - l.lines.lines
