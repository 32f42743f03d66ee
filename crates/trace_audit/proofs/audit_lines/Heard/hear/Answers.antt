use Rattle.std.proofs.Common.{arith, ◌≤◌}
use Rattle.trace_model.specs.Tallies.{last_tick}
use Rattle.trace_audit.proofs.AuditRead.{taken_entry}
use Rattle.trace_audit.proofs.audit_lines.Heard.hear.Goals as goal

pub returns-in-None-clause-hears : goal.returns-in-None-clause-hears
returns-in-None-clause-hears c =
    λ before h.
    let le : last_tick before ≤ c.args.entry.now.tick = omega (arith, h.tick, c.if-entry-self.false) in (
      le,
      taken_entry c.args.self.now c.hear.new.self before c.args.entry.now h le
          ((c.in-Ok.ensures.judged before h.rules le).1 c.in-None.is),
    )
