use Rattle.std.proofs.Common.{arith, refl, sym, subst, ◌∙◌, None}
use Rattle.line_input.specs.Reading.{Reading}
use Rattle.trace_audit.specs.inner.AuditTurns.{Standing, Turn}
use Rattle.trace_audit.proofs.AuditRead.{audit_first, items_few}
use Rattle.trace_audit.proofs.audit_lines.audit.Goals as goal

pub loop-verdict-init : goal.loop-verdict-init
loop-verdict-init g c = record {
  stands = subst (λ (r : Reading). Standing (g.I.Source.left c.args.source.now) (g.I.Source.left c.args.source.now)
      r c.new-heard.result)
      (sym c.new-lines.ensures) (audit_first (g.I.Source.left c.args.source.now) c.new-heard.result
      c.new-heard.ensures);
  bound = rw c.new-lines.ensures (omega arith);
  reads = refl;
}

pub loop-verdict-smaller : goal.loop-verdict-smaller
loop-verdict-smaller g c =
    let turns : Turn _ _ c.loop-verdict.lines c.take_turn.new.lines c.take_turn.new.heard None =
    c.in-None.ensures.turns _ c.loop-verdict.invariant.stands in
    omega (arith, turns.1, turns.2)

pub loop-verdict-preserved : goal.loop-verdict-preserved
loop-verdict-preserved g c =
    let turns : Turn _ _ c.loop-verdict.lines c.take_turn.new.lines c.take_turn.new.heard None =
    c.in-None.ensures.turns _ c.loop-verdict.invariant.stands in
    record {
      stands = turns.0;
      bound = turns.2;
      reads = c.in-None.ensures.cause ∙ c.loop-verdict.invariant.reads;
    }

pub take_turn-requires-clause-few : goal.take_turn-requires-clause-few
take_turn-requires-clause-few g c =
    omega (
      arith,
      items_few _ _ c.loop-verdict.lines c.loop-verdict.heard c.loop-verdict.invariant.stands,
      c.loop-verdict.invariant.bound,
    )
