use Rattle.std.proofs.Common.{◌∙◌, sym}
use Rattle.std.proofs.lemmas.Bool.{false≢true}
use Rattle.trace_audit.proofs.RulesLemmas.{agreed_by, opened_by}
use Rattle.trace_audit.proofs.rules.Rules.judge.Goals as goal

pub returns-then-not-agrees-clause-judged : goal.returns-then-not-agrees-clause-judged
returns-then-not-agrees-clause-judged c =
    λ before h le a.
    false≢true
    (sym c.if-not-agrees.true
    ∙ (agreed_by before c.args.entry.now c.agrees.result h.safe.agreed (c.agrees.ensures before h.shown)).1 a)

pub returns-then-not-opens-clause-judged : goal.returns-then-not-opens-clause-judged
returns-then-not-opens-clause-judged c =
    λ before h le. (
      (agreed_by before c.args.entry.now c.agrees.result h.safe.agreed (c.agrees.ensures before h.shown)).0
          c.if-not-agrees.false,
      λ o.
          false≢true
          (sym c.if-not-opens.true
          ∙ (opened_by c.args.self.now.owed before c.args.entry.now c.opens.result h.safe.opened h.owed
          c.opens.ensures).1 o),
    )

pub returns-then-is_bounded-clause-judged : goal.returns-then-is_bounded-clause-judged
returns-then-is_bounded-clause-judged c =
    λ before h le. record {
      agreed = (agreed_by before c.args.entry.now c.agrees.result h.safe.agreed (c.agrees.ensures before h.shown)).0
          c.if-not-agrees.false;
      opened = (opened_by c.args.self.now.owed before c.args.entry.now c.opens.result h.safe.opened h.owed
          c.opens.ensures).0
          c.if-not-opens.false;
      bounded = (c.is_bounded.ensures.bounded before h le).0 c.if-is_bounded.true;
    }

pub returns-else-is_bounded-clause-judged : goal.returns-else-is_bounded-clause-judged
returns-else-is_bounded-clause-judged c =
    λ before h le. (
      (agreed_by before c.args.entry.now c.agrees.result h.safe.agreed (c.agrees.ensures before h.shown)).0
          c.if-not-agrees.false,
      (opened_by c.args.self.now.owed before c.args.entry.now c.opens.result h.safe.opened h.owed c.opens.ensures).0
          c.if-not-opens.false,
      λ b. false≢true (sym c.if-is_bounded.false ∙ (c.is_bounded.ensures.bounded before h le).1 b),
    )
