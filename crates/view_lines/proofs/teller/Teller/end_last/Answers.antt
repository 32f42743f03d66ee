use Rattle.std.proofs.Common.{◌≡◌, ◌++◌, ◌∙◌, length, sym, eqb-true}
use Rattle.std.proofs.lemmas.Bool.{false≢true, eq-eqb}
use Rattle.view_lines.proofs.StandsLemmas.{heard_all, told_all}
use Rattle.view_lines.proofs.TellerLemmas.{last_told}
use Rattle.view_lines.proofs.teller.Teller.end_last.Goals as goal

pub returns-then-is_empty-clause-ok : goal.returns-then-is_empty-clause-ok
returns-then-is_empty-clause-ok g c = λ front handed s.
    let t = c.args.self.now in
    let none : length t.kept.items ≡ 0 = eqb-true (length t.kept.items) 0 (sym c.is_empty.ensures ∙ c.if-is_empty.true) in record {
      told =
          told_all g.T.LineTeller.tells (g.T.LineTeller.heard t.lines) front (handed ++ t.text.items) t.kept.items t.ended
          t.refused s none;
      hears =
          heard_all g.T.LineTeller.tells (g.T.LineTeller.heard t.lines) front (handed ++ t.text.items) t.kept.items t.ended
          t.refused s none;
    }

pub returns-clause-ok : goal.returns-clause-ok
returns-clause-ok g c =
    last_told g.T.LineTeller.tells g.T.LineTeller.heard c.args.self.now c.tell.new.self c.tell.result
    (λ none. false≢true (sym c.if-is_empty.false ∙ (c.is_empty.ensures ∙ eq-eqb (length c.args.self.now.kept.items) 0 none)))
    c.tell.ensures.ok
