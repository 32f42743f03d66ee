use Rattle.view_lines.proofs.StandsLemmas.{stands_first}
use Rattle.view_lines.proofs.teller.Teller.new.Goals as goal

pub returns-clause-stands : goal.returns-clause-stands
returns-clause-stands g c = λ hears.
    rw (c.new.ensures.items, c.new-2.ensures)
    (stands_first g.T.LineTeller.tells (g.T.LineTeller.heard c.args.lines) hears)
