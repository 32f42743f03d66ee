use Rattle.view_lines.proofs.TellerLemmas.{line_ended}
use Rattle.view_lines.proofs.teller.Teller.end_line.Goals as goal

pub returns-clause-ok : goal.returns-clause-ok
returns-clause-ok g c =
    line_ended g.T.LineTeller.tells g.T.LineTeller.heard c.args.self.now c.go_on.new.self c.tell.new.self
    c.args.rest.now c.tell.result c.requires c.go_on.ensures c.tell.ensures.ok
