use Rattle.std.proofs.Common.{refl}
use Rattle.std.proofs.lemmas.Result.{err_from_is_err_and}
use Rattle.line_input.specs.Lines.{lines_of}
use Rattle.view_lines.proofs.PieceLemmas.{many_ended}
use Rattle.view_lines.proofs.PutLemmas.{end_put}
use Rattle.view_lines.proofs.teller.Teller.finish.Goals as goal

pub returns-in_err-end_last-clause-most : goal.returns-in_err-end_last-clause-most
returns-in_err-end_last-clause-most g c =
    let p = err_from_is_err_and c.from_residual.result c.from_residual.ensures.1 in
    rw (p.1, p.2) (λ is front handed s.
    many_ended g.T.LineTeller.tells g.T.LineTeller.heard front handed c.args.self.now s
    (c.in_err-end_last.ensures.most is))

pub returns-in-Ok-clause-ok : goal.returns-in-Ok-clause-ok
returns-in-Ok-clause-ok g c = λ front handed s.
    let ended = c.in_ok-end_last.ensures.ok front handed s in
    end_put g.T.LineTeller.tells g.T.LineTeller.ends front handed c.end_last.new.self.text.items c.put_end.new.text.items
    c.end_last.new.self.refused c.in-Ok.wrong _ refl ended.told (c.in-Ok.ensures (lines_of front) ended.hears)
