use Rattle.std.proofs.Common.{sym, ◌∙◌}
use Rattle.std.proofs.lemmas.Result.{err_from_is_err_and}
use Rattle.live_link.proofs.PointSteps.{takes_acts, takes_lost, takes_partly}
use Rattle.live_link.proofs.point_end.PointEnd.takes.Goals as goal

pub returns-in_err-lose-clause-err : goal.returns-in_err-lose-clause-err
returns-in_err-lose-clause-err g c =
    let p = err_from_is_err_and c.from_residual.result c.from_residual.ensures.1 in
    rw p.1
    (takes_lost (g.H.Listener.partly c.args.to.now c.lose.new.to) (g.H.Listener.partly c.args.to.now c.lose.new.to) c.args.self.now c.args.call
    (λ s e. sym (c.may_take.ensures s e) ∙ c.if-may_take.true) c.in_err-lose.ensures.err (λ s t h. g.met.H.Listener.longer _ _ _ _ h))

pub returns-in_err-place-clause-err : goal.returns-in_err-place-clause-err
returns-in_err-place-clause-err g c =
    let p = err_from_is_err_and c.from_residual-in_err-place.result c.from_residual-in_err-place.ensures.1 in
    rw p.1
    (takes_partly (g.H.Listener.grew c.args.to.now c.lose.new.to) (g.H.Listener.partly c.lose.new.to c.place.new.to)
    (g.H.Listener.partly c.args.to.now c.place.new.to) c.args.self.now c.lose.new.self c.args.call
    (λ s e. sym (c.may_take.ensures s e) ∙ c.if-may_take.true) c.in_ok-lose.ensures.ok c.in_err-place.ensures.err
    (λ s t h k. g.met.H.Listener.then_partly _ _ _ _ _ h k))

pub returns-in_ok-place-clause-ok : goal.returns-in_ok-place-clause-ok
returns-in_ok-place-clause-ok g c =
    takes_acts (g.H.Listener.grew c.args.to.now c.lose.new.to) (g.H.Listener.grew c.lose.new.to c.place.new.to)
    (g.H.Listener.grew c.args.to.now c.place.new.to) c.args.self.now c.lose.new.self c.place.new.self c.args.call
    (λ s e. sym (c.may_take.ensures s e) ∙ c.if-may_take.true) c.in_ok-lose.ensures.ok c.in_ok-place.ensures.ok
    (λ s t h k. g.met.H.Listener.twice _ _ _ _ _ h k)
