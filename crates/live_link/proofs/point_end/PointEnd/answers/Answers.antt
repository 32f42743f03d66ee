use Rattle.std.proofs.Common.{refl}
use Rattle.std.proofs.lemmas.Result.{err_from_is_err_and}
use Rattle.live_link.proofs.PointSteps.{answers_acts, answers_lost, answers_partly}
use Rattle.live_link.proofs.point_end.PointEnd.answers.Goals as goal

pub returns-in_err-lose-clause-err : goal.returns-in_err-lose-clause-err
returns-in_err-lose-clause-err g c =
    let p = err_from_is_err_and c.from_residual.result c.from_residual.ensures.1 in
    rw p.1
    (answers_lost (g.H.Listener.partly c.args.to.now c.lose.new.to) (g.H.Listener.partly c.args.to.now c.lose.new.to) c.args.self.now
    c.in_err-lose.ensures.err (λ s t h. g.met.H.Listener.longer _ _ _ _ h))

pub returns-in_err-arrive-clause-err : goal.returns-in_err-arrive-clause-err
returns-in_err-arrive-clause-err g c =
    let p = err_from_is_err_and c.from_residual-in_err-arrive.result c.from_residual-in_err-arrive.ensures.1 in
    rw p.1
    (answers_partly (g.H.Listener.grew c.args.to.now c.lose.new.to) (g.H.Listener.partly c.lose.new.to c.arrive.new.to)
    (g.H.Listener.partly c.args.to.now c.arrive.new.to) c.args.self.now c.lose.new.self c.in_ok-lose.ensures.ok
    c.in_err-arrive.ensures.err (λ s t h k. g.met.H.Listener.then_partly _ _ _ _ _ h k))

pub returns-in_err-put_part-clause-err : goal.returns-in_err-put_part-clause-err
returns-in_err-put_part-clause-err g c =
    let p = err_from_is_err_and c.from_residual-in_err-put_part.result c.from_residual-in_err-put_part.ensures.1 in
    rw p.1
    (answers_partly (g.H.Listener.grew c.args.to.now c.lose.new.to) (g.H.Listener.grew c.lose.new.to c.arrive.new.to)
    (g.H.Listener.partly c.args.to.now c.arrive.new.to) c.args.self.now c.lose.new.self c.in_ok-lose.ensures.ok
    c.in_ok-arrive.ensures.ok.told (λ s t h k. g.met.H.Listener.whole _ _ _ (g.met.H.Listener.twice _ _ _ _ _ h k)))

pub returns-clause-ok : goal.returns-clause-ok
returns-clause-ok g c =
    answers_acts (g.H.Listener.grew c.args.to.now c.lose.new.to) (g.H.Listener.grew c.lose.new.to c.arrive.new.to)
    (g.H.Listener.grew c.args.to.now c.arrive.new.to) c.args.self.now c.lose.new.self c.arrive.new.self _
    c.in_ok-lose.ensures.ok c.in_ok-arrive.ensures.ok refl c.in_ok-put_part.ensures
    (λ s t h k. g.met.H.Listener.twice _ _ _ _ _ h k)
