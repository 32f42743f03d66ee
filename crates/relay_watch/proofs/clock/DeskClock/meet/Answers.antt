use Rattle.std.proofs.lemmas.Result.{err_from_is_err_and}
use Rattle.relay_watch.proofs.ClockLemmas.{meet_cut, meet_err, meet_ok}
use Rattle.relay_watch.proofs.clock.DeskClock.meet.Goals as goal

pub returns-in_err-catch_up-clause-err : goal.returns-in_err-catch_up-clause-err
returns-in_err-catch_up-clause-err g c =
    let p = err_from_is_err_and c.from_residual.result c.from_residual.ensures.1 in
    rw p.1
    (meet_cut c.args.self.now c.args.entry.now (g.O.Sink.held c.args.out.now) (g.O.Sink.held c.catch_up.new.out)
    c.saturating_sub.result c.saturating_sub.ensures c.in_err-catch_up.ensures.err)

pub returns-clause-ok : goal.returns-clause-ok
returns-clause-ok g c =
    meet_ok c.args.self.now c.catch_up.new.self c.take.new.self c.args.entry.now (g.O.Sink.held c.args.out.now)
    (g.O.Sink.held c.catch_up.new.out) (g.O.Sink.held c.take.new.out) c.saturating_sub.result
    c.saturating_sub.ensures c.in_ok-catch_up.ensures.ok c.take.result c.take.ensures.ok

pub returns-clause-err : goal.returns-clause-err
returns-clause-err g c =
    meet_err c.args.self.now c.catch_up.new.self c.args.entry.now (g.O.Sink.held c.args.out.now)
    (g.O.Sink.held c.catch_up.new.out) (g.O.Sink.held c.take.new.out) c.saturating_sub.result
    c.saturating_sub.ensures c.in_ok-catch_up.ensures.ok c.take.result c.take.ensures.err
