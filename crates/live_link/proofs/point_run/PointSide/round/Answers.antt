use Rattle.std.specs.Prelude.{replicate, false}
use Rattle.std.proofs.lemmas.Result.{err_from_is_err_and}
use Rattle.live_link.specs.Runs.{Round}
use Rattle.live_link.proofs.point_run.PointSide.round.Goals as goal

pub returns-in_err-receive-clause-goes : goal.returns-in_err-receive-clause-goes
returns-in_err-receive-clause-goes g c over start script lines rest first later at =
    let p = err_from_is_err_and c.from_residual.result c.from_residual.ensures.1 in
    rw (p.1, p.2)
    (c.in_err-receive.ensures.goes over start script (g.P.Sink.held c.args.to.now) c.args.moments.now lines rest first later at)

pub returns-in-ScriptEnd-clause-goes : goal.returns-in-ScriptEnd-clause-goes
returns-in-ScriptEnd-clause-goes g c over start script lines rest first later at =
    rw c.in-ScriptEnd.is at
    (c.in_ok-receive.ensures.goes over start script (g.P.Sink.held c.args.to.now) c.args.moments.now lines rest first later at)

pub returns-in_err-reply-in-Message-clause-goes : goal.returns-in_err-reply-in-Message-clause-goes
returns-in_err-reply-in-Message-clause-goes g c over start script lines rest first later at =
    let p = err_from_is_err_and c.from_residual-in_err-reply-in-Message.result c.from_residual-in_err-reply-in-Message.ensures.1 in
    let read = rw c.in-Message.is at
    (c.in_ok-receive.ensures.goes over start script (g.P.Sink.held c.args.to.now) c.args.moments.now lines rest first later at) in
    rw (p.1, p.2)
    (c.in_err-reply-in-Message.ensures.goes over start script (g.I.Source.left c.receive.new.from) lines rest (replicate later (Round false)) read)

pub returns-in_ok-reply-in-Message-clause-goes : goal.returns-in_ok-reply-in-Message-clause-goes
returns-in_ok-reply-in-Message-clause-goes g c over start script lines rest first later at =
    let read = rw c.in-Message.is at
    (c.in_ok-receive.ensures.goes over start script (g.P.Sink.held c.args.to.now) c.args.moments.now lines rest first later at) in
    c.in_ok-reply-in-Message.ensures.goes over start script (g.I.Source.left c.receive.new.from) lines rest (replicate later (Round false)) read
