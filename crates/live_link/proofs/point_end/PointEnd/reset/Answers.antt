use Rattle.std.specs.Prelude.{false}
use Rattle.std.proofs.lemmas.Result.{err_from_is_err_and}
use Rattle.link_frames.specs.declared.frame.End.TheVariants as «end»
use Rattle.link_frames.specs.declared.note.Note.TheVariants as note
use Rattle.psap_machine.specs.PointRows.{Reset}
use Rattle.live_link.specs.PointLive.{gives, if_up}
use Rattle.live_link.proofs.PointSteps.{first_partly, then_acts, then_partly}
use Rattle.live_link.proofs.point_end.PointEnd.reset.Goals as goal

pub returns-in_err-hear-clause-err : goal.returns-in_err-hear-clause-err
returns-in_err-hear-clause-err g c =
    let p = err_from_is_err_and c.from_residual.result c.from_residual.ensures.1 in
    rw p.1
    (first_partly (g.H.Listener.partly c.args.to.now c.hear.new.to) (g.H.Listener.partly c.args.to.now c.hear.new.to) c.args.self.now
    (if_up false Reset) (gives (note.Restart «end».Point)) c.in_err-hear.ensures.err (λ s t h. g.met.H.Listener.longer _ _ _ _ h))

pub returns-in_err-give-clause-err : goal.returns-in_err-give-clause-err
returns-in_err-give-clause-err g c =
    let p = err_from_is_err_and c.from_residual-in_err-give.result c.from_residual-in_err-give.ensures.1 in
    rw p.1
    (then_partly (g.H.Listener.grew c.args.to.now c.hear.new.to) (g.H.Listener.partly c.hear.new.to c.give.new.to)
    (g.H.Listener.partly c.args.to.now c.give.new.to) c.args.self.now c.hear.new.self (if_up false Reset)
    (gives (note.Restart «end».Point)) c.in_ok-hear.ensures.ok c.in_err-give.ensures.err
    (λ s t h k. g.met.H.Listener.then_partly _ _ _ _ _ h k))

pub returns-clause-ok : goal.returns-clause-ok
returns-clause-ok g c =
    then_acts (g.H.Listener.grew c.args.to.now c.hear.new.to) (g.H.Listener.grew c.hear.new.to c.give.new.to)
    (g.H.Listener.grew c.args.to.now c.give.new.to) c.args.self.now c.hear.new.self c.give.new.self (if_up false Reset)
    (gives (note.Restart «end».Point)) c.in_ok-hear.ensures.ok c.in_ok-give.ensures.ok
    (λ s t h k. g.met.H.Listener.twice _ _ _ _ _ h k)
