use Rattle.std.proofs.Common.{sym, ◌∙◌}
use Rattle.std.proofs.lemmas.Result.{on_ok_weaker, on_err_weaker}
use Rattle.live_link.proofs.EndSteps.{answered_acts, answered_partly}
use Rattle.live_link.proofs.vehicle_end.VehicleEnd.answered.Goals as goal

pub returns-then-takes_answer-clause-ok : goal.returns-then-takes_answer-clause-ok
returns-then-takes_answer-clause-ok g c =
    on_ok_weaker c.hear.result
    (answered_acts (g.H.Listener.grew c.args.to.now c.hear.new.to) c.args.self.now c.hear.new.self c.args.call
    (λ s e. sym (c.takes_answer.ensures s e) ∙ c.if-takes_answer.true))
    c.hear.ensures.ok

pub returns-then-takes_answer-clause-err : goal.returns-then-takes_answer-clause-err
returns-then-takes_answer-clause-err g c =
    on_err_weaker c.hear.result
    (answered_partly (g.H.Listener.partly c.args.to.now c.hear.new.to) c.args.self.now c.args.call
    (λ s e. sym (c.takes_answer.ensures s e) ∙ c.if-takes_answer.true))
    c.hear.ensures.err
