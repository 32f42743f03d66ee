use Rattle.std.proofs.Common.{sym, ◌∙◌, refl}
use Rattle.std.proofs.lemmas.Result.{err_from_is_err_and}
use Rattle.live_link.proofs.EndSteps.{rung_acts, rung_partly}
use Rattle.live_link.proofs.vehicle_end.VehicleEnd.rung.Goals as goal

pub returns-in_err-hear-clause-err : goal.returns-in_err-hear-clause-err
returns-in_err-hear-clause-err g c =
    let p = err_from_is_err_and c.from_residual.result c.from_residual.ensures.1 in
    rw p.1
    (rung_partly (g.H.Listener.partly c.args.to.now c.hear.new.to) c.args.self.now c.args.call
    (λ s e. sym (c.takes_ring.ensures s e) ∙ c.if-takes_ring.true) c.in_err-hear.ensures.err)

pub returns-in_err-put_part-clause-err : goal.returns-in_err-put_part-clause-err
returns-in_err-put_part-clause-err g c =
    let p = err_from_is_err_and c.from_residual-in_err-put_part.result c.from_residual-in_err-put_part.ensures.1 in
    rw p.1
    (rung_partly (g.H.Listener.partly c.args.to.now c.hear.new.to) c.args.self.now c.args.call
    (λ s e. sym (c.takes_ring.ensures s e) ∙ c.if-takes_ring.true)
    (λ s e. g.met.H.Listener.whole _ _ _ (c.in_ok-hear.ensures.ok.told s e)))

pub returns-in_ok-put_part-clause-ok : goal.returns-in_ok-put_part-clause-ok
returns-in_ok-put_part-clause-ok g c =
    rung_acts (g.H.Listener.grew c.args.to.now c.hear.new.to) c.args.self.now c.hear.new.self _ c.args.call
    (λ s e. sym (c.takes_ring.ensures s e) ∙ c.if-takes_ring.true) c.in_ok-hear.ensures.ok refl c.in_ok-put_part.ensures
