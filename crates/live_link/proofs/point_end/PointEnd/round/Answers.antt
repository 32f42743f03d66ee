use Rattle.std.specs.Prelude.{[]}
use Rattle.std.proofs.lemmas.Result.{err_from_is_err_and, on_ok_weaker, on_err_weaker}
use Rattle.live_link.specs.PointLive.{passes}
use Rattle.live_link.specs.inner.PointEnd.{all_parts}
use Rattle.live_link.proofs.PointSteps.{first_partly, then_acts, then_partly}
use Rattle.live_link.proofs.point_end.PointEnd.round.Goals as goal

pub returns-then-self-clause-err : goal.returns-then-self-clause-err
returns-then-self-clause-err g c =
    λ s e. g.met.H.Listener.longer _ _ [] _ (g.met.H.Listener.whole _ _ [] (g.met.H.Listener.unchanged _))

pub returns-in_err-pass-clause-err : goal.returns-in_err-pass-clause-err
returns-in_err-pass-clause-err g c =
    let p = err_from_is_err_and c.from_residual.result c.from_residual.ensures.1 in
    rw p.1
    (first_partly (g.H.Listener.partly c.args.to.now c.pass.new.to) (g.H.Listener.partly c.args.to.now c.pass.new.to) c.args.self.now
    passes (all_parts c.args.parts.now) c.in_err-pass.ensures.err (λ s t h. g.met.H.Listener.longer _ _ _ _ h))

pub returns-clause-ok : goal.returns-clause-ok
returns-clause-ok g c =
    on_ok_weaker c.parts.result
    (λ k.
    then_acts (g.H.Listener.grew c.args.to.now c.pass.new.to) (g.H.Listener.grew c.pass.new.to c.parts.new.to)
    (g.H.Listener.grew c.args.to.now c.parts.new.to) c.args.self.now c.pass.new.self c.parts.new.self passes
    (all_parts c.args.parts.now) c.in_ok-pass.ensures.ok k (λ s t h l. g.met.H.Listener.twice _ _ _ _ _ h l))
    c.parts.ensures.ok

pub returns-clause-err : goal.returns-clause-err
returns-clause-err g c =
    on_err_weaker c.parts.result
    (λ k.
    then_partly (g.H.Listener.grew c.args.to.now c.pass.new.to) (g.H.Listener.partly c.pass.new.to c.parts.new.to)
    (g.H.Listener.partly c.args.to.now c.parts.new.to) c.args.self.now c.pass.new.self passes
    (all_parts c.args.parts.now) c.in_ok-pass.ensures.ok k (λ s t h l. g.met.H.Listener.then_partly _ _ _ _ _ h l))
    c.parts.ensures.err
