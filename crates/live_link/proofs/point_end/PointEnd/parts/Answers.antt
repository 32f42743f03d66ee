use Rattle.std.proofs.Common.{◌∙◌}
use Rattle.std.proofs.lemmas.Result.{err_from_is_err_and}
use Rattle.live_link.proofs.PointSteps.{parts_more, parts_partly}
use Rattle.live_link.proofs.point_end.PointEnd.parts.Goals as goal

pub returns-in_err-part-clause-err : goal.returns-in_err-part-clause-err
returns-in_err-part-clause-err g c =
    let p = err_from_is_err_and c.from_residual.result c.from_residual.ensures.1 in
    rw p.1
    (parts_partly (g.H.Listener.grew c.args.to.now c.loop-part.to) (g.H.Listener.partly c.loop-part.to c.part.new.to)
    (g.H.Listener.partly c.args.to.now c.part.new.to) c.args.self.now c.loop-part.self c.args.parts.now c.loop-part.part-index
    c.part-item.result c.loop-part-test.true c.part-item.is c.loop-part.invariant.acts c.in_err-part.ensures.err
    (λ s t u h k. g.met.H.Listener.then_partly _ _ _ _ _ h (g.met.H.Listener.longer _ _ _ _ k)))

pub loop-part-preserved : goal.loop-part-preserved
loop-part-preserved g c =
    record {
      acts =
          parts_more (g.H.Listener.grew c.args.to.now c.loop-part.to) (g.H.Listener.grew c.loop-part.to c.part.new.to)
          (g.H.Listener.grew c.args.to.now c.part.new.to) c.args.self.now c.loop-part.self c.part.new.self c.args.parts.now
          c.loop-part.part-index c.part-item.result c.loop-part-test.true c.part-item.is c.loop-part.invariant.acts
          c.in_ok-part.ensures.ok (λ s t h k. g.met.H.Listener.twice _ _ _ _ _ h k);
      stood = c.in_ok-part.ensures.stood ∙ c.loop-part.invariant.stood;
    }
