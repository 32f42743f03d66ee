use Rattle.std.proofs.Common.{◌∙◌}
use Rattle.std.proofs.lemmas.Result.{err_from_is_err_and}
use Rattle.call_io.proofs.BlockLemmas.{Onward-append}
use Rattle.live_link.proofs.vehicle_front.read_front.Goals as goal

pub loop-front-preserved : goal.loop-front-preserved
loop-front-preserved g c =
    let finds = rw c.in-None.is at c.in_ok-read_fact.ensures.finds in
    record {
      alive = finds.0;
      few = finds.2;
      script = c.in_ok-read_fact.ensures.unread ∙ c.loop-front.invariant.script;
      traced = c.in_ok-read_fact.ensures.unwritten ∙ c.loop-front.invariant.traced;
      onward = Onward-append _ _ _ c.loop-front.invariant.onward c.in_ok-read_fact.ensures.onward;
      goes = λ over start from to passes first.
          rw c.in-None.is at
          (c.in_ok-read_fact.ensures.goes over start from to passes (c.loop-front.invariant.goes over start from to passes first));
    }

pub returns-in_err-read_fact-clause-goes : goal.returns-in_err-read_fact-clause-goes
returns-in_err-read_fact-clause-goes g c over start from to passes first =
    let p = err_from_is_err_and c.from_residual.result c.from_residual.ensures.1 in
    rw (p.1, p.2)
    (c.in_err-read_fact.ensures.goes over start from to passes (c.loop-front.invariant.goes over start from to passes first))

pub returns-in-Some-clause-goes : goal.returns-in-Some-clause-goes
returns-in-Some-clause-goes g c over start from to passes first =
    rw c.in-Some.is at
    (c.in_ok-read_fact.ensures.goes over start from to passes (c.loop-front.invariant.goes over start from to passes first))
