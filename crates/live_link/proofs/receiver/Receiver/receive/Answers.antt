use Rattle.std.proofs.Common.{◌∙◌}
use Rattle.std.proofs.lemmas.Result.{err_from_is_err_and}
use Rattle.live_link.proofs.Received.{receives_came}
use Rattle.live_link.proofs.receiver.Receiver.receive.Goals as goal

pub loop-came-preserved : goal.loop-came-preserved
loop-came-preserved g c = record {
  going = rw c.in-None.is at c.in_ok-step.ensures.going;
  reads = c.in_ok-step.ensures.unread ∙ c.loop-came.invariant.reads;
  within = λ start octets s.
      let w = c.loop-came.invariant.within start octets s in
      rw c.in-None.is at (c.in_ok-step.ensures.takes start octets w.0 w.1);
}

pub returns-in_err-step-clause-receives : goal.returns-in_err-step-clause-receives
returns-in_err-step-clause-receives g c start octets s =
    let p = err_from_is_err_and c.from_residual.result c.from_residual.ensures.1 in
    let w = c.loop-came.invariant.within start octets s in
    rw (p.1, p.2) (c.in_err-step.ensures.takes start octets w.0 w.1)

pub returns-in-Some-clause-receives : goal.returns-in-Some-clause-receives
returns-in-Some-clause-receives g c start octets s =
    let w = c.loop-came.invariant.within start octets s in
    receives_came c.args.end start (g.I.Source.left c.step.new.from) c.step.new.self octets c.step.new.parts.items c.in-Some.came
    (rw c.in-Some.is at (c.in_ok-step.ensures.takes start octets w.0 w.1))
