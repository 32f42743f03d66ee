use Rattle.std.proofs.Common.{◌≡◌, ◌<◌, length, get_or, sym, ◌∙◌, subst, arith}
use Rattle.channel_sim.specs.Lag.{CallLags, level}
use Rattle.channel_sim.specs.inner.Beside.{bare}
use Rattle.channel_sim.specs.inner.Turns.{IsListed}
use Rattle.channel_sim.proofs.BoundLemmas.{count_more_passed, count_taken}
use Rattle.channel_sim.proofs.CatchLemmas.{from_now, soon, rest_more, caught_more, all_caught, same_item, same_length}
use Rattle.channel_sim.proofs.ListedLemmas.{all_set, bare_set, bare_same, passed_same, listed_still}
use Rattle.channel_sim.proofs.calls.passing.pass_each.Goals as goal

pub loop-call-preserved : goal.loop-call-preserved
loop-call-preserved g c =
    let inside : c.loop-call.call-index < length c.loop-call.call-items = omega arith in
    let i = c.loop-call.call-index in
    let xs = c.loop-call.call-items in
    let y = c.pass_up.new.call in
    let d = c.call-item.result in
    let e : bare y ≡ bare (get_or xs i d) = bare_same (get_or xs i d) y y.session c.args.tick c.pass_up.ensures.same in
    record {
      same = bare_set xs i d y inside e ∙ c.loop-call.invariant.same;
      listed = λ turns h. all_set (IsListed turns) xs i d y (listed_still turns (get_or xs i d) y e c.pass_up.ensures.asleep) (c.loop-call.invariant.listed turns h);
      done = λ floor ks h.
          caught_more floor (level c.args.tick c.args.tick) c.args.tick c.args.calls.now xs ks i _ y inside h
          (c.loop-call.invariant.done floor ks h) c.loop-call.invariant.rest (λ k lags. c.pass_up.ensures.caught floor k lags) (from_now c.args.tick (level c.args.tick c.args.tick) y (omega arith) (passed_same (get_or xs i d) y y.session c.args.tick c.pass_up.ensures.same));
      passes =
          λ floor ks h small late.
          count_more_passed floor c.args.tick c.loop-call.moments c.pass_up.new.moments c.args.moments.now c.args.calls.now ks i _ h
          (same_length c.args.calls.now xs i inside c.loop-call.invariant.rest) (c.loop-call.invariant.passes floor ks h small late)
          (λ k lags. let one = (subst (λ x. CallLags floor c.args.tick x k) (sym (same_item c.args.calls.now xs i _ inside c.loop-call.invariant.rest)) lags) in c.pass_up.ensures.passes floor k one (soon floor c.args.tick _ k one small late));
      rest = rest_more c.args.calls.now xs i y inside c.loop-call.invariant.rest;
    }

pub returns-clause-lags : goal.returns-clause-lags
returns-clause-lags g c =
    λ floor ks h.
    let i = c.loop-call.call-index in
    all_caught floor (level c.args.tick c.args.tick) c.args.tick i c.args.calls.now c.loop-call.call-items ks (omega arith) (omega arith) h (c.loop-call.invariant.done floor ks h)

pub returns-clause-passes : goal.returns-clause-passes
returns-clause-passes g c =
    λ floor ks h small late.
    omega (arith, count_taken c.loop-call.call-index ks, c.loop-call.invariant.passes floor ks h small late)
