use Rattle.channel_sim.proofs.BoundLemmas.{passes_front, passes_more}
use Rattle.channel_sim.specs.Passes.{passes_of}
use Rattle.std.proofs.Common.{◌+◌, ◌<◌, ◌≤◌, length, take, drop, map, refl, sym, ◌∙◌, subst, ◌^◌, arith}
use Rattle.std.proofs.lemmas.Result.{err_from_is_err_and}
use Rattle.channel_sim.specs.World.{World, Step, each}
use Rattle.channel_sim.specs.Handing.{due_of, hands_way}
use Rattle.channel_sim.specs.Lag.{StandsAt}
use Rattle.channel_sim.proofs.StepLemmas.{each_more, each_all, take_all, map_at, map_length}
use Rattle.channel_sim.proofs.channel.Channel.hand_each.Goals as goal

pub loop-one-init : goal.loop-one-init
loop-one-init g c = record {
  tick = refl;
  stood = refl;
  passes = λ ahead floor w s now small. omega arith;
  came = λ ahead floor w s now. (g.met.H.Listener.unchanged _, s);
}

pub loop-one-preserved : goal.loop-one-preserved
loop-one-preserved g c =
    let ds = map due_of c.args.due.now in
    let i = c.loop-one.one-index in
    let d = due_of c.one-item.result in
    let inside : i < length ds = subst (λ n. i < n) (sym (map_length due_of c.args.due.now)) c.loop-one-test.true in
    record {
      tick = c.hand.ensures.tick ∙ c.loop-one.invariant.tick;
      stood = c.in_ok-hand.ensures.faults.stood ∙ c.loop-one.invariant.stood;
      passes =
          λ ahead floor w s now small.
          let so_far = c.loop-one.invariant.came ahead floor w s now in
          let front : Step = each (hands_way c.args.up) (take i ds) w in
          let did = c.hand.ensures.passes ahead floor front.world so_far.1 (now ∙ sym c.loop-one.invariant.tick) (subst (λ t. t < floor.waking + 2 ^ 32) (sym c.loop-one.invariant.tick) small) in
          let more = each_more (hands_way c.args.up) ds i d w inside (map_at due_of c.args.due.now i c.one-item.result c.loop-one-test.true c.one-item.is) in
          subst (λ (z : Step). c.hand.new.moments ≤ c.args.moments.now + passes_of z) (sym more)
          (passes_more front ((hands_way c.args.up) d) c.args.moments.now c.loop-one.moments c.hand.new.moments (c.loop-one.invariant.passes ahead floor w s now small) did);
      came =
          λ ahead floor w s now.
          let so_far = c.loop-one.invariant.came ahead floor w s now in
          let u : World = (each (hands_way c.args.up) (take i ds) w).world in
          let did = c.in_ok-hand.ensures.step ahead floor u so_far.1 (now ∙ sym c.loop-one.invariant.tick) in
          let more = each_more (hands_way c.args.up) ds i d w inside (map_at due_of c.args.due.now i c.one-item.result c.loop-one-test.true c.one-item.is) in
          subst (λ (z : Step). g.H.Listener.grew c.args.to.now c.hand.new.to z.entries × StandsAt ahead floor (λ e. ahead) c.hand.new.self z.world) (sym more)
          (g.met.H.Listener.twice _ _ _ _ _ so_far.0 did.0, did.1);
    }

pub returns-in_err-hand-clause-step : goal.returns-in_err-hand-clause-step
returns-in_err-hand-clause-step g c =
    λ ahead floor w s now.
    let failed = err_from_is_err_and c.from_residual.result c.from_residual.ensures.1 in
    let ds = map due_of c.args.due.now in
    let i = c.loop-one.one-index in
    let d = due_of c.one-item.result in
    let inside : i < length ds = subst (λ n. i < n) (sym (map_length due_of c.args.due.now)) c.loop-one-test.true in
    let so_far = c.loop-one.invariant.came ahead floor w s now in
    let u : World = (each (hands_way c.args.up) (take i ds) w).world in
    let part = c.in_err-hand.ensures.step ahead floor u so_far.1 (now ∙ sym c.loop-one.invariant.tick) in
    let more = each_more (hands_way c.args.up) ds i d w inside (map_at due_of c.args.due.now i c.one-item.result c.loop-one-test.true c.one-item.is) in
    let all = each_all (hands_way c.args.up) ds (i + 1) w in
    let Partly = g.H.Listener.partly c.args.to.now c.hand.new.to in
    let front = subst (λ (z : Step). Partly z.entries) (sym more) (g.met.H.Listener.then_partly _ _ _ _ _ so_far.0 part) in
    let whole = subst (λ (z : Step). Partly z.entries) (sym all) (g.met.H.Listener.longer _ _ _ _ front) in
    rw failed.1 whole

pub returns-clause-step : goal.returns-clause-step
returns-clause-step g c =
    λ ahead floor w s now.
    let ds = map due_of c.args.due.now in
    let i = c.loop-one.one-index in
    let past : length ds ≤ i = subst (λ n. n ≤ i) (sym (map_length due_of c.args.due.now)) c.loop-one-test.false in
    subst (λ z. g.H.Listener.grew c.args.to.now c.loop-one.to (each (hands_way c.args.up) z w).entries × StandsAt ahead floor (λ d. ahead) c.loop-one.self (each (hands_way c.args.up) z w).world) (take_all i ds past)
    (c.loop-one.invariant.came ahead floor w s now)

pub returns-clause-passes : goal.returns-clause-passes
returns-clause-passes g c =
    λ ahead floor w s now small.
    let ds = map due_of c.args.due.now in
    let i = c.loop-one.one-index in
    let past : length ds ≤ i = subst (λ n. n ≤ i) (sym (map_length due_of c.args.due.now)) c.loop-one-test.false in
    subst (λ z. c.loop-one.moments ≤ c.args.moments.now + passes_of (each (hands_way c.args.up) z w)) (take_all i ds past)
    (c.loop-one.invariant.passes ahead floor w s now small)

pub returns-in_err-hand-clause-passes : goal.returns-in_err-hand-clause-passes
returns-in_err-hand-clause-passes g c =
    λ ahead floor w s now small.
    let ds = map due_of c.args.due.now in
    let i = c.loop-one.one-index in
    let d = due_of c.one-item.result in
    let inside : i < length ds = subst (λ n. i < n) (sym (map_length due_of c.args.due.now)) c.loop-one-test.true in
    let so_far = c.loop-one.invariant.came ahead floor w s now in
    let front : Step = each (hands_way c.args.up) (take i ds) w in
    let did = c.hand.ensures.passes ahead floor front.world so_far.1 (now ∙ sym c.loop-one.invariant.tick) (subst (λ t. t < floor.waking + 2 ^ 32) (sym c.loop-one.invariant.tick) small) in
    let more = each_more (hands_way c.args.up) ds i d w inside (map_at due_of c.args.due.now i c.one-item.result c.loop-one-test.true c.one-item.is) in
    let all = each_all (hands_way c.args.up) ds (i + 1) w in
    let Few = λ (z : Step). c.hand.new.moments ≤ c.args.moments.now + passes_of z in
    let part = subst Few (sym more) (passes_more front ((hands_way c.args.up) d) c.args.moments.now c.loop-one.moments c.hand.new.moments (c.loop-one.invariant.passes ahead floor w s now small) did) in
    subst Few (sym all) (passes_front (each (hands_way c.args.up) (take (i + 1) ds) w) (each (hands_way c.args.up) (drop (i + 1) ds)) c.args.moments.now c.hand.new.moments part)
