use Rattle.channel_sim.proofs.BoundLemmas.{passes_front, passes_more}
use Rattle.channel_sim.specs.Passes.{passes_of}
use Rattle.std.proofs.Common.{◌≡◌, ◌+◌, take, drop, arith, refl, sym, ◌∙◌, subst, ◌≤◌, ◌<◌, ◌^◌}
use Rattle.std.proofs.lemmas.Result.{err_from_is_err_and}
use Rattle.trace_model.specs.History.{told}
use Rattle.channel_sim.specs.World.{Step, does_each, consequences, consequence}
use Rattle.channel_sim.specs.Lag.{StandsAt}
use Rattle.channel_sim.proofs.StepLemmas.{follow_more, follow_all, take_all}
use Rattle.channel_sim.proofs.channel.Channel.follow.Goals as goal

pub loop-note-init : goal.loop-note-init
loop-note-init g c =
    record {
      tick = refl;
      stood = refl;
      passes = λ ahead floor clock w s now small. omega arith;
      still = λ caught. (caught, refl);
      came = λ ahead floor clock w s now. (g.met.H.Listener.unchanged _, s);
    }

pub loop-note-preserved : goal.loop-note-preserved
loop-note-preserved g c =
    record {
      tick = c.follow_one.ensures.tick ∙ c.loop-note.invariant.tick;
      stood = c.in_ok-follow_one.ensures.faults.stood ∙ c.loop-note.invariant.stood;
      passes =
          λ ahead floor clock w s now small.
          let before = does_each (consequences (told w.tick (take c.loop-note.note-index c.args.items.now))) w in
          let so_far = c.loop-note.invariant.came ahead floor clock w s now in
          let next = c.follow_one.ensures.passes ahead floor clock before.world so_far.1 (now ∙ sym c.loop-note.invariant.tick) (subst (λ t. t < floor.waking + 2 ^ 32) (sym c.loop-note.invariant.tick) small) in
          let more = follow_more w.tick w c.args.items.now c.loop-note.note-index c.note-item.result c.loop-note-test.true c.note-item.is in
          subst (λ (z : Step). c.follow_one.new.moments ≤ c.args.moments.now + passes_of z) (sym more)
          (passes_more before (does_each (consequence c.note-item.result)) c.args.moments.now c.loop-note.moments c.follow_one.new.moments (c.loop-note.invariant.passes ahead floor clock w s now small) next);
      still =
          λ caught.
          let so_far = c.loop-note.invariant.still caught in
          let next = c.follow_one.ensures.still so_far.0 in
          (next.0, next.1 ∙ so_far.1);
      came =
          λ ahead floor clock w s now.
          let before = does_each (consequences (told w.tick (take c.loop-note.note-index c.args.items.now))) w in
          let so_far = c.loop-note.invariant.came ahead floor clock w s now in
          let next = c.in_ok-follow_one.ensures.step ahead floor clock before.world so_far.1 (now ∙ sym c.loop-note.invariant.tick) in
          let more = follow_more w.tick w c.args.items.now c.loop-note.note-index c.note-item.result c.loop-note-test.true c.note-item.is in
          subst (λ (z : Step). g.H.Listener.grew c.args.to.now c.follow_one.new.to z.entries × StandsAt ahead floor clock c.follow_one.new.self z.world) (sym more)
          (g.met.H.Listener.twice _ _ _ _ _ so_far.0 next.0, next.1);
    }

pub returns-in_err-follow_one-clause-step : goal.returns-in_err-follow_one-clause-step
returns-in_err-follow_one-clause-step g c =
    λ ahead floor clock w s now.
    let failed = err_from_is_err_and c.from_residual.result c.from_residual.ensures.1 in
    let before = does_each (consequences (told w.tick (take c.loop-note.note-index c.args.items.now))) w in
    let so_far = c.loop-note.invariant.came ahead floor clock w s now in
    let next = c.in_err-follow_one.ensures.step ahead floor clock before.world so_far.1 (now ∙ sym c.loop-note.invariant.tick) in
    let more = follow_more w.tick w c.args.items.now c.loop-note.note-index c.note-item.result c.loop-note-test.true c.note-item.is in
    let all = follow_all w.tick w c.args.items.now (c.loop-note.note-index + 1) in
    let Partly = g.H.Listener.partly c.args.to.now c.follow_one.new.to in
    let front = subst (λ (z : Step). Partly z.entries) (sym more) (g.met.H.Listener.then_partly _ _ _ _ _ so_far.0 next) in
    rw failed.1 (subst (λ (z : Step). Partly z.entries) (sym all) (g.met.H.Listener.longer _ _ _ _ front))

pub returns-clause-step : goal.returns-clause-step
returns-clause-step g c =
    λ ahead floor clock w s now.
    let all : take c.loop-note.note-index c.args.items.now ≡ c.args.items.now = take_all c.loop-note.note-index c.args.items.now (omega (arith, c.loop-note-test.false)) in
    subst (λ items. g.H.Listener.grew c.args.to.now c.loop-note.to (does_each (consequences (told w.tick items)) w).entries × StandsAt ahead floor clock c.loop-note.self (does_each (consequences (told w.tick items)) w).world) all
    (c.loop-note.invariant.came ahead floor clock w s now)

pub returns-clause-passes : goal.returns-clause-passes
returns-clause-passes g c =
    λ ahead floor clock w s now small.
    let all : take c.loop-note.note-index c.args.items.now ≡ c.args.items.now = take_all c.loop-note.note-index c.args.items.now (omega (arith, c.loop-note-test.false)) in
    subst (λ items. c.loop-note.moments ≤ c.args.moments.now + passes_of (does_each (consequences (told w.tick items)) w)) all
    (c.loop-note.invariant.passes ahead floor clock w s now small)

pub returns-in_err-follow_one-clause-passes : goal.returns-in_err-follow_one-clause-passes
returns-in_err-follow_one-clause-passes g c =
    λ ahead floor clock w s now small.
    let before = does_each (consequences (told w.tick (take c.loop-note.note-index c.args.items.now))) w in
    let so_far = c.loop-note.invariant.came ahead floor clock w s now in
    let next = c.follow_one.ensures.passes ahead floor clock before.world so_far.1 (now ∙ sym c.loop-note.invariant.tick) (subst (λ t. t < floor.waking + 2 ^ 32) (sym c.loop-note.invariant.tick) small) in
    let more = follow_more w.tick w c.args.items.now c.loop-note.note-index c.note-item.result c.loop-note-test.true c.note-item.is in
    let all = follow_all w.tick w c.args.items.now (c.loop-note.note-index + 1) in
    let Few = λ (z : Step). c.follow_one.new.moments ≤ c.args.moments.now + passes_of z in
    let front = subst Few (sym more)
    (passes_more before (does_each (consequence c.note-item.result)) c.args.moments.now c.loop-note.moments c.follow_one.new.moments (c.loop-note.invariant.passes ahead floor clock w s now small) next) in
    subst Few (sym all) (passes_front (does_each (consequences (told w.tick (take (c.loop-note.note-index + 1) c.args.items.now))) w) (does_each (consequences (told w.tick (drop (c.loop-note.note-index + 1) c.args.items.now)))) c.args.moments.now c.follow_one.new.moments front)
