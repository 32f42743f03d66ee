use Rattle.std.proofs.Common.{◌+◌, ◌<◌, ◌≤◌, ◌^◌, refl, sym, ◌∙◌, subst, arith}
use Rattle.std.proofs.lemmas.Result.{err_from_is_err_and}
use Rattle.channel_sim.specs.World.{World, Step, each, session_passes}
use Rattle.channel_sim.specs.Lag.{StandsAt, clock_of}
use Rattle.channel_sim.specs.Passes.{passes_of}
use Rattle.channel_sim.proofs.BoundLemmas.{passes_front}
use Rattle.channel_sim.proofs.TurnTicks.{passed_to, to_pass, passed_then, passes_begin, all_skipped, found}
use Rattle.channel_sim.proofs.channel.Channel.sessions_pass.Goals as goal

pub loop-number-init : goal.loop-number-init
loop-number-init g c =
    record {
      tick = refl;
      stood = refl;
      passes = λ ahead floor before w s now next small. omega arith;
      came =
          λ ahead floor before w s now next.
          let none = passes_begin ahead floor before c.args.self.now w s in
          (subst (g.H.Listener.grew c.args.to.now c.args.to.now) (sym none.0) (g.met.H.Listener.unchanged _), none.1);
    }

pub loop-number-preserved : goal.loop-number-preserved
loop-number-preserved g c =
    let from = c.loop-number.from in
    let number = c.in-Some.number in
    record {
      tick = c.session_passes.ensures.tick ∙ c.loop-number.invariant.tick;
      stood = c.in_ok-session_passes.ensures.faults.stood ∙ c.loop-number.invariant.stood;
      passes =
          λ ahead floor before w s now next small.
          let so_far = c.loop-number.invariant.came ahead floor before w s now next in
          let turn = found ahead floor before from number c.args.self.now c.loop-number.self w s now next c.loop-number.invariant.tick c.in-Some.ensures.from c.in-Some.ensures.others so_far.1 in
          let did = c.session_passes.ensures.passes ahead floor turn.clock (clock_of before (to_pass (number + 1) w)) (passed_to number w).world
          turn.stands (now ∙ sym c.loop-number.invariant.tick) turn.next turn.gone turn.others (subst (λ t. t < floor.waking + 2 ^ 32) (sym c.loop-number.invariant.tick) small) in
          subst (λ n. c.session_passes.new.moments ≤ c.args.moments.now + passes_of (passed_to (n + 1) w)) (sym c.from-from.ensures)
          (turn.passes c.args.moments.now c.loop-number.moments c.session_passes.new.moments (c.loop-number.invariant.passes ahead floor before w s now next small) did);
      came =
          λ ahead floor before w s now next.
          let so_far = c.loop-number.invariant.came ahead floor before w s now next in
          let turn = found ahead floor before from number c.args.self.now c.loop-number.self w s now next c.loop-number.invariant.tick c.in-Some.ensures.from c.in-Some.ensures.others so_far.1 in
          let did = c.in_ok-session_passes.ensures.step ahead floor turn.clock (clock_of before (to_pass (number + 1) w)) (passed_to number w).world
          turn.stands (now ∙ sym c.loop-number.invariant.tick) turn.next turn.gone turn.others in
          subst (λ n. g.H.Listener.grew c.args.to.now c.session_passes.new.to (passed_to (n + 1) w).entries × StandsAt ahead floor (clock_of before (to_pass (n + 1) w)) c.session_passes.new.self (passed_to (n + 1) w).world) (sym c.from-from.ensures) (
            subst (g.H.Listener.grew c.args.to.now c.session_passes.new.to) (sym turn.entries) (g.met.H.Listener.twice _ _ _ _ _ so_far.0 did.0),
            subst (λ (u : World). StandsAt ahead floor (clock_of before (to_pass (number + 1) w)) c.session_passes.new.self u) (sym turn.world) did.1,
          );
    }

pub returns-in_err-session_passes-clause-step : goal.returns-in_err-session_passes-clause-step
returns-in_err-session_passes-clause-step g c =
    λ ahead floor before w s now next.
    let failed = err_from_is_err_and c.from_residual.result c.from_residual.ensures.1 in
    let number = c.in-Some.number in
    let so_far = c.loop-number.invariant.came ahead floor before w s now next in
    let turn = found ahead floor before c.loop-number.from number c.args.self.now c.loop-number.self w s now next c.loop-number.invariant.tick c.in-Some.ensures.from c.in-Some.ensures.others so_far.1 in
    let part = c.in_err-session_passes.ensures.step ahead floor turn.clock (clock_of before (to_pass (number + 1) w)) (passed_to number w).world
    turn.stands (now ∙ sym c.loop-number.invariant.tick) turn.next turn.gone turn.others in
    let Partly = g.H.Listener.partly c.args.to.now c.session_passes.new.to in
    let front = subst Partly (sym turn.entries) (g.met.H.Listener.then_partly _ _ _ _ _ so_far.0 part) in
    let whole = subst (λ (z : Step). Partly z.entries) (sym (passed_then (number + 1) w)) (g.met.H.Listener.longer _ _ _ _ front) in
    rw failed.1 whole

pub returns-in_err-session_passes-clause-passes : goal.returns-in_err-session_passes-clause-passes
returns-in_err-session_passes-clause-passes g c =
    λ ahead floor before w s now next small.
    let number = c.in-Some.number in
    let so_far = c.loop-number.invariant.came ahead floor before w s now next in
    let turn = found ahead floor before c.loop-number.from number c.args.self.now c.loop-number.self w s now next c.loop-number.invariant.tick c.in-Some.ensures.from c.in-Some.ensures.others so_far.1 in
    let did = c.session_passes.ensures.passes ahead floor turn.clock (clock_of before (to_pass (number + 1) w)) (passed_to number w).world
    turn.stands (now ∙ sym c.loop-number.invariant.tick) turn.next turn.gone turn.others (subst (λ t. t < floor.waking + 2 ^ 32) (sym c.loop-number.invariant.tick) small) in
    let part = turn.passes c.args.moments.now c.loop-number.moments c.session_passes.new.moments (c.loop-number.invariant.passes ahead floor before w s now next small) did in
    subst (λ (z : Step). c.session_passes.new.moments ≤ c.args.moments.now + passes_of z) (sym (passed_then (number + 1) w))
    (passes_front (passed_to (number + 1) w) (each session_passes (to_pass (number + 1) w)) c.args.moments.now c.session_passes.new.moments part)

pub returns-clause-step : goal.returns-clause-step
returns-clause-step g c =
    λ ahead floor before w s now next.
    let so_far = c.loop-number.invariant.came ahead floor before w s now next in
    let skip = all_skipped ahead floor before c.loop-number.from c.args.self.now c.loop-number.self w s now next c.loop-number.invariant.tick c.in_default.ensures.others so_far.1 in
    (subst (g.H.Listener.grew c.args.to.now c.loop-number.to) (sym skip.entries) so_far.0, skip.stands)

pub returns-clause-passes : goal.returns-clause-passes
returns-clause-passes g c =
    λ ahead floor before w s now next small.
    let so_far = c.loop-number.invariant.came ahead floor before w s now next in
    let skip = all_skipped ahead floor before c.loop-number.from c.args.self.now c.loop-number.self w s now next c.loop-number.invariant.tick c.in_default.ensures.others so_far.1 in
    skip.passes c.args.moments.now c.loop-number.moments (c.loop-number.invariant.passes ahead floor before w s now next small)
