use Rattle.std.proofs.Common.{◌+◌, ◌<◌, ◌≤◌, length, take, get_or, refl, sym, ◌∙◌, subst}
use Rattle.std.proofs.lemmas.Result.{err_from_is_err_and}
use Rattle.channel_sim.specs.World.{World, Step, each}
use Rattle.channel_sim.specs.Lines.{session_resets}
use Rattle.channel_sim.specs.Lag.{level, StandsAt, StandsNow}
use Rattle.channel_sim.proofs.LineLemmas.{all_caught}
use Rattle.channel_sim.proofs.PassLemmas.{same_at}
use Rattle.channel_sim.proofs.StepLemmas.{each_more, each_all, take_all}
use Rattle.channel_sim.proofs.channel.Channel.each_session_resets.Goals as goal

pub loop-number-init : goal.loop-number-init
loop-number-init g c =
    record { stood = refl; still = λ e. (e, refl); came = λ settled w s. (g.met.H.Listener.unchanged _, s) }

pub loop-number-preserved : goal.loop-number-preserved
loop-number-preserved g c =
    let ns = c.args.numbers.now in
    let i = c.loop-number.number-index in
    let x = get_or ns i 0 in
    let inside : i < length ns = c.loop-number-test.true in
    record {
      stood = c.in_ok-session_performs.ensures.faults.stood ∙ c.loop-number.invariant.stood;
      still =
          λ e.
          let so_far = c.loop-number.invariant.still e in
          let now = c.session_performs.ensures.still so_far.0 in
          (now.0, now.1 ∙ so_far.1);
      came =
          λ settled w s.
          let kept = c.loop-number.self in
          let so_far = c.loop-number.invariant.came settled w s in
          let u : World = (each session_resets (take i ns) w).world in
          let did = c.in_ok-session_performs.ensures.step kept.tick (level settled kept.tick) (λ d. kept.tick) u so_far.1 refl refl
          (all_caught settled kept.tick x kept.calls u.calls so_far.1.calls) in
          let more = each_more session_resets ns i x w inside (same_at ns i inside) in
          subst (λ (z : Step). g.H.Listener.grew c.args.to.now c.session_performs.new.to z.entries × StandsNow settled c.session_performs.new.self z.world) (sym more) (
            g.met.H.Listener.twice _ _ _ _ _ so_far.0 did.0,
            subst (λ t. StandsAt t (level settled t) (λ d. t) c.session_performs.new.self (session_resets x u).world)
                (sym c.session_performs.ensures.tick) did.1,
          );
    }

pub returns-in_err-session_performs-clause-step : goal.returns-in_err-session_performs-clause-step
returns-in_err-session_performs-clause-step g c =
    λ settled w s.
    let failed = err_from_is_err_and c.from_residual.result c.from_residual.ensures.1 in
    let kept = c.loop-number.self in
    let ns = c.args.numbers.now in
    let i = c.loop-number.number-index in
    let x = get_or ns i 0 in
    let inside : i < length ns = c.loop-number-test.true in
    let so_far = c.loop-number.invariant.came settled w s in
    let u : World = (each session_resets (take i ns) w).world in
    let part = c.in_err-session_performs.ensures.step kept.tick (level settled kept.tick) (λ d. kept.tick) u so_far.1 refl refl
    (all_caught settled kept.tick x kept.calls u.calls so_far.1.calls) in
    let more = each_more session_resets ns i x w inside (same_at ns i inside) in
    let all = each_all session_resets ns (i + 1) w in
    let Partly = g.H.Listener.partly c.args.to.now c.session_performs.new.to in
    let front = subst (λ (z : Step). Partly z.entries) (sym more) (g.met.H.Listener.then_partly _ _ _ _ _ so_far.0 part) in
    rw failed.1 (subst (λ (z : Step). Partly z.entries) (sym all) (g.met.H.Listener.longer _ _ _ _ front))

pub returns-clause-step : goal.returns-clause-step
returns-clause-step g c =
    λ settled w s.
    let ns = c.args.numbers.now in
    let i = c.loop-number.number-index in
    let past : length ns ≤ i = c.loop-number-test.false in
    subst (λ ms. g.H.Listener.grew c.args.to.now c.loop-number.to (each session_resets ms w).entries × StandsNow settled c.loop-number.self (each session_resets ms w).world)
    (take_all i ns past) (c.loop-number.invariant.came settled w s)
