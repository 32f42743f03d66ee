use Rattle.std.proofs.Common.{◌≡◌, ◌<◌, ◌-◌, ◌≤◌, IfSome, ap, sym, subst, arith}
use Rattle.ivs_machine.specs.VehicleRows.{due_of}
use Rattle.channel_sim.proofs.BoundLemmas.{due_above}
use Rattle.channel_sim.proofs.LagLemmas.{vehicle_passed, vehicle_lags_by, some_later}
use Rattle.channel_sim.proofs.quiet.pass_vehicle_quietly.Goals as goal

pub returns-then-n-eq0-clause-lags : goal.returns-then-n-eq0-clause-lags
returns-then-n-eq0-clause-lags g c =
    λ v lags.
    let h = c.loop-left.invariant.lags v lags in
    let some : IfSome c.due.result (λ d. 0 < d) = subst (λ o. IfSome o (λ d. 0 < d)) (sym (c.due.ensures.value h.was h.stands)) (some_later c.loop-left.left (due_of h.was) h.quiet) in
    let positive : 0 < c.ticks_at_once-n.result = c.ticks_at_once-n.ensures.some c.loop-left-test.true some in
    absurd (omega (arith, c.if-n-eq0.true))

pub loop-left-preserved : goal.loop-left-preserved
loop-left-preserved g c =
    let positive : 0 < c.ticks_at_once-n.result = omega (arith, c.if-n-eq0.false) in
    record {
      lags =
          λ v lags.
          vehicle_lags_by (c.loop-left.left - c.ticks_at_once-n.result) (c.loop-left.left - c.from-left.result) c.pass_into.new.self v (ap (λ m. c.loop-left.left - m) (sym c.from-left.ensures))
          (vehicle_passed c.ticks_at_once-n.result c.loop-left.left c.loop-left.ivs c.pass_into.new.self v positive c.ticks_at_once-n.ensures.left (λ q one. c.pass_into.ensures.ticks.stands q one) (c.loop-left.invariant.lags v lags));
      within = omega (arith, c.loop-left.invariant.within);
      still = λ none. absurd (omega (arith, none, c.loop-left.invariant.within, c.loop-left-test.true));
      once =
          λ v lags small.
          let h = c.loop-left.invariant.lags v lags in
          let far : IfSome c.due.result (λ d. c.loop-left.left ≤ d) = subst (λ o. IfSome o (λ d. c.loop-left.left ≤ d)) (sym (c.due.ensures.value h.was h.stands)) (due_above c.loop-left.left (due_of h.was) h.quiet) in
          let whole : c.ticks_at_once-n.result ≡ c.loop-left.left = c.ticks_at_once-n.ensures.whole (omega (arith, c.loop-left.invariant.within, small)) far in
          let none = (c.loop-left.invariant.once v lags small).1 c.loop-left-test.true in
          (omega (arith, none, c.pass_into.ensures.moments), λ left. absurd (omega (arith, left, whole, c.from-left.ensures)));
    }

pub returns-then-n-eq0-clause-passes : goal.returns-then-n-eq0-clause-passes
returns-then-n-eq0-clause-passes g c = λ v lags small. (c.loop-left.invariant.once v lags small).0

pub returns-clause-passes : goal.returns-clause-passes
returns-clause-passes g c = λ v lags small. (c.loop-left.invariant.once v lags small).0
