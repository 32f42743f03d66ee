use Rattle.std.proofs.Common.{◌<◌, ◌-◌, ap, sym, arith}
use Rattle.channel_sim.proofs.AsleepLemmas.{rest_later}
use Rattle.channel_sim.proofs.LagLemmas.{session_passed, lags_by}
use Rattle.channel_sim.proofs.quiet.rest_long.Goals as goal

pub rest-requires-clause-due : goal.rest-requires-clause-due
rest-requires-clause-due g c = λ s h. rest_later 4294967295 c.loop-left.session s c.loop-left.invariant.settled h

pub loop-left-preserved : goal.loop-left-preserved
loop-left-preserved g c =
    let far : 4294967295 < c.loop-left.left = omega (arith, c.loop-left-test.true, c.from.ensures) in
    record {
      lags =
          λ s lags.
          lags_by (c.loop-left.left - 4294967295) (c.loop-left.left - c.from-left.result) c.rest.new.self s (ap (λ m. c.loop-left.left - m) (sym c.from-left.ensures))
          (session_passed 4294967295 c.loop-left.left c.loop-left.session c.rest.new.self s (omega arith) (omega arith) (λ q one. c.rest.ensures.ticks.stands q one) (c.loop-left.invariant.lags s lags));
      settled = c.rest.ensures.settled c.loop-left.invariant.settled;
      within = omega (arith, c.loop-left.invariant.within);
      once = λ small. absurd (omega (arith, far, small, c.loop-left.invariant.within));
    }

pub rest-requires-then-left-gt0-clause-due : goal.rest-requires-then-left-gt0-clause-due
rest-requires-then-left-gt0-clause-due g c = λ s h. rest_later c.loop-left.left c.loop-left.session s c.loop-left.invariant.settled h

pub returns-then-left-gt0-clause-lags : goal.returns-then-left-gt0-clause-lags
returns-then-left-gt0-clause-lags g c =
    λ s lags.
    let some : 0 < c.loop-left.left = c.if-left-gt0.true in
    lags_by (c.loop-left.left - c.loop-left.left) 0 c.rest-then-left-gt0.new.self s (omega arith)
    (session_passed c.loop-left.left c.loop-left.left c.loop-left.session c.rest-then-left-gt0.new.self s some (omega arith) (λ q one. c.rest-then-left-gt0.ensures.ticks.stands q one) (c.loop-left.invariant.lags s lags))
