use Rattle.std.proofs.Common.{◌≡◌, ◌-◌, arith}
use Rattle.channel_sim.proofs.LagLemmas.{vehicle_lags_by, vehicle_passed}
use Rattle.channel_sim.proofs.quiet.pass_vehicle_known.Goals as goal

pub returns-then-lag-ticks_below-clause-lags : goal.returns-then-lag-ticks_below-clause-lags
returns-then-lag-ticks_below-clause-lags g c =
    λ v lags.
    let none : c.args.lag - c.args.lag ≡ 0 = omega arith in
    vehicle_lags_by (c.args.lag - c.args.lag) 0 c.pass_into.new.self v none
    (vehicle_passed c.args.lag c.args.lag c.args.ivs.now c.pass_into.new.self v c.if-lag-gt0.true (omega arith) (λ q one. c.pass_into.ensures.ticks.stands q one) lags)
