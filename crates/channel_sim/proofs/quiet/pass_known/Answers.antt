use Rattle.std.proofs.Common.{refl}
use Rattle.channel_sim.proofs.WakeLemmas.{passed_whole}
use Rattle.channel_sim.proofs.quiet.pass_known.Goals as goal

pub returns-then-lag-from-clause-lags : goal.returns-then-lag-from-clause-lags
returns-then-lag-from-clause-lags g c =
    λ s lags. passed_whole c.args.lag c.args.lag c.args.session.now c.rest.new.self s refl c.if-lag-gt0.true (λ q one. c.rest.ensures.ticks.stands q one) lags
