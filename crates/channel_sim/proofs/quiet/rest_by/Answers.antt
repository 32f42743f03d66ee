use Rattle.std.proofs.Common.{refl, arith}
use Rattle.channel_sim.proofs.AsleepLemmas.{rest_later}
use Rattle.channel_sim.proofs.WakeLemmas.{passed_whole}
use Rattle.channel_sim.proofs.quiet.rest_by.Goals as goal

pub rest-requires-clause-due : goal.rest-requires-clause-due
rest-requires-clause-due g c = λ s h. rest_later c.args.lag c.args.session.now s c.requires h

pub returns-then-lag-from-clause-lags : goal.returns-then-lag-from-clause-lags
returns-then-lag-from-clause-lags g c =
    λ s lags. passed_whole c.args.lag c.args.lag c.args.session.now c.rest.new.self s refl (omega (arith, c.if-lag-eq0.false)) (λ q one. c.rest.ensures.ticks.stands q one) lags
