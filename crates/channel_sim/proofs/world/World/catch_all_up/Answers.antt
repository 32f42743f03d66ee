use Rattle.std.proofs.Common.{arith}
use Rattle.channel_sim.proofs.Standing.{stands_then}
use Rattle.channel_sim.proofs.world.World.catch_all_up.Goals as goal

pub returns-clause-stands : goal.returns-clause-stands
returns-clause-stands g c =
    λ floor w s.
    stands_then c.args.self.now.channel.tick c.catch_up.new.self w (omega (arith, c.catch_up.ensures.tick))
    (c.catch_up.ensures.caught floor w s tt)
