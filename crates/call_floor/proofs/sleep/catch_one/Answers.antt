use Rattle.std.proofs.Common.{◌<◌, ◌+◌, ◌^◌, sym, subst}
use Rattle.channel_sim.specs.Lag.{level, StandsAt}
use Rattle.channel_sim.specs.WorldStands.{ticks_reached}
use Rattle.channel_sim.specs.declared.world.World as kept_world
use Rattle.call_floor.proofs.Moment.{caught}
use Rattle.call_floor.proofs.sleep.catch_one.Goals as goal

pub returns-clause-stands : goal.returns-clause-stands
returns-clause-stands g c =
    λ floor u r now.
    c.catch_all_up.ensures.stands (level floor floor) u
    (subst (λ (k : kept_world.World). StandsAt (ticks_reached k) (level floor floor) (λ d. ticks_reached k) k.channel u) (sym c.reach.ensures) (caught floor c.args.seat.now u r c.args.tick now))

pub returns-clause-passes : goal.returns-clause-passes
returns-clause-passes g c =
    λ floor u r now small.
    c.catch_all_up.ensures.passes (level floor floor) u
    (subst (λ (k : kept_world.World). StandsAt (ticks_reached k) (level floor floor) (λ d. ticks_reached k) k.channel u) (sym c.reach.ensures) (caught floor c.args.seat.now u r c.args.tick now))
    (subst (λ (k : kept_world.World). ticks_reached k < floor + 2 ^ 32) (sym c.reach.ensures) small)
    (subst (λ (k : kept_world.World). ticks_reached k < floor + 2 ^ 32) (sym c.reach.ensures) small)
