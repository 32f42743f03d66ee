use Rattle.channel_sim.specs.World.{first_world}
use Rattle.channel_sim.proofs.Standing.{now_stands}
use Rattle.channel_sim.proofs.play.Play.new.Goals as goal

pub returns-clause-stands : goal.returns-clause-stands
returns-clause-stands c = now_stands 0 c.new.result (first_world c.args.facts) c.new.ensures.stands
