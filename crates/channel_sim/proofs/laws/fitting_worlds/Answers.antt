use Rattle.channel_sim.proofs.Whole.{calls_up, one_set, point_leg, vehicle_leg}
use Rattle.channel_sim.proofs.laws.fitting_worlds.Goals as goal

pub returns : goal.returns
returns c = record { vehicle_leg = vehicle_leg; point_leg = point_leg; calls = calls_up; one_set = one_set }
