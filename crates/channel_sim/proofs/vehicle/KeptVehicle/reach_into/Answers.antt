use Rattle.std.proofs.Common.{refl}
use Rattle.channel_sim.proofs.VehicleLemmas.{vehicle_lag_none}
use Rattle.channel_sim.proofs.vehicle.KeptVehicle.reach_into.Goals as goal

pub returns-clause-gives : goal.returns-clause-gives
returns-clause-gives g c =
    rw (← c.self.view_is) (
    λ v lags. c.hear_into.ensures.gives v (vehicle_lag_none 0 c.pass_vehicle_known.new.ivs v refl (c.pass_vehicle_known.ensures.lags v lags))
    )

pub returns-clause-stands : goal.returns-clause-stands
returns-clause-stands g c =
    rw (← c.self.view_is) (
    λ v lags. c.hear_into.ensures.stands v (vehicle_lag_none 0 c.pass_vehicle_known.new.ivs v refl (c.pass_vehicle_known.ensures.lags v lags))
    )

pub returns-clause-passes : goal.returns-clause-passes
returns-clause-passes g c = rw (← c.self.view_is) (λ v lags small. c.pass_vehicle_known.ensures.passes v lags small)
