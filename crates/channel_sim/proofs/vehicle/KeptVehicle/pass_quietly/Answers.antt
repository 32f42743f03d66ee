use Rattle.channel_sim.proofs.vehicle.KeptVehicle.pass_quietly.Goals as goal

pub returns-clause-passes : goal.returns-clause-passes
returns-clause-passes g c = rw (← c.self.view_is) (λ v lags small. c.pass_vehicle_known.ensures.passes v lags small)
