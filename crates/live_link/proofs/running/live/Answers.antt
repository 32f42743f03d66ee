use Rattle.live_link.proofs.running.live.Goals as goal

pub returns-in-Vehicle-clause-goes : goal.returns-in-Vehicle-clause-goes
returns-in-Vehicle-clause-goes g c = rw (c.in-Some.is, c.in-Vehicle.is) c.live_vehicle.ensures.goes

pub returns-in-Point-clause-goes : goal.returns-in-Point-clause-goes
returns-in-Point-clause-goes g c = rw (c.in-Some.is, c.in-Point.is) c.live_point.ensures.goes

pub returns-in-Vehicle-clause-complete : goal.returns-in-Vehicle-clause-complete
returns-in-Vehicle-clause-complete g c = rw (c.in-Some.is, c.in-Vehicle.is) c.live_vehicle.ensures.complete

pub returns-in-Point-clause-complete : goal.returns-in-Point-clause-complete
returns-in-Point-clause-complete g c = rw (c.in-Some.is, c.in-Point.is) c.live_point.ensures.complete
