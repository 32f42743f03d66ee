use Rattle.live_link.proofs.EndSteps.{on_ok_two, passes_acts}
use Rattle.live_link.proofs.vehicle_end.VehicleEnd.pass.Goals as goal

pub returns-clause-ok : goal.returns-clause-ok
returns-clause-ok g c =
    on_ok_two c.put.result
    (λ h k.
    passes_acts (g.H.Listener.grew c.args.to.now c.put.new.to) c.args.self.now c.put.new.self c.pass-items.new.self
    c.pass-items.result.items c.pass-items.ensures.ticks (rw c.as_slice.ensures.value at h) c.put.ensures.changed
    (rw (c.as_slice.ensures.value, c.clear.ensures.items) at k))
    c.put.ensures.ok c.put.ensures.gathered
