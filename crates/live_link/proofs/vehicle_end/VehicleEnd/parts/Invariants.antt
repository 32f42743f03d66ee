use Rattle.std.proofs.Common.{◌≡◌, take}
use Rattle.live_link.specs.inner.VehicleEnd.{Acts, all_parts}
use Rattle.live_link.proofs.vehicle_end.VehicleEnd.parts.Given as goal

-- the parts so far were heard
abbrev pub invariant-loop-part : goal.invariant-loop-part
invariant-loop-part g l =
    record {
      acts : Acts (g.H.Listener.grew l.initial.to l.to) l.initial.self l.self (all_parts (take l.part-index l.parts));
      stood : g.H.Listener.faults l.to ≡ g.H.Listener.faults l.initial.to;
    }
