use Rattle.std.proofs.Common.{◌≡◌, take}
use Rattle.live_link.specs.inner.PointEnd.{PointActs, all_parts}
use Rattle.live_link.proofs.point_end.PointEnd.parts.Given as goal

-- the parts so far were heard
abbrev pub invariant-loop-part : goal.invariant-loop-part
invariant-loop-part g l =
    record {
      acts : PointActs (g.H.Listener.grew l.initial.to l.to) l.initial.self l.self (all_parts (take l.part-index l.parts));
      stood : g.H.Listener.faults l.to ≡ g.H.Listener.faults l.initial.to;
    }
