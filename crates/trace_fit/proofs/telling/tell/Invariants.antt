use Rattle.std.proofs.Common.{◌≡◌, take}
use Rattle.trace_model.specs.History.{told}
use Rattle.trace_fit.proofs.telling.tell.Given as goal

-- the listener grew by the items so far, and its count stood
abbrev pub invariant-loop-note : goal.invariant-loop-note
invariant-loop-note g l =
    record {
      grew : g.H.Listener.grew l.initial.to l.to (told l.tick (take l.note-index l.items));
      stood : g.H.Listener.faults l.to ≡ g.H.Listener.faults l.initial.to;
    }
