use Rattle.std.proofs.Common.{◌≡◌, map, take}
use Rattle.call_io.specs.Bytes.{Grew}
use Rattle.call_io.specs.Ways.{Onward}
use Rattle.relay_text.specs.ItemLine.{text_with_desk}
use Rattle.relay_text.specs.ItemLine.{OfDesk}
use Rattle.relay_watch.proofs.clock.write_items.Given as goal

-- the lines of the items so far are written, and no write failed
abbrev pub invariant-loop-note : goal.invariant-loop-note
invariant-loop-note g l =
    record {
      wrote : Grew (g.O.Sink.held l.initial.out) (g.O.Sink.held l.out)
          (text_with_desk (map (OfDesk l.tick) (take l.note-index l.notes)));
      stood : g.O.Sink.faults l.out ≡ g.O.Sink.faults l.initial.out;
      onward : Onward (g.O.Sink.way l.initial.out) (g.O.Sink.way l.out);
    }
