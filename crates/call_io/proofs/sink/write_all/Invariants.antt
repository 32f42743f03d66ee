use Rattle.std.proofs.Common.{◌≡◌, length, ◌-◌, ◌≤◌, take}
use Rattle.call_io.specs.Bytes.{Grew}
use Rattle.call_io.specs.Ways.{Onward}
use Rattle.call_io.proofs.sink.write_all.Given as goal

-- the front of the piece is written, and no write failed
abbrev pub invariant-loop-done : goal.invariant-loop-done
invariant-loop-done g l =
    (l.done ≤ length l.piece)
    × Grew (g.O.Sink.held l.initial.out) (g.O.Sink.held l.out) (take l.done l.piece)
    × (g.O.Sink.faults l.out ≡ g.O.Sink.faults l.initial.out)
    × Onward (g.O.Sink.way l.initial.out) (g.O.Sink.way l.out)

abbrev pub decreases-loop-done : goal.decreases-loop-done
decreases-loop-done g l = length l.piece - l.done
