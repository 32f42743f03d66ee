use Rattle.std.proofs.Common.{◌≡◌, ℕ, ◌+◌, ◌-◌, ◌≤◌, List, length, take, None}
use Rattle.call_io.specs.Ways.{Onward}
use Rattle.link_frames.specs.Reading.{HasRead}
use Rattle.link_frames.specs.declared.frame.Frame.{Frame}
use Rattle.set_commands.specs.inner.FrameTurns.{WentOn}
use Rattle.set_commands.proofs.frames.take_piece.Given as goal

-- a front of the piece went on with the stream, and no count of faults rose
abbrev pub invariant-loop-n : goal.invariant-loop-n
invariant-loop-n g l = record {
  front :
      (stream : List ℕ) (ended : List Frame) → HasRead stream ended l.initial.reader
      → WentOn stream ended (take l.n l.piece) (g.O.Sink.held l.initial.output) (g.O.Sink.held l.output) l.reader;
  bound : l.n ≤ length l.piece;
  going : l.reader.fault ≡ None;
  taken : l.reader.taken ≡ l.initial.reader.taken + l.n;
  writes : g.O.Sink.faults l.output ≡ g.O.Sink.faults l.initial.output;
  onward : Onward (g.O.Sink.way l.initial.output) (g.O.Sink.way l.output);
}

-- octets that are left of the piece
abbrev pub decreases-loop-n : goal.decreases-loop-n
decreases-loop-n g l = length l.piece - l.n
