use Rattle.std.proofs.Common.{◌≡◌, ◌≤◌, ℕ, List, length}
use Rattle.view_lines.specs.inner.Telling.{SoFar}
use Rattle.view_lines.proofs.telling.tell_lines.Given as goal

-- a front of the input was taken, of at least as many bytes as reads, and no count of faults rose
abbrev pub invariant-loop : goal.invariant-loop
invariant-loop g l = record {
  told :
      (front : List ℕ)
      × SoFar g.T.LineTeller.tells g.T.LineTeller.ends g.T.LineTeller.heard (g.I.Source.left l.initial.input) (g.I.Source.left l.input) (g.O.Sink.held l.initial.output)
      (g.O.Sink.held l.output) l.teller front × (l.counter ≤ length front);
  read : g.I.Source.faults l.input ≡ g.I.Source.faults l.initial.input;
  wrote : g.O.Sink.faults l.output ≡ g.O.Sink.faults l.initial.output;
}
