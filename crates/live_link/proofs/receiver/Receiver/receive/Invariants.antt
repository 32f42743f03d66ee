use Rattle.std.specs.Prelude.{ℕ, List, Option}
use Rattle.std.proofs.Common.{◌-◌, ◌≡◌}
use Rattle.link_parts.specs.PartReading.{IsGoing}
use Rattle.live_link.specs.inner.Receiving.{StandsBehind, StandsWithin}
use Rattle.live_link.proofs.receiver.Receiver.receive.Given as goal

-- a further octet may be taken, no count of faults rose, and the receiver stands within the message
abbrev pub invariant-loop-came : goal.invariant-loop-came
invariant-loop-came g l = record {
  going : IsGoing l.self.reader.reader;
  reads : g.I.Source.faults l.from ≡ g.I.Source.faults l.initial.from;
  within : (start : Option (List ℕ)) (octets : List ℕ)
      → StandsBehind start (g.I.Source.left l.initial.from) l.initial.self octets
      → (more : List ℕ) × StandsWithin l.end start (g.I.Source.left l.from) l.self octets more l.parts.items;
}

-- octets that are left to the greatest number
abbrev pub decreases-loop-came : goal.decreases-loop-came
decreases-loop-came g l = 16777217 - l.self.octets.given
