use Rattle.std.proofs.Common.{◌≡◌, length}
use Rattle.per_bits.specs.Bits.{octet_bits}
use Rattle.per_bits.specs.Parts.{AreOctets}
use Rattle.tone_link.specs.ToneReading.{AreSaid}
use Rattle.tone_link.proofs.reading.read_octets.Given as goal

-- as many octets as were read, whose bits are said
abbrev pub invariant-loop-i : goal.invariant-loop-i
invariant-loop-i l =
    (length l.octets.items ≡ l.i) × AreOctets l.octets.items × AreSaid l.samples 0 (octet_bits l.octets.items)
