use Rattle.std.proofs.Common.{◌-◌, ◌<◌, ◌^◌}
use Rattle.per_bits.specs.Bits.{digits}
use Rattle.tone_link.specs.ToneReading.{AreSaid}
use Rattle.tone_link.proofs.reading.read_octet.Given as goal

-- the octet has the bits that were said so far
abbrev pub invariant-loop-i : goal.invariant-loop-i
invariant-loop-i l = (l.octet < 2 ^ (l.i - l.first)) × AreSaid l.samples l.first (digits (l.i - l.first) l.octet)
