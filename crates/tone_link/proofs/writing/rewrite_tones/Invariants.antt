use Rattle.std.proofs.Common.{◌≡◌, take}
use Rattle.per_bits.specs.Bits.{octet_bits}
use Rattle.tone_link.specs.Tones.{samples_of}
use Rattle.tone_link.proofs.writing.rewrite_tones.Given as goal

-- the samples of the octets so far
abbrev pub invariant-loop-octet : goal.invariant-loop-octet
invariant-loop-octet l = l.samples.items ≡ samples_of (octet_bits (take l.octet-index l.octet-items))
