use Rattle.std.proofs.Common.{◌≡◌, ◌<◌, ◌^◌, take}
use Rattle.per_bits.specs.Bits.{value_of}
use Rattle.msd_codec.proofs.writing.elements.presence_of.Given as goal

abbrev pub invariant-loop-bit : goal.invariant-loop-bit
invariant-loop-bit l = (l.number ≡ value_of (take l.bit-index l.fn.present)) × (l.number < 2 ^ l.bit-index)
