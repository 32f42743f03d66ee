use Rattle.std.proofs.Common.{◌≡◌, take}
use Rattle.per_bits.specs.Bits.{octets_of}
use Rattle.set_objects.proofs.text.copy_octets.Given as goal

abbrev pub invariant-loop-i : goal.invariant-loop-i
invariant-loop-i l = take l.i l.into ≡ take l.i (octets_of l.octs.bits)
