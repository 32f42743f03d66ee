use Rattle.std.proofs.Common.{◌≡◌, true, drop}
use Rattle.per_bits.specs.Bits.{octets_of}
use Rattle.per_types.specs.Kinds.{oid_fault}
use Rattle.per_types.proofs.readers.strings.first_break.Given as goal

-- what the octets from i on break first is what all of them do
abbrev pub invariant-loop-i : goal.invariant-loop-i
invariant-loop-i l = oid_fault true 0 (octets_of l.octs.bits) ≡ oid_fault l.begins l.i (drop l.i (octets_of l.octs.bits))
