use Rattle.std.proofs.Common.{true, drop, ◌↔◌}
use Rattle.per_bits.specs.Bits.{octets_of}
use Rattle.per_bits.specs.Parts.{ArcsFrom}
use Rattle.per_bits.proofs.strings.Octs.is_oid.Given as goal

abbrev pub invariant-loop-i : goal.invariant-loop-i
invariant-loop-i l = ArcsFrom l.begins (drop l.i (octets_of l.self.bits)) ↔ ArcsFrom true (octets_of l.self.bits)
