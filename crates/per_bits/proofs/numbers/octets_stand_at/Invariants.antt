use Rattle.std.proofs.Common.{◌≡◌, ◌*◌, take, drop}
use Rattle.per_bits.specs.Bits.{octet_bits}
use Rattle.per_bits.proofs.numbers.octets_stand_at.Given as goal

abbrev pub invariant-loop-i : goal.invariant-loop-i
invariant-loop-i l = take (8 * l.i) (drop l.start (octet_bits l.octets)) ≡ octet_bits (take l.i l.other)
