use Rattle.std.proofs.Common.{◌≡◌, ◌^◌, ◌*◌, ◌<◌, take, drop}
use Rattle.per_bits.specs.Bits.{value_of, octet_bits}
use Rattle.per_bits.proofs.numbers.window_at.Given as goal

abbrev pub invariant-loop-i : goal.invariant-loop-i
invariant-loop-i l = (l.value ≡ value_of (take (8 * l.i) (drop (8 * l.at) (octet_bits l.octets)))) × (l.value < 2 ^ (8 * l.i))
