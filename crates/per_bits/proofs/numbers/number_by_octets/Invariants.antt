use Rattle.std.proofs.Common.{◌-◌, ◌≡◌, ◌^◌, ◌≤◌, ◌<◌, take, drop}
use Rattle.per_bits.specs.Bits.{value_of, octet_bits}
use Rattle.per_bits.proofs.numbers.number_by_octets.Given as goal

abbrev pub invariant-loop-at : goal.invariant-loop-at
invariant-loop-at l = (l.start ≤ l.at) × (l.at ≤ l.end) × (l.value ≡ value_of (take (l.at - l.start) (drop l.start (octet_bits l.octets)))) × (l.value < 2 ^ (l.at - l.start))

abbrev pub decreases-loop-at : goal.decreases-loop-at
decreases-loop-at l = l.end - l.at
