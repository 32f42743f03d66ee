use Rattle.std.proofs.Common.{arith}
use Rattle.per_bits.proofs.Octets.{octets_count}
use Rattle.per_bits.proofs.strings.Octs.count.Goals as goal

pub returns-clause-value : goal.returns-clause-value
returns-clause-value c = rw (← c.self.view_is) (omega (arith, octets_count c.self.inside.bits.bits c.self.invariant.0))
