use Rattle.std.proofs.Common.{sym}
use Rattle.per_bits.proofs.Places.{in_place, length_field}
use Rattle.per_bits.proofs.parts.Bits.len.Goals as goal

pub returns-clause-value : goal.returns-clause-value
returns-clause-value c = rw (← c.self.view_is) (sym (length_field c.self.inside.octets.now c.self.inside.start c.self.inside.len c.self.invariant.0))

pub returns-clause-in_place : goal.returns-clause-in_place
returns-clause-in_place c = rw (← c.self.view_is) (in_place c.self.inside.octets.now c.self.inside.start c.self.inside.len c.self.invariant.0 c.self.invariant.1)
