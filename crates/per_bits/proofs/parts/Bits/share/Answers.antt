use Rattle.per_bits.proofs.Places.{in_place}
use Rattle.per_bits.proofs.parts.Bits.share.Goals as goal

pub returns-clause-in_place : goal.returns-clause-in_place
returns-clause-in_place c = in_place c.self.inside.octets.now c.self.inside.start c.self.inside.len c.self.invariant.0 c.self.invariant.1
