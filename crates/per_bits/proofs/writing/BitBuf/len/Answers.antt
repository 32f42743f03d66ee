use Rattle.std.proofs.Common.{arith, sym}
use Rattle.per_bits.proofs.Places.{length_prefix}
use Rattle.per_bits.proofs.writing.BitBuf.len.Goals as goal

pub returns-clause-value : goal.returns-clause-value
returns-clause-value c = rw (← c.self.view_is) (sym (length_prefix c.self.inside.octets c.self.inside.len (omega arith)))
