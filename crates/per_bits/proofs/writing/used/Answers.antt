use Rattle.std.proofs.Common.{arith}
use Rattle.per_bits.proofs.Buffer.{padded_is}
use Rattle.per_bits.proofs.writing.used.Goals as goal

pub returns-clause-value : goal.returns-clause-value
returns-clause-value c = padded_is c.args.octets.now c.args.len c.div_ceil.result (λ i. omega (arith, c.type_inv.octets i)) c.requires.within c.requires.clear c.div_ceil.ensures
