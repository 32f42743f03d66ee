use Rattle.std.proofs.Common.{arith}
use Rattle.per_bits.proofs.Buffer.{octet_bits_zeros}
use Rattle.per_bits.proofs.writing.BitBuf.new.Goals as goal

pub invariant_of-result : goal.invariant_of-result
invariant_of-result c = (omega arith, octet_bits_zeros 148)
