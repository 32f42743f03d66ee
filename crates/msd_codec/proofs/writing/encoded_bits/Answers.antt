use Rattle.msd_codec.proofs.CanonicalBits.{length_is}
use Rattle.msd_codec.proofs.writing.encoded_bits.Goals as goal

pub returns-clause-bits : goal.returns-clause-bits
returns-clause-bits c = length_is _ _ _ c.message_len.ensures.count
