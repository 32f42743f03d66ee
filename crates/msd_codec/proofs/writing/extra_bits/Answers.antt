use Rattle.msd_codec.proofs.CanonicalBits.{length_is}
use Rattle.msd_codec.proofs.writing.extra_bits.Goals as goal

pub returns : goal.returns
returns c = length_is _ _ _ c.data_len.ensures.count
