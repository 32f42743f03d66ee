use Rattle.per_bits.proofs.Places.{length_octet_bits}
use Rattle.msd_codec.proofs.Rest.{pads_fit}
use Rattle.msd_codec.proofs.reading.rest.check_rest.Goals as goal

pub part-padding-requires : goal.part-padding-requires
part-padding-requires c = rw (c.of.ensures.all, length_octet_bits c.args.octets.now) (pads_fit _ _ c.requires.within)
