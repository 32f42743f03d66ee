use Rattle.std.proofs.Common.{arith}
use Rattle.per_bits.proofs.Places.{length_octet_bits}
use Rattle.msd_fit.proofs.octets.octs_of.Goals as goal

pub known-requires-clause-octets : goal.known-requires-clause-octets
known-requires-clause-octets c = rw c.of.ensures.all (omega (arith, length_octet_bits c.args.octets.now))

pub known-requires-clause-few : goal.known-requires-clause-few
known-requires-clause-few c = rw c.of.ensures.all (omega (arith, length_octet_bits c.args.octets.now))
