use Rattle.std.proofs.Common.{◌*◌, length, refl, arith}
use Rattle.per_bits.proofs.Places.{in_place, whole_is}
use Rattle.per_bits.proofs.parts.Bits.of.Goals as goal

pub returns-clause-all : goal.returns-clause-all
returns-clause-all c = rw (whole_is c.args.octets.now (length c.args.octets.now * 8) (omega arith)) refl

pub returns-clause-in_place : goal.returns-clause-in_place
returns-clause-in_place c = in_place c.args.octets.now 0 (length c.args.octets.now * 8) (omega arith) c.requires
