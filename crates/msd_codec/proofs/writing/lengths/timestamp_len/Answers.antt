use Rattle.std.proofs.Common.{refl, arith}
use Rattle.std.specs.Prelude.{pos}
use Rattle.std.proofs.lemmas.Int.{ints}
use Rattle.per_types.specs.Kinds.{width_of, width_from}
use Rattle.msd_codec.specs.Module.{timestamp}
use Rattle.msd_codec.proofs.Lengths.{whole_length}
use Rattle.msd_codec.proofs.writing.lengths.timestamp_len.Goals as goal

pub returns-clause-count : goal.returns-clause-count
unfolding timestamp width_of width_from
returns-clause-count c = whole_length (pos 0) (pos 4294967295) (pos c.args._value) 32 refl (omega (arith, ints)) (omega (arith, ints, c.ranges._value.fits)) (omega (arith, ints, c.ranges._value.fits))
