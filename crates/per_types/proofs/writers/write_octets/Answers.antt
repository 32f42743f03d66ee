use Rattle.std.proofs.Common.{◌+◌, ◌*◌, ◌++◌, refl}
use Rattle.per_bits.specs.Bits.{digits, octets_of}
use Rattle.per_types.specs.Spelling.{StringElements}
use Rattle.per_types.proofs.Written.{written, string_spelled, string_long}
use Rattle.per_types.proofs.writers.write_octets.Goals as goal

pub returns : goal.returns
returns c = written (StringElements (octets_of c.args.value.bits)) c.args.to.now c.write_string.new.to (digits 8 c.count.result ++ c.bits.result.bits) (8 + 8 * c.count.result) c.write_string.result (string_spelled c.bits.result c.args.value c.count.result c.count.result c.bits.ensures.value c.count.ensures.size c.count.ensures.few c.count.ensures.value refl) (string_long c.bits.result c.args.value c.count.result c.count.result c.bits.ensures.value c.count.ensures.size) c.write_string.ensures.ok c.write_string.ensures.full
