use Rattle.per_bits.specs.Bits.{digits}
use Rattle.per_bits.proofs.Digits.{length_digits}
use Rattle.per_types.specs.Spelling.{SmallElements}
use Rattle.per_types.proofs.Written.{written, small_spelled}
use Rattle.per_types.proofs.writers.write_small.Goals as goal

pub returns : goal.returns
returns c = written (SmallElements c.args.value) c.args.to.now c.put.new.self (digits 7 c.from.result) (7) c.put.result (small_spelled c.args.value c.from.result c.from.ensures c.requires) (length_digits 7 c.from.result) c.put.ensures.ok c.put.ensures.full
