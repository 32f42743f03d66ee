use Rattle.per_bits.specs.Bits.{digits}
use Rattle.per_bits.proofs.Digits.{length_digits}
use Rattle.per_types.specs.Spelling.{LengthElements}
use Rattle.per_types.proofs.Written.{written, length_spelled}
use Rattle.per_types.proofs.writers.write_length.Goals as goal

pub returns : goal.returns
returns c = written (LengthElements c.args.value) c.args.to.now c.put.new.self (digits 8 c.from.result) (8) c.put.result (length_spelled c.args.value c.from.result c.from.ensures c.requires) (length_digits 8 c.from.result) c.put.ensures.ok c.put.ensures.full
