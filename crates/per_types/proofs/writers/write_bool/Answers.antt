use Rattle.per_bits.specs.Bits.{digits}
use Rattle.per_bits.proofs.Digits.{length_digits}
use Rattle.per_types.specs.Spelling.{TruthElements}
use Rattle.per_types.proofs.Written.{written, truth_spelled}
use Rattle.per_types.proofs.writers.write_bool.Goals as goal

pub returns : goal.returns
returns c = written (TruthElements c.args.value) c.args.to.now c.put.new.self (digits 1 c.from.result) (1) c.put.result (truth_spelled c.args.value c.from.result c.from.ensures) (length_digits 1 c.from.result) c.put.ensures.ok c.put.ensures.full
