use Rattle.std.proofs.Common.{arith}
use Rattle.per_bits.specs.Bits.{digits}
use Rattle.per_bits.proofs.Digits.{length_digits}
use Rattle.per_types.specs.Spelling.{FormatElements}
use Rattle.per_types.proofs.Written.{written, format_spelled}
use Rattle.per_types.proofs.writers.write_format.Goals as goal

pub returns : goal.returns
returns c = written (FormatElements c.args.known.now c.args.value) c.args.to.now c.put.new.self (digits 8 c.from.result) (8) c.put.result (format_spelled c.args.known.now c.args.value c.from.result c.from.ensures (omega arith) c.requires) (length_digits 8 c.from.result) c.put.ensures.ok c.put.ensures.full
