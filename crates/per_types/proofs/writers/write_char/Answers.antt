use Rattle.per_bits.specs.Bits.{digits}
use Rattle.per_bits.proofs.Digits.{length_digits}
use Rattle.per_types.specs.Spelling.{CharacterElements}
use Rattle.per_types.proofs.Written.{written, character_spelled}
use Rattle.per_types.proofs.writers.write_char.Goals as goal

pub returns : goal.returns
returns c = written (CharacterElements c.args.value) c.args.to.now c.put.new.self (digits 6 c.from.result) (6) c.put.result (character_spelled c.args.value c.index_of.result c.from.result c.from.ensures c.index_of.ensures.known c.index_of.ensures.there) (length_digits 6 c.from.result) c.put.ensures.ok c.put.ensures.full
