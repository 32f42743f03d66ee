use Rattle.per_bits.specs.Bits.{digits}
use Rattle.per_bits.proofs.Digits.{length_digits}
use Rattle.per_types.specs.Spelling.{PresenceElements}
use Rattle.per_types.proofs.Written.{written, presence_spelled}
use Rattle.per_types.proofs.writers.write_presence.Goals as goal

pub returns : goal.returns
returns c = written (PresenceElements c.args.n (digits c.args.n c.args.value)) c.args.to.now c.put.new.self (digits c.args.n c.from.result) (c.args.n) c.put.result (presence_spelled c.args.n c.args.value c.from.result c.from.ensures) (length_digits c.args.n c.from.result) c.put.ensures.ok c.put.ensures.full
