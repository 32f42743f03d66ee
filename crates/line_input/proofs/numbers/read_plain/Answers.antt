use Rattle.std.proofs.Common.{◌^◌}
use Rattle.line_input.proofs.NumberLemmas.{positive_below-some}
use Rattle.line_input.proofs.numbers.read_plain.Goals as goal

pub returns-then-begins_plain-clause-low : goal.returns-then-begins_plain-clause-low
returns-then-begins_plain-clause-low c = rw c.read_digits.ensures (positive_below-some (2 ^ 64) c.args.text.now)
