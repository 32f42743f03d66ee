use Rattle.std.proofs.Common.{take, drop, ap, ◌∙◌, ◌-◌, ◌*◌, arith}
use Rattle.per_bits.specs.Bits.{digits, value_of}
use Rattle.per_bits.proofs.Places.{window_value}
use Rattle.per_bits.proofs.numbers.number_near_end.Goals as goal

pub returns-then-len-ge-WINDOW-clause-value : goal.returns-then-len-ge-WINDOW-clause-value
returns-then-len-ge-WINDOW-clause-value c =
    c.window_field.ensures.value
    ∙ ap (λ w. value_of (take c.args.width (drop (c.args.start - 8 * c.min-at.result) (digits 64 w)))) c.window_at.ensures.value
    ∙ window_value c.args.octets.now c.min-at.result c.args.start c.args.width (omega arith) (omega arith) (omega arith)
