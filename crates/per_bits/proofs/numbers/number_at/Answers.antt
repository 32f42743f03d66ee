use Rattle.std.proofs.Common.{◌≡◌, take, drop, ap, ◌∙◌, ◌-◌, ◌*◌, ◌/◌, ◌%◌, arith}
use Rattle.per_bits.specs.Bits.{digits, value_of, octet_bits}
use Rattle.per_bits.proofs.Places.{window_value}
use Rattle.per_bits.proofs.numbers.number_at.Goals as goal

pub returns-then-at-octets-clause-value : goal.returns-then-at-octets-clause-value
returns-then-at-octets-clause-value c =
    let skip : c.args.start % 8 ≡ c.args.start - 8 * (c.args.start / 8) = omega arith in
    c.window_field.ensures.value
    ∙ ap (λ w. value_of (take c.args.width (drop (c.args.start % 8) (digits 64 w)))) c.window_at.ensures.value
    ∙ ap (λ k. value_of (take c.args.width (drop k (digits 64 (value_of (take 64 (drop (8 * (c.args.start / 8)) (octet_bits c.args.octets.now)))))))) skip
    ∙ window_value c.args.octets.now (c.args.start / 8) c.args.start c.args.width (omega arith) (omega arith) (omega arith)
