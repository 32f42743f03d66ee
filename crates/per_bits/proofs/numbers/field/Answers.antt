use Rattle.std.proofs.Common.{◌^◌, ◌-◌, ◌/◌, bit_and, ap, sym, ◌∙◌, arith}
use Rattle.std.proofs.lemmas.Nat.{and_mask, one_shl}
use Rattle.per_bits.proofs.Digits.{octet_field_value}
use Rattle.per_bits.proofs.numbers.field.Goals as goal

pub returns-clause-value : goal.returns-clause-value
returns-clause-value c =
    ap (λ m. bit_and (c.args.octet / 2 ^ (8 - c.args.skip - c.args.n)) (m - 1)) (one_shl c.args.n 64 (omega arith))
    ∙ and_mask (c.args.octet / 2 ^ (8 - c.args.skip - c.args.n)) c.args.n
    ∙ sym (octet_field_value c.args.skip c.args.n c.args.octet c.requires)
