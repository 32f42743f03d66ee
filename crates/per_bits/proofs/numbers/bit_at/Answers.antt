use Rattle.std.proofs.Common.{ap, sym, ◌∙◌, Some, nat_eq}
use Rattle.per_bits.proofs.Places.{bit_there}
use Rattle.per_bits.proofs.numbers.bit_at.Goals as goal

pub returns : goal.returns
returns c = bit_there c.args.octets.now c.args.place c.requires ∙ ap (λ n. Some (nat_eq n 1)) (sym c.field.ensures.value)
