use Rattle.std.proofs.Common.{◌+◌, ◌-◌, ◌*◌, ◌%◌, ◌^◌, ◌≡◌, ◌<◌, sym, subst, arith}
use Rattle.std.proofs.lemmas.Nat.{mod_below, pow_pos, shr_below}
use Rattle.per_bits.proofs.Digits.{window_field_value}
use Rattle.per_bits.proofs.numbers.window_field.Goals as goal

pub returns-clause-value : goal.returns-clause-value
returns-clause-value c = sym (window_field_value c.args.skip c.args.n c.args.window c.requires.within)

pub returns-clause-below : goal.returns-clause-below
returns-clause-below c =
    let whole : 64 ≡ c.args.n + (64 - c.args.n) = omega arith in
    let small : c.args.window * 2 ^ c.args.skip % 2 ^ 64 < 2 ^ 64 = mod_below (c.args.window * 2 ^ c.args.skip) (2 ^ 64) (pow_pos 64) in
    shr_below (c.args.window * 2 ^ c.args.skip % 2 ^ 64) c.args.n (64 - c.args.n) (subst (λ m. c.args.window * 2 ^ c.args.skip % 2 ^ 64 < 2 ^ m) whole small)
