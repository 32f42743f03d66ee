use Rattle.std.proofs.Common.{◌≡◌, ◌+◌, length, ap, ◌∙◌, arith}
use Rattle.std.proofs.lemmas.List.{length-append}
use Rattle.per_bits.specs.Bits.{digits}
use Rattle.per_bits.proofs.Digits.{length_digits}
use Rattle.per_types.proofs.Written.{never_full}
use Rattle.per_types.proofs.writers.write_string.Goals as goal

pub returns-clause-full : goal.returns-clause-full
returns-clause-full c =
    let long : length c.put.new.self ≡ length c.args.to.now + 8 =
    ap length c.in_ok-put.ensures.ok.1 ∙ length-append c.args.to.now (digits 8 c.from.result) ∙ ap (λ n. length c.args.to.now + n) (length_digits 8 c.from.result) in
    never_full c.put_bits.result _ _ (λ h. omega (arith, h.0, long)) c.put_bits.ensures.full
