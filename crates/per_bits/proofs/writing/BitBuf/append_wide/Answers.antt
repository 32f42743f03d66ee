use Rattle.std.proofs.Common.{◌≡◌, ◌+◌, ◌-◌, ◌/◌, ◌%◌, ◌^◌, ◌++◌, ◌∙◌, length, ap, arith}
use Rattle.std.proofs.lemmas.List.{append_assoc, length-append}
use Rattle.std.proofs.lemmas.Nat.{shr_below}
use Rattle.per_bits.specs.Bits.{digits}
use Rattle.per_bits.proofs.Digits.{length_digits}
use Rattle.per_bits.proofs.Buffer.{two_parts}
use Rattle.per_bits.proofs.writing.BitBuf.append_wide.Goals as goal

pub append-requires-clause-fits : goal.append-requires-clause-fits
append-requires-clause-fits c =
    let both : (c.args.width - 32) + 32 ≡ c.args.width = omega arith in
    shr_below c.args.value (c.args.width - 32) 32 (rw both c.requires.fits)

pub append-requires-2-clause-room : goal.append-requires-2-clause-room
append-requires-2-clause-room c =
    let first : length c.append.new.self ≡ length c.args.self.now + length (digits (c.args.width - 32) (c.args.value / 2 ^ 32)) =
    ap length c.append.ensures ∙ length-append c.args.self.now (digits (c.args.width - 32) (c.args.value / 2 ^ 32)) in
    omega (arith, first, length_digits (c.args.width - 32) (c.args.value / 2 ^ 32))

pub returns : goal.returns
returns c =
    c.append-2.ensures
    ∙ ap (λ l. l ++ digits 32 (c.args.value % 2 ^ 32)) c.append.ensures
    ∙ append_assoc c.args.self.now (digits (c.args.width - 32) (c.args.value / 2 ^ 32)) (digits 32 (c.args.value % 2 ^ 32))
    ∙ ap (λ l. c.args.self.now ++ l) (two_parts c.args.width c.args.value c.requires.wide)
