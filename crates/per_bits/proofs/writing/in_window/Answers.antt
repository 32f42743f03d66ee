use Rattle.std.proofs.Common.{◌≡◌, ◌+◌, ◌-◌, ◌*◌, ◌%◌, ◌^◌, ◌<◌, ◌∙◌, ap, arith}
use Rattle.std.proofs.lemmas.Nat.{shl_whole, shl_below}
use Rattle.per_bits.proofs.Buffer.{shifted_twice}
use Rattle.per_bits.proofs.writing.in_window.Goals as goal

pub returns : goal.returns
returns c =
    let far : c.args.width + (57 - c.args.width) ≡ 57 = omega arith in
    let below : c.args.value * 2 ^ (57 - c.args.width) < 2 ^ (c.args.width + (57 - c.args.width)) = shl_below c.args.value c.args.width (57 - c.args.width) c.requires.fits in
    let small : c.args.value * 2 ^ (57 - c.args.width) < 2 ^ 57 = rw far at below in
    let both : (57 - c.args.width) + (7 - c.args.skip) ≡ 64 - c.args.skip - c.args.width = omega arith in
    let twice : c.args.value * 2 ^ (57 - c.args.width) * 2 ^ (7 - c.args.skip) ≡ c.args.value * 2 ^ ((57 - c.args.width) + (7 - c.args.skip)) =
    shifted_twice c.args.value (57 - c.args.width) (7 - c.args.skip) in
    ap (λ x. (x * 2 ^ (7 - c.args.skip)) % 2 ^ 64) (shl_whole c.args.value c.args.width (57 - c.args.width) 64 c.requires.fits (omega arith))
    ∙ shl_whole (c.args.value * 2 ^ (57 - c.args.width)) 57 (7 - c.args.skip) 64 small (omega arith)
    ∙ twice
    ∙ ap (λ k. c.args.value * 2 ^ k) both
