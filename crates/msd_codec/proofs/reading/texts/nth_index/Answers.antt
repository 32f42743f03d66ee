use Rattle.std.proofs.Common.{◌≡◌, ◌+◌, ◌-◌, ◌*◌, ◌∙◌, take, drop, ap, arith}
use Rattle.per_bits.specs.Bits.{value_of}
use Rattle.msd_codec.proofs.KnownTexts.{index_there}
use Rattle.msd_codec.proofs.reading.texts.nth_index.Goals as goal

pub returns-then-i-lt9 : goal.returns-then-i-lt9
returns-then-i-lt9 c =
    index_there c.args.c.now.bits 0 54 (6 * c.args.i) (48 - 6 * c.args.i) c.args.first c.six_bits.result (omega arith) (omega arith) (omega arith) c.requires.first c.six_bits.ensures
    ∙ ap (λ k. value_of (take 6 (drop k c.args.c.now.bits))) (omega arith)

pub returns-else-i-lt9 : goal.returns-else-i-lt9
returns-else-i-lt9 c =
    let place : 54 + (6 * c.args.i - 54) ≡ 6 * c.args.i = omega arith in
    index_there c.args.c.now.bits 54 48 (6 * c.args.i - 54) (96 - 6 * c.args.i) c.args.last c.six_bits-else-i-lt9.result (omega arith) (omega arith) (omega arith) c.requires.last c.six_bits-else-i-lt9.ensures
    ∙ ap (λ k. value_of (take 6 (drop k c.args.c.now.bits))) place
