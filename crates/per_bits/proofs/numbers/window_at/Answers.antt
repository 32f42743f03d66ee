use Rattle.std.proofs.Common.{◌≡◌, ◌+◌, ◌*◌, ◌∙◌, arith}
use Rattle.per_bits.proofs.Places.{window_step, shifted_or, shifted_below}
use Rattle.per_bits.proofs.numbers.window_at.Goals as goal

pub loop-i-preserved : goal.loop-i-preserved
loop-i-preserved c =
    let far : 8 * c.loop-i.i + 8 ≡ 8 * (c.loop-i.i + 1) = omega arith in
    let joined = shifted_or c.loop-i.value (8 * c.loop-i.i) 8 c.field.result (c.loop-i.invariant.1) (omega arith) c.field.ensures.below in
    let below = shifted_below c.loop-i.value (8 * c.loop-i.i) 8 c.field.result (c.loop-i.invariant.1) c.field.ensures.below in (
      joined ∙ rw c.field.ensures.value (window_step c.args.octets.now c.args.at c.loop-i.i c.loop-i.value (omega arith) (c.loop-i.invariant.0)),
      rw (joined, ← far) below,
    )
