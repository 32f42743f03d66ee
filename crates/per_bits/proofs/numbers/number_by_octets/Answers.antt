use Rattle.std.proofs.Common.{◌≡◌, ◌-◌, ◌+◌, ◌∙◌, arith}
use Rattle.per_bits.proofs.Places.{number_step, shifted_or, shifted_below}
use Rattle.per_bits.proofs.numbers.number_by_octets.Goals as goal

pub loop-at-preserved : goal.loop-at-preserved
loop-at-preserved c =
    let far : (c.loop-at.at - c.args.start) + c.min-n.result ≡ c.loop-at.at + c.min-n.result - c.args.start = omega arith in
    let joined = shifted_or c.loop-at.value (c.loop-at.at - c.args.start) c.min-n.result c.field.result (c.loop-at.invariant.3) (omega arith) c.field.ensures.below in
    let below = shifted_below c.loop-at.value (c.loop-at.at - c.args.start) c.min-n.result c.field.result (c.loop-at.invariant.3) c.field.ensures.below in (
      omega arith,
      omega arith,
      joined ∙ rw c.field.ensures.value (number_step c.args.octets.now c.args.start c.loop-at.at c.min-n.result c.loop-at.value (omega arith) (omega arith) (omega arith) (c.loop-at.invariant.2)),
      rw (joined, ← far) below,
    )
