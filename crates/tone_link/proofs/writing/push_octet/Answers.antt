use Rattle.std.proofs.Common.{arith, append-nil, sym, ◌∙◌}
use Rattle.tone_link.proofs.Written.{octet_length, octet_more}
use Rattle.per_bits.specs.Bits.{digits}
use Rattle.tone_link.proofs.writing.push_octet.Goals as goal

pub loop-place-init : goal.loop-place-init
unfolding digits
loop-place-init c = sym (append-nil c.args.samples.now.items)

pub push_bit-requires : goal.push_bit-requires
push_bit-requires c =
    omega (arith, octet_length _ _ _ _ c.loop-place.invariant)

pub loop-place-preserved : goal.loop-place-preserved
loop-place-preserved c = c.push_bit.ensures ∙ octet_more _ _ _ _ (omega arith) c.loop-place.invariant
