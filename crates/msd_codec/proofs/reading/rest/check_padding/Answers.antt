use Rattle.msd_codec.proofs.Rest.{pad_found, pad_next}
use Rattle.msd_codec.proofs.reading.rest.check_padding.Goals as goal

pub returns-then-bit : goal.returns-then-bit
returns-then-bit c = pad_found c.args.bits.now.start c.loop-i.i _ c.args.bits.now.bits _ c.loop-i.invariant c.bit.ensures.value c.if-bit.true c.start.ensures.value

pub loop-i-preserved : goal.loop-i-preserved
loop-i-preserved c = pad_next c.args.bits.now.start c.loop-i.i c.args.bits.now.bits _ c.loop-i.invariant c.bit.ensures.value c.if-bit.false
