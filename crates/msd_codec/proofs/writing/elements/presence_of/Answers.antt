use Rattle.msd_codec.proofs.Presence.{presence_more}
use Rattle.msd_codec.proofs.writing.elements.presence_of.Goals as goal

pub loop-bit-preserved : goal.loop-bit-preserved
loop-bit-preserved c = presence_more c.args.present.now c.loop-bit.bit-index c.loop-bit.number c.from.result c.loop-bit-test.true c.loop-bit.invariant.0 c.loop-bit.invariant.1 c.from.ensures
