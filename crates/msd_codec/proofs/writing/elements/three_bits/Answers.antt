use Rattle.msd_codec.proofs.Presence.{three_value}
use Rattle.msd_codec.proofs.writing.elements.three_bits.Goals as goal

pub returns : goal.returns
returns c = three_value c.args.first c.args.second c.args.third _ _ _ c.from.ensures c.from-2.ensures c.from-3.ensures
