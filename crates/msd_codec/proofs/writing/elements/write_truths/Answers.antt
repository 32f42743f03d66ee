use Rattle.std.proofs.Common.{[], ◌∷◌}
use Rattle.msd_codec.proofs.Presence.{bits_put}
use Rattle.msd_codec.proofs.writing.elements.write_truths.Goals as goal

pub returns-clause-ok : goal.returns-clause-ok
returns-clause-ok c = bits_put (c.args.first ∷ c.args.second ∷ c.args.third ∷ []) c.three_bits.result c.args.to.now c.put.new.self c.put.result c.three_bits.ensures c.put.ensures.ok
