use Rattle.msd_codec.proofs.Presence.{presence_put}
use Rattle.msd_codec.proofs.writing.elements.write_present.Goals as goal

pub returns : goal.returns
returns c = presence_put c.args.present.now c.presence_of.result _ _ c.write_presence.result c.presence_of.ensures.value c.write_presence.ensures
