use Rattle.msd_codec.proofs.Lengths.{more_put}
use Rattle.msd_codec.proofs.writing.elements.write_more.Goals as goal

pub returns-in-Some : goal.returns-in-Some
returns-in-Some c = more_put c.args.more.now c.in-Some.additions c.share.result _ _ c.write_additions.result c.in-Some.is c.share.ensures.value c.write_additions.ensures
