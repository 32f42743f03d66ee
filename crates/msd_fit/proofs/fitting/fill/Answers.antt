use Rattle.std.proofs.Common.{◌∙◌}
use Rattle.msd_fit.proofs.Stored.{first_put}
use Rattle.msd_fit.proofs.fitting.fill.Goals as goal

pub returns : goal.returns
returns c = c.put.ensures ∙ first_put 140 c.args.octets.now
