use Rattle.channel_sim.proofs.SendsLemmas.{pushed_view}
use Rattle.channel_sim.proofs.sends.Sends.push.Goals as goal

pub returns-clause-ok : goal.returns-clause-ok
returns-clause-ok c =
    rw (c.in_ok-push.ensures.items, ← c.self.view_is)
    (pushed_view c.self.inside.frames.items c.args.tick c.in_ok-kept.kept c.args.frame.now c.in_ok-kept.ensures)
