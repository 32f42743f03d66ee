use Rattle.std.proofs.Common.{◌+◌, ◌≤◌, Some, refl}
use Rattle.floor_command.proofs.StagePlays.{obeys_first, obeys_unbuilt}
use Rattle.floor_command.proofs.stage.FloorStage.begin.Goals as goal

pub returns-in-Ok-clause-obeys : goal.returns-in-Ok-clause-obeys
returns-in-Ok-clause-obeys g c =
    obeys_first (g.H.FloorListener.grew c.args.to.now c.open.new.to) (g.H.FloorListener.partly c.args.to.now c.open.new.to)
    (λ n. c.open.new.moments ≤ c.args.moments.now + n) c.args.self.now c.open.new.self c.open.result c.args.event.now
    c.in-Ok.floor c.requires.first c.open.ensures.drafts c.in-Ok.ensures c.open.ensures.played
