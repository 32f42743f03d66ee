use Rattle.std.proofs.Common.{◌+◌, ◌≤◌, Some, refl}
use Rattle.floor_command.proofs.StagePlays.{obeys_next}
use Rattle.floor_command.proofs.stage.FloorStage.go_on.Goals as goal

pub returns-in-Some-clause-obeys : goal.returns-in-Some-clause-obeys
returns-in-Some-clause-obeys g c =
    obeys_next (g.H.FloorListener.grew c.args.to.now c.play.new.to) (g.H.FloorListener.partly c.args.to.now c.play.new.to)
    (λ n. c.play.new.moments ≤ c.args.moments.now + n) c.args.self.now
    (record { drafts = c.args.self.now.drafts; floor = Some c.play.new.floor }) c.play.result c.args.event.now
    c.in-Some.floor c.in-Some.is refl c.play.ensures.played
