use Rattle.std.proofs.Common.{◌+◌, ◌≤◌, Some}
use Rattle.script_stage.proofs.StagePlays.{obeys_next}
use Rattle.script_stage.proofs.stage.Stage.go_on.Goals as goal

pub returns-in-Some-clause-obeys : goal.returns-in-Some-clause-obeys
returns-in-Some-clause-obeys g c =
    obeys_next (g.H.Listener.grew c.args.to.now c.play.new.to) (g.H.Listener.partly c.args.to.now c.play.new.to)
    (λ n. c.play.new.moments ≤ c.args.moments.now + n) c.args.self.now
    (record { draft = c.args.self.now.draft; world = Some c.play.new.world }) c.play.result c.args.event.now
    c.in-Some.world c.in-Some.is c.play.ensures.played
