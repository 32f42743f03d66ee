use Rattle.std.proofs.Common.{◌+◌, ◌≤◌, Some}
use Rattle.script_stage.proofs.StagePlays.{obeys_first}
use Rattle.script_stage.proofs.stage.Stage.begin.Goals as goal

pub returns-clause-obeys : goal.returns-clause-obeys
returns-clause-obeys g c =
    obeys_first (g.H.Listener.grew c.args.to.now c.play-played.new.to) (g.H.Listener.partly c.args.to.now c.play-played.new.to)
    (λ n. c.play-played.new.moments ≤ c.args.moments.now + n) c.args.self.now
    (record { draft = c.args.self.now.draft; world = Some c.play-played.new.world }) c.play-played.result c.in-Some.facts c.args.event.now
    c.new-world.result c.requires.first c.in-Some.ensures c.new-world.ensures.stands c.new-world.ensures.calls
    c.new-world.ensures.reached c.play-played.ensures.played
