use Rattle.std.proofs.Common.{arith, rules, ◌+◌, ◌≤◌}
use Rattle.floor_command.proofs.StagePlays.{obeys_fact_line, obeys_late}
use Rattle.floor_command.proofs.stage.FloorStage.obey.Goals as goal

pub returns-in-None-clause-obeys : goal.returns-in-None-clause-obeys
returns-in-None-clause-obeys g c =
    obeys_fact_line (g.H.FloorListener.grew c.args.to.now c.args.to.now)
    (g.H.FloorListener.partly c.args.to.now c.args.to.now) (λ n. c.args.moments.now ≤ c.args.moments.now + n)
    c.args.self.now (record { drafts = c.learn.new.drafts; floor = c.args.self.now.floor }) c.args.says.now
    c.in-Fact.vehicle c.in-Fact.fact c.in-Fact.is c.in-None.is c.in-None.is (search rules) (omega arith)
    c.learn.result c.learn.ensures
