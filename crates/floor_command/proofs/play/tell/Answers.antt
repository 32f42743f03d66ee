use Rattle.std.proofs.Common.{rules, ◌+◌, ◌≤◌}
use Rattle.floor_command.proofs.PlayedLines.{KeepsSink, told_same_sink}
use Rattle.floor_command.proofs.play.tell.Goals as goal

pub returns-clause-unwritten : goal.returns-clause-unwritten
returns-clause-unwritten g c =
    let keeps : KeepsSink g.O.Sink.way c.over-to.result c.obey.new.to =
    told_same_sink g.O.Sink.held g.O.Sink.way c.over-to.result c.obey.new.to c.args.stage.now c.obey.new.self
    c.requires.stands.0 c.requires.stands.1 c.args.says.now
    (λ n. c.obey.new.moments ≤ c.args.moments.now + n) c.obey.result
    (c.obey.ensures.obeys c.requires.stands.0 c.requires.stands.1 c.requires.stands.2) in
    search rules

pub returns-clause-counted : goal.returns-clause-counted
returns-clause-counted g c =
    let keeps : KeepsSink g.O.Sink.way c.over-to.result c.obey.new.to =
    told_same_sink g.O.Sink.held g.O.Sink.way c.over-to.result c.obey.new.to c.args.stage.now c.obey.new.self
    c.requires.stands.0 c.requires.stands.1 c.args.says.now
    (λ n. c.obey.new.moments ≤ c.args.moments.now + n) c.obey.result
    (c.obey.ensures.obeys c.requires.stands.0 c.requires.stands.1 c.requires.stands.2) in
    search rules

pub returns-clause-onward : goal.returns-clause-onward
returns-clause-onward g c =
    let keeps : KeepsSink g.O.Sink.way c.over-to.result c.obey.new.to =
    told_same_sink g.O.Sink.held g.O.Sink.way c.over-to.result c.obey.new.to c.args.stage.now c.obey.new.self
    c.requires.stands.0 c.requires.stands.1 c.args.says.now
    (λ n. c.obey.new.moments ≤ c.args.moments.now + n) c.obey.result
    (c.obey.ensures.obeys c.requires.stands.0 c.requires.stands.1 c.requires.stands.2) in
    search rules
