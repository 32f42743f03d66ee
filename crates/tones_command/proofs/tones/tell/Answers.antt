use Rattle.std.proofs.Common.{rules, ◌+◌, ◌≤◌, sym, ◌∙◌}
use Rattle.tones_command.proofs.ToldTones.{KeepsBoth, told_both, told_obeys}
use Rattle.tones_command.proofs.tones.tell.Goals as goal

pub returns-clause-obeys : goal.returns-clause-obeys
returns-clause-obeys g c = λ said events stands.
    let keeps = told_both g.O.Sink.held g.O.Sink.way c.over-to.result c.obey.new.to c.args.stage.now c.obey.new.self
    said events c.args.says.now (λ n. c.obey.new.moments ≤ c.args.moments.now + n) c.obey.result
    (c.obey.ensures.obeys said events stands) in
    told_obeys g.O.Sink.held g.O.Sink.way c.over-to.result c.obey.new.to c.args.output.now _ c.args.frames.now _
    c.over-to.ensures.value (sym (c.output-1.given.1 (sym (keeps.same ∙ c.over-to.ensures.same_sink))))
    c.over-to.ensures.frames (sym (c.frames-1.given.1 (sym (keeps.frames ∙ c.over-to.ensures.same_frames))))
    c.args.stage.now c.obey.new.self said events c.args.says.now
    (λ n. c.obey.new.moments ≤ c.args.moments.now + n) c.obey.result (c.obey.ensures.obeys said events stands)

pub returns-clause-unwritten : goal.returns-clause-unwritten
returns-clause-unwritten g c =
    let keeps : KeepsBoth g.O.Sink.way c.over-to.result c.obey.new.to =
    told_both g.O.Sink.held g.O.Sink.way c.over-to.result c.obey.new.to c.args.stage.now c.obey.new.self
    c.requires.stands.0 c.requires.stands.1 c.args.says.now
    (λ n. c.obey.new.moments ≤ c.args.moments.now + n) c.obey.result
    (c.obey.ensures.obeys c.requires.stands.0 c.requires.stands.1 c.requires.stands.2) in
    search rules

pub returns-clause-counted : goal.returns-clause-counted
returns-clause-counted g c =
    let keeps : KeepsBoth g.O.Sink.way c.over-to.result c.obey.new.to =
    told_both g.O.Sink.held g.O.Sink.way c.over-to.result c.obey.new.to c.args.stage.now c.obey.new.self
    c.requires.stands.0 c.requires.stands.1 c.args.says.now
    (λ n. c.obey.new.moments ≤ c.args.moments.now + n) c.obey.result
    (c.obey.ensures.obeys c.requires.stands.0 c.requires.stands.1 c.requires.stands.2) in
    search rules

pub returns-clause-onward : goal.returns-clause-onward
returns-clause-onward g c =
    let keeps : KeepsBoth g.O.Sink.way c.over-to.result c.obey.new.to =
    told_both g.O.Sink.held g.O.Sink.way c.over-to.result c.obey.new.to c.args.stage.now c.obey.new.self
    c.requires.stands.0 c.requires.stands.1 c.args.says.now
    (λ n. c.obey.new.moments ≤ c.args.moments.now + n) c.obey.result
    (c.obey.ensures.obeys c.requires.stands.0 c.requires.stands.1 c.requires.stands.2) in
    search rules
