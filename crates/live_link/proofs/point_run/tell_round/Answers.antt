use Rattle.std.proofs.Common.{rules}
use Rattle.live_link.specs.PointLive.{round}
use Rattle.live_link.proofs.ToldTrace.{KeepsSink, point_keeps_sink}
use Rattle.live_link.proofs.point_run.tell_round.Goals as goal

pub returns-clause-cause : goal.returns-clause-cause
returns-clause-cause g c =
    let keeps : KeepsSink g.O.Sink.way c.over-to.result c.round.new.to =
    point_keeps_sink g.O.Sink.held g.O.Sink.way c.over-to.result c.round.new.to c.args.end.now c.round.new.self
    (λ s. round s c.args.parts.now) c.round.result c.requires c.round.ensures.ok c.round.ensures.err in
    search rules

pub returns-clause-counted : goal.returns-clause-counted
returns-clause-counted g c =
    let keeps : KeepsSink g.O.Sink.way c.over-to.result c.round.new.to =
    point_keeps_sink g.O.Sink.held g.O.Sink.way c.over-to.result c.round.new.to c.args.end.now c.round.new.self
    (λ s. round s c.args.parts.now) c.round.result c.requires c.round.ensures.ok c.round.ensures.err in
    search rules

pub returns-clause-onward : goal.returns-clause-onward
returns-clause-onward g c =
    let keeps : KeepsSink g.O.Sink.way c.over-to.result c.round.new.to =
    point_keeps_sink g.O.Sink.held g.O.Sink.way c.over-to.result c.round.new.to c.args.end.now c.round.new.self
    (λ s. round s c.args.parts.now) c.round.result c.requires c.round.ensures.ok c.round.ensures.err in
    search rules
