use Rattle.std.proofs.Common.{rules}
use Rattle.live_link.specs.VehicleLive.{hears_line}
use Rattle.live_link.proofs.ToldTrace.{KeepsSink, vehicle_keeps_sink}
use Rattle.live_link.proofs.vehicle_run.tell_line.Goals as goal

pub returns-clause-cause : goal.returns-clause-cause
returns-clause-cause g c =
    let keeps : KeepsSink g.O.Sink.way c.over-to.result c.line.new.to =
    vehicle_keeps_sink g.O.Sink.held g.O.Sink.way c.over-to.result c.line.new.to c.args.end.now c.line.new.self
    (λ s. hears_line s c.args.event.now) c.line.result c.requires c.line.ensures.ok c.line.ensures.err in
    search rules

pub returns-clause-counted : goal.returns-clause-counted
returns-clause-counted g c =
    let keeps : KeepsSink g.O.Sink.way c.over-to.result c.line.new.to =
    vehicle_keeps_sink g.O.Sink.held g.O.Sink.way c.over-to.result c.line.new.to c.args.end.now c.line.new.self
    (λ s. hears_line s c.args.event.now) c.line.result c.requires c.line.ensures.ok c.line.ensures.err in
    search rules

pub returns-clause-onward : goal.returns-clause-onward
returns-clause-onward g c =
    let keeps : KeepsSink g.O.Sink.way c.over-to.result c.line.new.to =
    vehicle_keeps_sink g.O.Sink.held g.O.Sink.way c.over-to.result c.line.new.to c.args.end.now c.line.new.self
    (λ s. hears_line s c.args.event.now) c.line.result c.requires c.line.ensures.ok c.line.ensures.err in
    search rules
