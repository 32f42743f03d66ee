use Rattle.call_io.specs.Blocks.{held}
use Rattle.live_link.specs.LiveOutcome.{streams}
use Rattle.live_link.proofs.VehicleFirst.{first_over, front_ends_script}
use Rattle.live_link.proofs.vehicle_run.run_behind.Goals as goal

pub returns-in-End-clause-goes : goal.returns-in-End-clause-goes
returns-in-End-clause-goes g c over start f =
    front_ends_script over start
    (streams (g.S.Source.left c.args.script.now) (held g.O.Sink.held c.args.trace.now) (g.I.Source.left c.args.from.now) (g.P.Sink.held c.args.to.now) c.args.moments.now)
    (rw c.in-End.is at f) (g.P.Sink.held c.end_script.new.to) c.end_script.result c.end_script.ensures.ends

pub returns-in-First-clause-goes : goal.returns-in-First-clause-goes
returns-in-First-clause-goes g c over start f =
    c.run.ensures.goes over start
    (first_over over start
    (streams (g.S.Source.left c.args.script.now) (held g.O.Sink.held c.args.trace.now) (g.I.Source.left c.args.from.now) (g.P.Sink.held c.args.to.now) c.args.moments.now)
    c.new-side.result c.args.lines.now c.in-First.facts c.in-First.event (rw c.in-First.is at f) c.new-side.ensures.stands c.new-side.ensures.first)
