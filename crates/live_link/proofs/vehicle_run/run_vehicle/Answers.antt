use Rattle.std.proofs.Common.{sym, subst}
use Rattle.call_io.specs.Blocks.{held}
use Rattle.line_input.specs.Reading.{Reading}
use Rattle.live_link.specs.LiveOutcome.{streams}
use Rattle.live_link.specs.Scripts.{vehicle_over}
use Rattle.live_link.specs.inner.FrontGoes.{FrontOver}
use Rattle.live_link.proofs.VehicleFirst.{first_front}
use Rattle.live_link.proofs.vehicle_run.run_vehicle.Goals as goal

pub returns-in-Ok-clause-goes : goal.returns-in-Ok-clause-goes
returns-in-Ok-clause-goes g c =
    let start = streams (g.S.Source.left c.args.script.now) (held g.O.Sink.held c.args.trace.now) (g.I.Source.left c.args.from.now) (g.P.Sink.held c.args.to.now) c.args.moments.now in
    c.run_behind.ensures.goes vehicle_over start
    (c.in-Ok.ensures.goes vehicle_over start (g.I.Source.left c.args.from.now) (g.P.Sink.held c.args.to.now) c.args.moments.now
    (λ draft d. subst (λ (z : Reading). FrontOver vehicle_over start start z draft) (sym c.new-lines.ensures) (first_front start draft d)))

pub returns-in-Err-clause-goes : goal.returns-in-Err-clause-goes
returns-in-Err-clause-goes g c =
    let start = streams (g.S.Source.left c.args.script.now) (held g.O.Sink.held c.args.trace.now) (g.I.Source.left c.args.from.now) (g.P.Sink.held c.args.to.now) c.args.moments.now in
    c.in-Err.ensures.goes vehicle_over start (g.I.Source.left c.args.from.now) (g.P.Sink.held c.args.to.now) c.args.moments.now
    (λ draft d. subst (λ (z : Reading). FrontOver vehicle_over start start z draft) (sym c.new-lines.ensures) (first_front start draft d))
