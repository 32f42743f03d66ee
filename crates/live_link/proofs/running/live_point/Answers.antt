use Rattle.std.proofs.Common.{sym, subst, ◌∙◌}
use Rattle.call_io.specs.Blocks.{sink}
use Rattle.call_io.proofs.BlockLemmas.{Onward-append}
use Rattle.live_link.specs.LiveOutcome.{LiveOutcome, ending_line, streams}
use Rattle.live_link.specs.Scripts.{point_over}
use Rattle.live_link.proofs.LiveCloses.{closes_through}
use Rattle.live_link.proofs.LiveCompletes.{completes}
use Rattle.live_link.proofs.running.live_point.Goals as goal

pub returns-clause-goes : goal.returns-clause-goes
returns-clause-goes g c =
    let onward = Onward-append _ _ _ c.run_point-status.ensures.onward c.close.ensures.onward in
    let start = streams (g.S.Source.left c.args.script.now) (g.O.Sink.held c.args.trace.now) (g.I.Source.left c.args.from.now) (g.P.Sink.held c.args.to.now) c.args.moments.now in
    let now = streams (g.S.Source.left c.run_point-status.new.script) (g.O.Sink.held c.args.trace.now) (g.I.Source.left c.run_point-status.new.from) (g.P.Sink.held c.run_point-status.new.to) c.run_point-status.new.moments in
    subst (λ t. LiveOutcome ending_line point_over start (record now { trace = g.O.Sink.held t }) c.close.result)
    (sym (c.trace-1.given.1 (sym (onward.0 ∙ c.over-block.ensures.same_sink))))
    (subst (λ t. LiveOutcome ending_line point_over (record start { trace = g.O.Sink.held t })
    (record now { trace = g.O.Sink.held (sink c.close.new.trace) }) c.close.result) c.over-block.ensures.value
    (closes_through g.O.Sink.held c.over-block.result c.run_point-status.new.trace c.close.new.trace point_over start now
    c.run_point-status.result c.close.result c.over-block.ensures.nothing onward c.close.ensures.partly
    c.run_point-status.ensures.goes c.close.ensures.closes))

pub returns-clause-complete : goal.returns-clause-complete
returns-clause-complete g c = completes point_over _ _ _ (returns-clause-goes g c)
