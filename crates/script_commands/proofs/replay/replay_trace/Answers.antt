use Rattle.script_commands.proofs.Replayed.{replayed, told_before, unread_by}
use Rattle.script_commands.proofs.replay.replay_trace.Goals as goal

pub returns-clause-outcome : goal.returns-clause-outcome
returns-clause-outcome g c = λ passes.
    replayed (g.I.Source.left c.args.input.now) (g.I.Source.left c.audit-verdict.new.source)
    (g.O.Sink.held c.args.output.now) (g.O.Sink.held c.tell.new.output) passes c.audit-verdict.result c.tell.result
    c.audit-verdict.ensures.outcome c.tell.ensures.ends

pub returns-clause-unread : goal.returns-clause-unread
returns-clause-unread g c =
    unread_by c.audit-verdict.result (g.O.Sink.held c.args.output.now) (g.O.Sink.held c.tell.new.output) c.tell.result
    _ _ c.tell.ensures.ends c.audit-verdict.ensures.cause

pub returns-clause-told : goal.returns-clause-told
returns-clause-told g c =
    told_before (g.I.Source.left c.args.input.now) (g.I.Source.left c.audit-verdict.new.source)
    (g.O.Sink.held c.args.output.now) (g.O.Sink.held c.tell.new.output) 0 c.audit-verdict.result c.tell.result
    c.audit-verdict.ensures.outcome c.tell.ensures.ends
