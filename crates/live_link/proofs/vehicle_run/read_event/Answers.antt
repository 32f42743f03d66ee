use Rattle.std.proofs.lemmas.Result.{err_from_is_err_and}
use Rattle.link_frames.specs.declared.frame.End.TheVariants as «end»
use Rattle.line_input.specs.declared.reason.Reason.TheVariants as reason
use Rattle.live_link.proofs.ReadLemmas.{event_halted}
use Rattle.live_link.proofs.vehicle_run.read_event.Goals as goal

-- no line could be read
pub returns-in_err-found-clause-reads : goal.returns-in_err-found-clause-reads
returns-in_err-found-clause-reads g c =
    let p = err_from_is_err_and c.from_residual.result c.from_residual.ensures.1 in
    rw (p.1, p.2)
    (event_halted «end».Vehicle reason.Late c.args.lines.now c.next_line.new.lines
    (g.S.Source.left c.args.script.now) (g.S.Source.left c.next_line.new.script) _ c.in_err-found.ensures.reads)
