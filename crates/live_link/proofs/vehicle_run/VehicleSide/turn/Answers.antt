use Rattle.std.specs.Prelude.{[], ◌+◌, length}
use Rattle.std.proofs.Common.{refl}
use Rattle.std.proofs.lemmas.Result.{err_from_is_err_and}
use Rattle.call_io.specs.Blocks.{held}
use Rattle.link_frames.specs.declared.frame.End.TheVariants as «end»
use Rattle.live_link.specs.LiveOutcome.{streams}
use Rattle.live_link.specs.Scripts.{script_from}
use Rattle.live_link.proofs.ScriptEnds.{round_outcome}
use Rattle.live_link.proofs.VehicleLines.{next_event, no_event, script_ends, still_at}
use Rattle.live_link.proofs.vehicle_run.VehicleSide.turn.Goals as goal

-- the line's beats end the run
pub returns-in_err-obey-clause-goes : goal.returns-in_err-obey-clause-goes
returns-in_err-obey-clause-goes g c over start o =
    let p = err_from_is_err_and c.from_residual.result c.from_residual.ensures.1 in
    let now = streams (g.S.Source.left c.args.script.now) (held g.O.Sink.held c.obey.new.trace) (g.I.Source.left c.obey.new.from) (g.P.Sink.held c.obey.new.to) c.obey.new.moments in
    rw (p.1, p.2)
    (round_outcome over start now c.args.lines.now o.lines o.so_far _
    (c.in_err-obey.ensures.goes over start (g.S.Source.left c.args.script.now) o.lines
    (script_from «end».Vehicle o.said (length o.lines + 1)) o.at))

-- no further line could be read
pub returns-in_err-next-clause-goes : goal.returns-in_err-next-clause-goes
returns-in_err-next-clause-goes g c over start o =
    let p = err_from_is_err_and c.from_residual-in_err-next.result c.from_residual-in_err-next.ensures.1 in
    let rest = script_from «end».Vehicle o.said (length o.lines + 1) in
    let old = streams (g.S.Source.left c.args.script.now) (held g.O.Sink.held c.obey.new.trace) (g.I.Source.left c.obey.new.from) (g.P.Sink.held c.obey.new.to) c.obey.new.moments in
    let now = streams (g.S.Source.left c.read_event.new.script) (held g.O.Sink.held c.read_event.new.trace) (g.I.Source.left c.obey.new.from) (g.P.Sink.held c.obey.new.to) c.obey.new.moments in
    let at = still_at over start old now c.obey.new.self o.lines rest [] c.in_err-next.ensures.held refl refl refl
    (c.in_ok-obey.ensures.goes over start (g.S.Source.left c.args.script.now) o.lines rest o.at) in
    rw (p.1, p.2)
    (no_event over start now (g.S.Source.left c.args.script.now) c.obey.new.self c.args.lines.now c.read_event.new.lines
    o.lines o.said o.known o.so_far o.facts o.eventful at _ c.in_err-next.ensures.reads)

-- one was read
pub returns-in-Some-clause-goes : goal.returns-in-Some-clause-goes
returns-in-Some-clause-goes g c over start o =
    let rest = script_from «end».Vehicle o.said (length o.lines + 1) in
    let old = streams (g.S.Source.left c.args.script.now) (held g.O.Sink.held c.obey.new.trace) (g.I.Source.left c.obey.new.from) (g.P.Sink.held c.obey.new.to) c.obey.new.moments in
    let now = streams (g.S.Source.left c.read_event.new.script) (held g.O.Sink.held c.read_event.new.trace) (g.I.Source.left c.obey.new.from) (g.P.Sink.held c.obey.new.to) c.obey.new.moments in
    let at = still_at over start old now c.obey.new.self o.lines rest [] c.in_ok-next.ensures.held refl refl refl
    (c.in_ok-obey.ensures.goes over start (g.S.Source.left c.args.script.now) o.lines rest o.at) in
    let reads = rw c.in-Some.is at c.in_ok-next.ensures.reads in
    next_event over start now (g.S.Source.left c.args.script.now) c.obey.new.self c.args.lines.now c.read_event.new.lines
    o.lines o.said o.known o.so_far o.facts o.eventful at c.in-Some.next reads.0 reads.1

-- or the script is at its end
pub returns-in-None-clause-goes : goal.returns-in-None-clause-goes
returns-in-None-clause-goes g c over start o =
    let rest = script_from «end».Vehicle o.said (length o.lines + 1) in
    let old = streams (g.S.Source.left c.args.script.now) (held g.O.Sink.held c.obey.new.trace) (g.I.Source.left c.obey.new.from) (g.P.Sink.held c.obey.new.to) c.obey.new.moments in
    let now = streams (g.S.Source.left c.read_event.new.script) (held g.O.Sink.held c.read_event.new.trace) (g.I.Source.left c.obey.new.from) (g.P.Sink.held c.obey.new.to) c.obey.new.moments in
    let at = still_at over start old now c.obey.new.self o.lines rest [] c.in_ok-next.ensures.held refl refl refl
    (c.in_ok-obey.ensures.goes over start (g.S.Source.left c.args.script.now) o.lines rest o.at) in
    script_ends over start now (g.S.Source.left c.args.script.now) c.obey.new.self c.args.lines.now c.read_event.new.lines
    o.lines o.said o.known o.so_far o.facts o.eventful at (rw c.in-None.is at c.in_ok-next.ensures.reads)
    (g.P.Sink.held c.end_script.new.to) c.end_script.result c.end_script.ensures.ends
