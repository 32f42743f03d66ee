use Rattle.std.specs.Prelude.{[], ◌+◌, ◌++◌, length}
use Rattle.std.proofs.Common.{refl}
use Rattle.std.proofs.lemmas.Result.{err_from_is_err_and}
use Rattle.call_io.specs.Blocks.{held}
use Rattle.line_input.proofs.LinesSoFar.{ended_lines, ended_whole, taken_input, taken_took}
use Rattle.link_frames.specs.declared.frame.End.TheVariants as «end»
use Rattle.trace_text.specs.Script.{said_after}
use Rattle.trace_text.specs.declared.script.ScriptLine.TheVariants as line
use Rattle.live_link.specs.LiveOutcome.{streams}
use Rattle.live_link.specs.Scripts.{script_from}
use Rattle.live_link.proofs.PointLines.{all, behind, line_fails, next_event, next_lines, on_at, on_outcome}
use Rattle.live_link.proofs.PointRounds.{still_at}
use Rattle.live_link.proofs.ScriptEnds.{round_outcome}
use Rattle.live_link.proofs.point_run.PointSide.turn.Goals as goal

-- no line could be read
pub returns-in_err-read_event-clause-goes : goal.returns-in_err-read_event-clause-goes
returns-in_err-read_event-clause-goes g c over start o =
    let p = err_from_is_err_and c.from_residual.result c.from_residual.ensures.1 in
    let rest = script_from «end».Point o.said (length o.lines + 1) in
    let old = streams (g.S.Source.left c.args.script.now) (held g.O.Sink.held c.args.trace.now) (g.I.Source.left c.args.from.now) (g.P.Sink.held c.args.to.now) c.args.moments.now in
    let now = streams (g.S.Source.left c.read_event.new.script) (held g.O.Sink.held c.read_event.new.trace) (g.I.Source.left c.args.from.now) (g.P.Sink.held c.args.to.now) c.args.moments.now in
    let at = still_at over start old now o.lines rest c.in_err-read_event.ensures.held refl refl refl c.args.self.now [] o.at in
    rw (p.1, p.2)
    (line_fails over start now (g.S.Source.left c.args.script.now) c.args.self.now c.args.lines.now c.read_event.new.lines
    o.lines o.said o.so_far at _ c.in_err-read_event.ensures.reads)

-- the script is at its end, and the run goes on without events
pub returns-in-None-clause-goes : goal.returns-in-None-clause-goes
returns-in-None-clause-goes g c over start o =
    let rest = script_from «end».Point o.said (length o.lines + 1) in
    let before = g.S.Source.left c.args.script.now in
    let old = streams before (held g.O.Sink.held c.args.trace.now) (g.I.Source.left c.args.from.now) (g.P.Sink.held c.args.to.now) c.args.moments.now in
    let left = g.S.Source.left c.read_event.new.script in
    let now = streams left (held g.O.Sink.held c.read_event.new.trace) (g.I.Source.left c.args.from.now) (g.P.Sink.held c.args.to.now) c.args.moments.now in
    let at = still_at over start old now o.lines rest c.in_ok-read_event.ensures.held refl refl refl c.args.self.now [] o.at in
    let reads = rw c.in-None.is at c.in_ok-read_event.ensures.reads in
    let seen = o.lines ++ reads.finds.0.passed in
    let r = c.args.lines.now in
    let r' = c.read_event.new.lines in
    let final = streams left (held g.O.Sink.held c.go_on.new.trace) (g.I.Source.left c.go_on.new.from) (g.P.Sink.held c.go_on.new.to) c.go_on.new.moments in
    on_outcome over start final seen (taken_input start.script before left r r' o.lines o.so_far reads.taken)
    (taken_took start.script before left r r' o.lines o.so_far reads.taken reads.draws)
    (ended_whole start.script before left r r' o.lines o.so_far reads)
    (ended_lines start.script before left r r' o.lines o.so_far reads) c.go_on.result
    (c.go_on.ensures.goes (λ more octets. over seen octets) start left []
    (on_at over start now before c.args.self.now r r' o.lines o.said o.so_far at reads))

-- the beats of a line end the run
pub returns-in_err-obey-in-Some-clause-goes : goal.returns-in_err-obey-in-Some-clause-goes
returns-in_err-obey-in-Some-clause-goes g c over start o =
    let p = err_from_is_err_and c.from_residual-in_err-obey-in-Some.result c.from_residual-in_err-obey-in-Some.ensures.1 in
    let rest = script_from «end».Point o.said (length o.lines + 1) in
    let before = g.S.Source.left c.args.script.now in
    let old = streams before (held g.O.Sink.held c.args.trace.now) (g.I.Source.left c.args.from.now) (g.P.Sink.held c.args.to.now) c.args.moments.now in
    let left = g.S.Source.left c.read_event.new.script in
    let now = streams left (held g.O.Sink.held c.read_event.new.trace) (g.I.Source.left c.args.from.now) (g.P.Sink.held c.args.to.now) c.args.moments.now in
    let later = streams left (held g.O.Sink.held c.obey.new.trace) (g.I.Source.left c.obey.new.from) (g.P.Sink.held c.obey.new.to) c.obey.new.moments in
    let at = still_at over start old now o.lines rest c.in_ok-read_event.ensures.held refl refl refl c.args.self.now [] o.at in
    let reads = rw c.in-Some.is at c.in_ok-read_event.ensures.reads in
    let r = c.args.lines.now in
    let r' = c.read_event.new.lines in
    let e = c.in-Some.event in
    let seen = all over start now before c.args.self.now r r' o.lines o.said o.so_far at e reads.0 reads.1 in
    rw (p.1, p.2)
    (round_outcome over start later r' seen
    (next_lines over start now before c.args.self.now r r' o.lines o.said o.so_far at e reads.0 reads.1) _
    (c.in_err-obey-in-Some.ensures.goes over start left seen
    (behind over start now before c.args.self.now r r' o.lines o.said o.so_far at e reads.0 reads.1)
    (next_event over start now before c.args.self.now r r' o.lines o.said o.so_far at e reads.0 reads.1)))

-- the run stands behind them
pub returns-in-Message-clause-goes : goal.returns-in-Message-clause-goes
returns-in-Message-clause-goes g c over start o =
    let rest = script_from «end».Point o.said (length o.lines + 1) in
    let before = g.S.Source.left c.args.script.now in
    let old = streams before (held g.O.Sink.held c.args.trace.now) (g.I.Source.left c.args.from.now) (g.P.Sink.held c.args.to.now) c.args.moments.now in
    let left = g.S.Source.left c.read_event.new.script in
    let now = streams left (held g.O.Sink.held c.read_event.new.trace) (g.I.Source.left c.args.from.now) (g.P.Sink.held c.args.to.now) c.args.moments.now in
    let at = still_at over start old now o.lines rest c.in_ok-read_event.ensures.held refl refl refl c.args.self.now [] o.at in
    let reads = rw c.in-Some.is at c.in_ok-read_event.ensures.reads in
    let r = c.args.lines.now in
    let r' = c.read_event.new.lines in
    let e = c.in-Some.event in
    let seen = all over start now before c.args.self.now r r' o.lines o.said o.so_far at e reads.0 reads.1 in
    record {
      lines = seen;
      said = said_after o.said (line.Event e);
      so_far = next_lines over start now before c.args.self.now r r' o.lines o.said o.so_far at e reads.0 reads.1;
      at =
          rw c.in-Message.is at
          (c.in_ok-obey-in-Some.ensures.goes over start left seen
          (behind over start now before c.args.self.now r r' o.lines o.said o.so_far at e reads.0 reads.1)
          (next_event over start now before c.args.self.now r r' o.lines o.said o.so_far at e reads.0 reads.1));
    }

-- the vehicle's script is at its end
pub returns-in-ScriptEnd-clause-goes : goal.returns-in-ScriptEnd-clause-goes
returns-in-ScriptEnd-clause-goes g c over start o =
    let rest = script_from «end».Point o.said (length o.lines + 1) in
    let before = g.S.Source.left c.args.script.now in
    let old = streams before (held g.O.Sink.held c.args.trace.now) (g.I.Source.left c.args.from.now) (g.P.Sink.held c.args.to.now) c.args.moments.now in
    let left = g.S.Source.left c.read_event.new.script in
    let now = streams left (held g.O.Sink.held c.read_event.new.trace) (g.I.Source.left c.args.from.now) (g.P.Sink.held c.args.to.now) c.args.moments.now in
    let at = still_at over start old now o.lines rest c.in_ok-read_event.ensures.held refl refl refl c.args.self.now [] o.at in
    let reads = rw c.in-Some.is at c.in_ok-read_event.ensures.reads in
    let r = c.args.lines.now in
    let r' = c.read_event.new.lines in
    let e = c.in-Some.event in
    let seen = all over start now before c.args.self.now r r' o.lines o.said o.so_far at e reads.0 reads.1 in
    c.end_peer.ensures.goes over start (g.I.Source.left c.obey.new.from) (g.P.Sink.held c.obey.new.to) c.obey.new.moments seen
    (said_after o.said (line.Event e))
    (next_lines over start now before c.args.self.now r r' o.lines o.said o.so_far at e reads.0 reads.1)
    (rw c.in-ScriptEnd.is at
    (c.in_ok-obey-in-Some.ensures.goes over start left seen
    (behind over start now before c.args.self.now r r' o.lines o.said o.so_far at e reads.0 reads.1)
    (next_event over start now before c.args.self.now r r' o.lines o.said o.so_far at e reads.0 reads.1)))
