use Rattle.std.specs.Prelude.{◌+◌, length}
use Rattle.std.proofs.Common.{refl}
use Rattle.call_io.specs.Blocks.{held}
use Rattle.link_frames.specs.declared.frame.End.TheVariants as «end»
use Rattle.live_link.specs.LiveOutcome.{streams}
use Rattle.live_link.specs.Scripts.{script_from}
use Rattle.live_link.proofs.PointPeer.{peer_done, peer_ended, peer_fails}
use Rattle.live_link.proofs.PointRounds.{still_peer}
use Rattle.live_link.proofs.point_run.end_peer.Goals as goal

pub returns-in-Ok-None-clause-goes : goal.returns-in-Ok-None-clause-goes
returns-in-Ok-None-clause-goes g c over start from to passes seen said so_far at =
    let before = g.S.Source.left c.args.script.now in
    let old = streams before (held g.O.Sink.held c.args.trace.now) from to passes in
    let now = streams (g.S.Source.left c.read_event.new.script) (held g.O.Sink.held c.read_event.new.trace) from to passes in
    let here = still_peer over start old now seen (script_from «end».Point said (length seen + 1)) c.in-Ok-None.ensures.held refl refl refl at in
    peer_done over start now before c.args.lines.now c.read_event.new.lines seen said so_far here
    (rw c.in-Ok-None.field-0-is at c.in-Ok-None.ensures.reads)

pub returns-in-Ok-Some-clause-goes : goal.returns-in-Ok-Some-clause-goes
returns-in-Ok-Some-clause-goes g c over start from to passes seen said so_far at =
    let before = g.S.Source.left c.args.script.now in
    let old = streams before (held g.O.Sink.held c.args.trace.now) from to passes in
    let now = streams (g.S.Source.left c.read_event.new.script) (held g.O.Sink.held c.read_event.new.trace) from to passes in
    let here = still_peer over start old now seen (script_from «end».Point said (length seen + 1)) c.in-Ok-Some.ensures.held refl refl refl at in
    let reads = rw c.in-Ok-Some.field-0-is at c.in-Ok-Some.ensures.reads in
    peer_ended over start now before c.args.lines.now c.read_event.new.lines seen said so_far here _ reads.0 reads.1

pub returns-in-Err-clause-goes : goal.returns-in-Err-clause-goes
returns-in-Err-clause-goes g c over start from to passes seen said so_far at =
    let before = g.S.Source.left c.args.script.now in
    let old = streams before (held g.O.Sink.held c.args.trace.now) from to passes in
    let now = streams (g.S.Source.left c.read_event.new.script) (held g.O.Sink.held c.read_event.new.trace) from to passes in
    let here = still_peer over start old now seen (script_from «end».Point said (length seen + 1)) c.in-Err.ensures.held refl refl refl at in
    peer_fails over start now before c.args.lines.now c.read_event.new.lines seen said so_far here c.in-Err.status
    c.in-Err.ensures.reads
