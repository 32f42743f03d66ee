use Rattle.std.specs.Prelude.{[], false}
use Rattle.std.proofs.Common.{◌∙◌}
use Rattle.call_io.specs.Blocks.{held}
use Rattle.call_io.proofs.BlockLemmas.{Onward-append}
use Rattle.live_link.specs.LiveOutcome.{streams}
use Rattle.live_link.specs.inner.PointGoes.{no_more}
use Rattle.live_link.proofs.PointRounds.{goes_round, on_cut, on_done, on_ends}
use Rattle.live_link.proofs.point_run.PointSide.go_on.Goals as goal

pub loop-preserved : goal.loop-preserved
loop-preserved g c = record {
  ready = rw c.in-Ok-Message.field-0-is at c.in-Ok-Message.ensures.going;
  link = c.in-Ok-Message.ensures.unread ∙ c.loop.invariant.link;
  traced = c.in-Ok-Message.ensures.unwritten.0 ∙ c.loop.invariant.traced;
  wrote = c.in-Ok-Message.ensures.unwritten.1 ∙ c.loop.invariant.wrote;
  onward = Onward-append _ _ _ c.loop.invariant.onward c.in-Ok-Message.ensures.onward;
  goes = λ over start script lines at.
      let before = streams script (held g.O.Sink.held c.loop.trace) (g.I.Source.left c.loop.from) (g.P.Sink.held c.loop.to) c.loop.moments in
      rw c.in-Ok-Message.field-0-is at
      (c.in-Ok-Message.ensures.goes over start script lines no_more false 0
      (goes_round over start before c.loop.self lines (c.loop.invariant.goes over start script lines at)));
}

pub returns-in-Ok-ScriptEnd-clause-goes : goal.returns-in-Ok-ScriptEnd-clause-goes
returns-in-Ok-ScriptEnd-clause-goes g c over start script lines at =
    let before = streams script (held g.O.Sink.held c.loop.trace) (g.I.Source.left c.loop.from) (g.P.Sink.held c.loop.to) c.loop.moments in
    let now = streams script (held g.O.Sink.held c.round.new.trace) (g.I.Source.left c.round.new.from) (g.P.Sink.held c.round.new.to) c.round.new.moments in
    on_done over start now lines
    (rw c.in-Ok-ScriptEnd.field-0-is at
    (c.in-Ok-ScriptEnd.ensures.goes over start script lines no_more false 0
    (goes_round over start before c.loop.self lines (c.loop.invariant.goes over start script lines at))))

pub returns-in-Err-clause-goes : goal.returns-in-Err-clause-goes
returns-in-Err-clause-goes g c over start script lines at =
    let before = streams script (held g.O.Sink.held c.loop.trace) (g.I.Source.left c.loop.from) (g.P.Sink.held c.loop.to) c.loop.moments in
    let now = streams script (held g.O.Sink.held c.round.new.trace) (g.I.Source.left c.round.new.from) (g.P.Sink.held c.round.new.to) c.round.new.moments in
    on_ends over start now lines c.in-Err.status
    (c.in-Err.ensures.goes over start script lines no_more false 0
    (goes_round over start before c.loop.self lines (c.loop.invariant.goes over start script lines at)))

pub returns-clause-goes : goal.returns-clause-goes
returns-clause-goes g c over start script lines at =
    let now = streams script (held g.O.Sink.held c.loop.trace) (g.I.Source.left c.loop.from) (g.P.Sink.held c.loop.to) c.loop.moments in
    on_cut over start now c.loop.self lines no_more [] (c.loop.invariant.goes over start script lines at)
