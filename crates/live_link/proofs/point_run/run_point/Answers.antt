use Rattle.std.proofs.Common.{refl, sym, subst, arith}
use Rattle.call_io.specs.Blocks.{held}
use Rattle.call_io.proofs.BlockLemmas.{Onward-nothing}
use Rattle.line_input.specs.Reading.{Reading}
use Rattle.live_link.specs.LiveOutcome.{streams}
use Rattle.live_link.specs.Scripts.{point_over}
use Rattle.live_link.specs.inner.PointGoes.{PointOver}
use Rattle.live_link.proofs.PointLines.{point_first}
use Rattle.live_link.proofs.point_run.run_point.Goals as goal

pub loop-status-init : goal.loop-status-init
loop-status-init g c = record {
  ready = c.new-side.ensures.ready;
  alive = rw c.new-lines.ensures refl;
  few = rw c.new-lines.ensures (omega arith);
  script = refl;
  link = refl;
  traced = refl;
  wrote = refl;
  onward = Onward-nothing _;
  goes =
      let start = streams (g.S.Source.left c.args.script.now) (held g.O.Sink.held c.args.trace.now) (g.I.Source.left c.args.from.now) (g.P.Sink.held c.args.to.now) c.args.moments.now in
      subst (λ (z : Reading). PointOver point_over start start c.new-side.result z) (sym c.new-lines.ensures)
      (point_first start c.new-side.result c.new-side.ensures.stands c.new-side.ensures.first);
}
