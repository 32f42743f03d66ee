-- An octet of a head is a step, taken or not.
use Rattle.std.proofs.Common.{◌≡◌, true, false, arith}
use Rattle.link_frames.specs.Stages.{kept}
use Rattle.link_frames.specs.inner.Coming.{is_in_head, is_stopped}
use Rattle.link_frames.proofs.ComingLemmas.{comes_on, comes_stopped}
use Rattle.link_frames.proofs.reader.take_head.Goals as goal

pub returns-then-is_stopped-clause-comes : goal.returns-then-is_stopped-clause-comes
returns-then-is_stopped-clause-comes c = λ set.
    let head : is_in_head c.loop-n.stage ≡ true = cc in
    let stopped : is_stopped c.step-stage.result ≡ true = cc in
    comes_stopped set (kept set c.args.stage) c.args.piece.now c.loop-n.n c.loop-n.stage c.step-stage.result head
    c.loop-n-test.true (c.loop-n.invariant.4 set) (c.step-stage.ensures.steps set) stopped

pub loop-n-preserved : goal.loop-n-preserved
loop-n-preserved c =
    let head : is_in_head c.loop-n.stage ≡ true = cc in
    let going : is_stopped c.step-stage.result ≡ false = cc in (
      omega arith,
      going,
      c.step-stage.ensures.request,
      c.step-stage.ensures.filled,
      λ set. comes_on set (kept set c.args.stage) c.args.piece.now c.loop-n.n c.loop-n.stage c.step-stage.result head
          c.loop-n-test.true (c.loop-n.invariant.4 set) (c.step-stage.ensures.steps set) going,
    )
