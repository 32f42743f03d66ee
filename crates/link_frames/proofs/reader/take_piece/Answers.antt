-- A frame that was whole keeps nothing, and what comes of the head goes on in the set.
use Rattle.std.proofs.Common.{ℕ, List, subst}
use Rattle.link_frames.specs.Stages.{kept}
use Rattle.link_frames.specs.inner.Coming.{ComesTo}
use Rattle.link_frames.proofs.reader.take_piece.Goals as goal

pub returns-clause-comes : goal.returns-clause-comes
returns-clause-comes c =
    c.take_set.ensures.comes (kept c.args.octets.now c.args.stage)
    (subst (λ (had : List ℕ). ComesTo c.args.octets.now had c.args.piece.now c.take_head-stage.result.1
    c.take_head-stage.result.0)
    (c.without_frame.ensures.kept c.args.octets.now) (c.take_head-stage.ensures.comes c.args.octets.now))
