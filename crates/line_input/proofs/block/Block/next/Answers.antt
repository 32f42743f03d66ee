use Rattle.std.proofs.Common.{arith, subst, sym}
use Rattle.line_input.specs.inner.Gathering.{Refills}
use Rattle.line_input.specs.inner.Held.{Held}
use Rattle.line_input.proofs.FeedLemmas.{NextByte-given}
use Rattle.line_input.proofs.block.Block.next.Goals as goal

pub returns-clause-next : goal.returns-clause-next
returns-clause-next g c =
    let held = c.self.inside in
    let filled = subst (λ (h : Held). Refills c.args.self.now.feed h.feed (g.I.Source.left c.args.source.now) (g.I.Source.left c.refill.new.source)) (sym c.self.view_is) c.in_ok-refill.ensures.ok in
    NextByte-given held.block held.at held.«end» held.given held.ended _ _ _ filled (omega (arith, c.if-self.false)) (omega arith) c.self.invariant.3
