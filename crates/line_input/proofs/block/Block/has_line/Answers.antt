use Rattle.std.proofs.Common.{◌∙◌, ap, arith}
use Rattle.line_input.specs.Reading.{begins_with_line}
use Rattle.line_input.specs.inner.Held.{Held}
use Rattle.line_input.proofs.BlockLemmas.{line_at}
use Rattle.line_input.proofs.block.Block.has_line.Goals as goal

pub returns-then-self : goal.returns-then-self
returns-then-self c =
    let feed = c.self.inside in
    c.may_begin.ensures
    ∙ line_at feed.block feed.at feed.«end» feed.lines_end c.self.invariant.5 c.self.invariant.0 (omega arith) c.self.invariant.4 c.if-self.true
    ∙ ap (λ (h : Held). begins_with_line h.feed.pending) c.self.view_is
