use Rattle.std.proofs.Common.{◌∙◌, sym, ap}
use Rattle.std.specs.List.{list_all}
use Rattle.line_input.specs.inner.Held.{Held}
use Rattle.line_input.specs.inner.Judged.{is_plain}
use Rattle.line_input.proofs.PlainLemmas.{plain_at_hand, plain_part}
use Rattle.line_input.proofs.block.Block.are_plain.Goals as goal

pub returns-clause-pending : goal.returns-clause-pending
returns-clause-pending c =
    let held = c.self.inside in
    λ plain. sym (ap (λ (h : Held). list_all is_plain h.feed.pending) c.self.view_is) ∙ plain_at_hand held.block held.at held.«end» c.self.invariant.0 (c.self.invariant.6 plain)

pub returns-clause-line : goal.returns-clause-line
returns-clause-line c =
    let held = c.self.inside in
    λ plain. sym (ap (λ (h : Held). list_all is_plain h.line) c.self.view_is)
    ∙ plain_part held.block held.line_at held.line_end held.«end» c.self.invariant.7 c.self.invariant.8 (c.self.invariant.6 plain)
