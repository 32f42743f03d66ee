use Rattle.std.proofs.Common.{ap, ◌∙◌}
use Rattle.trace_model.specs.inner.Tallying.{tallied}
use Rattle.trace_model.specs.declared.entry.Entry.{Entry}
use Rattle.trace_model.specs.declared.tally.Tally.{Tally}
use Rattle.trace_model.proofs.TallyLemmas.{tally-one}
use Rattle.trace_model.proofs.tally.TallyListener.hear_item.Goals as goal

pub returns-clause-heard : goal.returns-clause-heard
returns-clause-heard c =
    let x : Entry = record { tick = c.args.tick; note = c.args.item.now } in
    λ heard is. c.count.ensures ∙ ap (λ (t : Tally). tallied t x) is ∙ tally-one heard x
