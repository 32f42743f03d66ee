use Rattle.std.proofs.Common.{◌++◌, [], ◌∷◌, sym, subst}
use Rattle.trace_text.specs.Drafts.{DraftOf}
use Rattle.trace_text.proofs.DraftLemmas.{DraftOf-behind}
use Rattle.trace_text.proofs.draft.Draft.add.Goals as goal

pub returns-then-has_room-clause-taken : goal.returns-then-has_room-clause-taken
returns-then-has_room-clause-taken c = λ lines stands room.
    subst (λ draft. DraftOf draft (lines ++ c.args.fact.now ∷ [])) (sym c.put.ensures)
    (DraftOf-behind c.args.self.now c.args.fact.now lines stands)
