use Rattle.std.specs.Prelude.{ℕ, ◌==◌, List, position}
use Rattle.std.proofs.Common.{ap, ◌∙◌}
use Rattle.floor_text.proofs.DraftLists.{first_number}
use Rattle.floor_text.proofs.drafts.Drafts.place.Goals as goal

pub returns : goal.returns
returns c =
    first_number c.args.vehicle c.deref.result.now c.memchr.result c.memchr.ensures
    ∙ ap (λ (ns : List ℕ). position (λ b. b == c.args.vehicle) ns) c.deref.ensures.value
