use Rattle.std.specs.Prelude.{ℕ, List, slice_get}
use Rattle.std.proofs.Common.{ap, subst, sym, ◌∙◌}
use Rattle.floor_text.specs.VehicleNumbers.{IsVehicle}
use Rattle.floor_text.proofs.DraftLists.{at_place, get_or-some, number_at}
use Rattle.floor_text.proofs.drafts.Drafts.number.Goals as goal

pub returns-clause-number : goal.returns-clause-number
returns-clause-number c = λ known k stands at.
    let n = number_at known c.args.place k stands.ranged at in
    c.index.ensures
    ∙ get_or-some c.args.self.now.numbers.items c.args.place c.index.result.now k.number
    (ap (λ (ns : List ℕ). slice_get ns c.args.place) stands.numbers ∙ n.0)

pub returns-clause-range : goal.returns-clause-range
returns-clause-range c =
    let k = at_place c.requires.0 c.args.place c.requires.2 in
    let n = number_at c.requires.0 c.args.place k.0 c.requires.1.ranged k.1 in
    subst IsVehicle
    (sym (c.index.ensures
    ∙ get_or-some c.args.self.now.numbers.items c.args.place c.index.result.now k.0.number
    (ap (λ (ns : List ℕ). slice_get ns c.args.place) c.requires.1.numbers ∙ n.0)))
    n.1
