use Rattle.std.proofs.Common.{ap, ◌+◌, ℕ}
use Rattle.std.proofs.lemmas.Result.{err_from_is_err_and}
use Rattle.per_types.proofs.Sectionwise.{over_unsized, over_unmarked, over_gives}
use Rattle.per_types.proofs.readers.sections.members.Goals as goal

pub returns-in_err-last : goal.returns-in_err-last
returns-in_err-last c =
    let p = err_from_is_err_and c.from_residual.result c.from_residual.ensures.1 in
    rw (p.1, p.2) (over_unsized c.args.c.now _ _ c.in_err-last.ensures.exact)

pub returns-in_err-present : goal.returns-in_err-present
returns-in_err-present c =
    let p = err_from_is_err_and c.from_residual-in_err-present.result c.from_residual-in_err-present.ensures.1 in
    rw (p.1, p.2)
    (over_unmarked c.args.c.now c.read_small.new.c c.presence.new.c c.in_ok-last.last (c.from.result + 1) _ c.in_ok-last.ensures.exact (ap (λ (n : ℕ). n + 1) c.from.ensures) c.in_err-present.ensures)

pub returns : goal.returns
returns c =
    over_gives c.args.c.now c.read_small.new.c c.presence.new.c c.opens.new.c c.in_ok-last.last (c.from.result + 1) c.in_ok-present.present.bits c.opens.result
    c.in_ok-last.ensures.exact (ap (λ (n : ℕ). n + 1) c.from.ensures) c.in_ok-present.ensures c.opens.ensures
