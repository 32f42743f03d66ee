use Rattle.std.proofs.lemmas.Result.{err_from_is_err_and}
use Rattle.per_types.proofs.Sectionwise.{additions_short, additions_absent, additions_ok}
use Rattle.per_types.proofs.readers.sections.presence.Goals as goal

pub returns-in_err-look : goal.returns-in_err-look
returns-in_err-look c =
    let p = err_from_is_err_and c.from_residual.result c.from_residual.ensures.1 in
    rw (p.1, p.2) (additions_short c.args.count c.args.c.now _ c.in_err-look.ensures.short)

pub returns-then-branch-eq0 : goal.returns-then-branch-eq0
returns-then-branch-eq0 c =
    rw c.refusal.ensures
    (additions_absent c.args.count c.args.c.now c.in_ok-look.field-0 c.from.result
    (record { enough = c.in_ok-look.ensures.ok.0; reads = c.in_ok-look.ensures.ok.1 }) c.if-branch-eq0.true c.from.ensures)

pub returns : goal.returns
returns c =
    additions_ok c.args.count c.args.c.now c.in_ok-look.field-0 c.taken.result c.taken.new.c
    (record { enough = c.in_ok-look.ensures.ok.0; reads = c.in_ok-look.ensures.ok.1 }) c.if-branch-eq0.false c.taken.ensures.bits c.taken.ensures.left
