use Rattle.std.proofs.lemmas.Result.{err_from_is_err_and}
use Rattle.per_types.proofs.Sectionwise.{member_absent, member_present, member_refused}
use Rattle.per_types.proofs.readers.sections.member.Goals as goal

pub returns-in_err-read_open : goal.returns-in_err-read_open
returns-in_err-read_open c =
    let p = err_from_is_err_and c.from_residual.result c.from_residual.ensures.1 in
    rw (p.1, p.2, c.if-present.true) (member_refused c.args.c.now _ _ c.in_err-read_open.ensures.exact)

pub returns-in_ok-read_open : goal.returns-in_ok-read_open
returns-in_ok-read_open c = rw c.if-present.true (member_present c.args.c.now _ _ c.in_ok-read_open.ensures.exact)

pub returns-else-present : goal.returns-else-present
returns-else-present c = rw c.if-present.false (member_absent c.args.c.now)
