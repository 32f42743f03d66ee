use Rattle.std.proofs.Common.{◌≤◌, length, arith}
use Rattle.std.proofs.lemmas.Result.{err_from_is_err_and}
use Rattle.per_types.proofs.Sectionwise.{goes_more, goes_wrong, goes_last}
use Rattle.per_types.proofs.readers.sections.opens.Goals as goal

pub returns-in_err-member : goal.returns-in_err-member
returns-in_err-member c =
    let p = err_from_is_err_and c.from_residual.result c.from_residual.ensures.1 in
    rw (p.1, p.2) (goes_wrong c.args.present.now.bits c.args.c.now c.loop-i.c c.member.new.c c.loop-i.i c.bit.result _ c.bit.ensures.value c.in_err-member.ensures c.loop-i.invariant)

pub loop-i-preserved : goal.loop-i-preserved
loop-i-preserved c =
    goes_more c.args.present.now.bits c.args.c.now c.loop-i.c c.member.new.c c.loop-i.i c.bit.result _ c.bit.ensures.value c.in_ok-member.ensures c.loop-i.invariant

pub returns : goal.returns
returns c =
    let all : length c.args.present.now.bits ≤ c.loop-i.i = omega (arith, c.len-i-end.ensures.value) in
    goes_last c.args.present.now.bits c.args.c.now c.loop-i.c c.loop-i.i all c.loop-i.invariant
