use Rattle.std.proofs.Common.{arith}
use Rattle.std.proofs.lemmas.Result.{err_from_is_err_and}
use Rattle.tone_link.proofs.Said.{nothing_said, octet_said, unsure_here}
use Rattle.tone_link.proofs.reading.read_octet.Goals as goal

pub loop-i-init : goal.loop-i-init
loop-i-init c = nothing_said _ _ _ (omega arith)

pub returns-in_err-read_bit : goal.returns-in_err-read_bit
returns-in_err-read_bit c =
    let p = err_from_is_err_and c.from_residual.result c.from_residual.ensures.1 in
    rw (p.1, p.2)
    (unsure_here c.args.samples.now c.args.first c.loop-i.i c.loop-i.octet _ (omega arith) c.loop-i.invariant.1 (omega arith)
    c.in_err-read_bit.ensures.0 c.in_err-read_bit.ensures.1)

pub loop-i-preserved : goal.loop-i-preserved
loop-i-preserved c =
    rw c.from.ensures
    (octet_said c.args.samples.now c.args.first c.loop-i.i c.loop-i.octet c.in_ok-read_bit.field-0 (omega arith)
    c.loop-i.invariant.0 c.loop-i.invariant.1 c.in_ok-read_bit.ensures)
