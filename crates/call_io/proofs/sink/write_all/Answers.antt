use Rattle.std.proofs.Common.{◌∙◌, arith}
use Rattle.std.proofs.lemmas.Result.{err_from_is_err_and}
use Rattle.call_io.proofs.BytesLemmas.{Grew-take, GrewPartly-take}
use Rattle.call_io.proofs.sink.write_all.Goals as goal

pub returns-in_err-done-clause-partly : goal.returns-in_err-done-clause-partly
returns-in_err-done-clause-partly g c =
    let p = err_from_is_err_and c.from_residual.result c.from_residual.ensures.1 in
    rw p.1 (GrewPartly-take _ _ _ c.args.piece.now c.loop-done.done c.loop-done.invariant.1 c.in_err-done.ensures.kept)

pub loop-done-preserved : goal.loop-done-preserved
loop-done-preserved g c =
    let more = Grew-take _ _ _ c.args.piece.now c.loop-done.done c.in_ok-done.field-0 c.loop-done.invariant.0 c.in_ok-done.ensures.bound c.loop-done.invariant.1 c.in_ok-done.ensures.bytes in
    (more.0, more.1, c.in_ok-done.ensures.stood ∙ c.loop-done.invariant.2, (c.in_ok-done.ensures.onward.0 ∙ c.loop-done.invariant.3.0, omega arith))
