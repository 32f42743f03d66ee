use Rattle.std.proofs.Common.{ℕ, List, Bor, ◌∙◌}
use Rattle.std.proofs.lemmas.Result.{err_from_is_err_and}
use Rattle.call_io.proofs.BlockLemmas.{Onward-append}
use Rattle.set_commands.proofs.ConformTold.{grown_more, grown_partly}
use Rattle.set_commands.proofs.conform.write_lines.Goals as goal

pub loop-index-preserved : goal.loop-index-preserved
loop-index-preserved g c = record {
  grew =
      grown_more (λ (text : Bor (List ℕ)). text.now) c.args.texts.now c.loop-index.index _ _ _ _ _
      c.loop-index-test.true c.loop-index.invariant.grew (c.as_slice.ensures.value ∙ c.line_of_vector-line.ensures)
      c.in_ok-write_all.ensures.ok;
  stood = c.in_ok-write_all.ensures.stood ∙ c.loop-index.invariant.stood;
  onward = Onward-append _ _ _ c.loop-index.invariant.onward c.in_ok-write_all.ensures.onward;
}

pub returns-in_err-write_all-clause-partly : goal.returns-in_err-write_all-clause-partly
returns-in_err-write_all-clause-partly g c =
    let failed = err_from_is_err_and c.from_residual.result c.from_residual.ensures.1 in
    rw failed.1
    (grown_partly (λ (text : Bor (List ℕ)). text.now) c.args.texts.now c.loop-index.index _ _ _ _ _
    c.loop-index-test.true c.loop-index.invariant.grew (c.as_slice.ensures.value ∙ c.line_of_vector-line.ensures)
    c.in_err-write_all.ensures.partly)
