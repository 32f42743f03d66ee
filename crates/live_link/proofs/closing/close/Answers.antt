use Rattle.std.proofs.Common.{sym, subst, ◌∙◌}
use Rattle.std.specs.Prelude.{ℕ, List}
use Rattle.call_io.specs.Blocks.{held}
use Rattle.call_io.specs.Bytes.{Grew, GrewPartly}
use Rattle.call_io.proofs.BytesLemmas.{GrewPartly-whole}
use Rattle.live_link.proofs.ClosingLemmas.{of_err, of_ok}
use Rattle.live_link.proofs.closing.close.Goals as goal
use Rattle.live_link.proofs.closing.close.Goals.{then-is_err-via-then-is_err, then-is_err-via-else-is_err+then-is_err-2}

-- a front of the last line was written, or all of it and it could not be handed over
pub returns-then-is_err-clause-partly : goal.returns-then-is_err-clause-partly
returns-then-is_err-clause-partly g c =
    let old = held g.O.Sink.held c.args.trace.now in
    let new = held g.O.Sink.held c.write_all.new.out in
    let line = c.as_slice.result.now in
    let text = c.as_slice.ensures.value ∙ c.last_text-line.ensures in
    elim c.then-is_err.branch [
      | then-is_err-via-then-is_err w ↦
          rw w.trace-is
          (subst (λ (z : List ℕ). GrewPartly old new z) text
          (of_err (GrewPartly old new line) c.write_all.result (sym c.is_err.ensures.value ∙ w.if-is_err.true) c.write_all.ensures.partly))
      | then-is_err-via-else-is_err+then-is_err-2 w ↦
          rw (w.trace-is, w.empty.ensures.held)
          (subst (λ (z : List ℕ). GrewPartly old new z) text
          (GrewPartly-whole old new line
          (of_ok (Grew old new line) c.write_all.result (sym c.is_err.ensures.value ∙ w.if-is_err.false) c.write_all.ensures.ok)))
    ]
