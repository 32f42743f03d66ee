use Rattle.std.proofs.Common.{[], ◌∷◌, ◌++◌, map, subst, List, ℕ, sym, ap, ◌∙◌, append_assoc, arith}
use Rattle.std.proofs.lemmas.List.{append-nil}
use Rattle.std.proofs.lemmas.Result.{err_from_is_err_and}
use Rattle.call_io.specs.Bytes.{GrewPartly}
use Rattle.msd_values.specs.inner.Groups.{part_text}
use Rattle.msd_values.proofs.AdditionFacts.{octets_at, member_texts}
use Rattle.msd_values.proofs.PassedFacts.{Passed-more, Passed-fails_at, Passed-text}
use Rattle.msd_values.proofs.additions.write_present.Goals as goal

pub returns-in_err-settle-clause-passes : goal.returns-in_err-settle-clause-passes
returns-in_err-settle-clause-passes g c =
    let p = err_from_is_err_and c.from_residual.result c.from_residual.ensures.1 in
    let all = c.loop-index.yielded ++ c.loop-index.index-iterator in
    rw p.1 (subst (λ (text : List ℕ). GrewPartly (g.O.Sink.held c.args.out.now) (g.O.Sink.held c.settle.new.out) (c.args.page.now.items ++ text))
    (member_texts all _ c.loop-index.invariant.split)
    (Passed-fails_at part_text c.loop-index.yielded c.loop-index.index-iterator all (λ _. all) c.loop-index.invariant.passed c.in_err-settle.ensures.passes))

pub returns-clause-passes : goal.returns-clause-passes
returns-clause-passes g c =
    let all = c.loop-index.yielded in
    Passed-text
    (member_texts all _ (
    ap (map octets_at) (sym (append-nil all))
    ∙ ap (λ rest. map octets_at (all ++ rest)) (sym c.in-None.ensures.steps.0)
    ∙ c.loop-index.invariant.split
    ))
    c.loop-index.invariant.passed

pub loop-index-preserved : goal.loop-index-preserved
loop-index-preserved g c = record {
  can = tt;
  ends = tt;
  split =
      ap (map octets_at) (
      append_assoc c.loop-index.yielded ((c.in-Some.index, c.in-Some.octets) ∷ []) c.next.new.self
      ∙ ap (λ rest. c.loop-index.yielded ++ rest) (sym c.in-Some.ensures.steps)
      )
      ∙ c.loop-index.invariant.split;
  passed = Passed-more part_text c.loop-index.yielded (c.in-Some.index, c.in-Some.octets) c.loop-index.invariant.passed c.in_ok-settle.ensures.passes c.put_addition.ensures.items;
  room = omega (arith, c.in_ok-settle.ensures.room);
  stood = c.in_ok-settle.ensures.stood ∙ c.loop-index.invariant.stood;
  onward = (c.settle.ensures.onward.0 ∙ c.loop-index.invariant.onward.0, omega arith);
}
