use Rattle.std.proofs.Common.{◌≡◌, ◌≤◌, ◌-◌, ◌+◌, ◌++◌, ◌∷◌, [], inl, inr, suc, length, replicate, refl, ap, sym, ◌∙◌, arith, append_assoc, append-nil}
use Rattle.call_floor.proofs.ListedDue.{replicate_more, replicate_end}
use Rattle.call_floor.proofs.phases.own_all.Goals as goal

pub loop-init : goal.loop-init
loop-init c =
    let zero_more : 0 ≡ c.len-from.result - c.len-from.result = omega arith in
    record {
      began = omega arith;
      within = inl refl;
      owned = sym (append-nil c.args.owners.now.items) ∙ ap (λ n. c.args.owners.now.items ++ replicate n c.args.place) zero_more;
    }

pub loop-preserved : goal.loop-preserved
loop-preserved c =
    let k = c.loop.counter in
    let from = c.len-from.result in
    let p = c.args.place in
    let began : from ≤ k = c.loop.invariant.began in
    let same : suc (k - from) ≡ k + 1 - from = omega (arith, began) in
    record {
      began = omega (arith, began);
      within = inr (omega (arith, c.loop-test.true));
      owned =
          c.in_ok-push.ensures.items
          ∙ ap (λ l. l ++ p ∷ []) c.loop.invariant.owned
          ∙ append_assoc c.args.owners.now.items (replicate (k - from) p) (p ∷ [])
          ∙ ap (λ l. c.args.owners.now.items ++ l) (sym (replicate_more (k - from) p) ∙ ap (λ n. replicate n p) same);
    }

pub returns : goal.returns
returns c =
    let same : c.len-from.result ≡ length c.args.owners.now.items = omega (arith, c.len-from.ensures) in
    c.loop.invariant.owned
    ∙ ap (λ n. c.args.owners.now.items ++ replicate n c.args.place) (replicate_end c.loop.counter c.len-from.result c.args.count (length c.args.owners.now.items) c.loop-test.false c.loop.invariant.within same)
