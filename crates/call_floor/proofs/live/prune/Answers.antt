use Rattle.std.proofs.Common.{◌≡◌, ◌<◌, ◌≤◌, ◌++◌, ◌+◌, suc, length, set, take, drop, refl, sym, ◌∙◌, subst, arith}
use Rattle.std.proofs.lemmas.List.{length-set}
use Rattle.call_floor.specs.FloorStands.{AreLive}
use Rattle.call_floor.proofs.Pruned.{all_kept, kept_one, left_out, live_less}
use Rattle.call_floor.proofs.live.prune.Goals as goal

pub loop-i-init : goal.loop-i-init
loop-i-init c = record { low = omega arith; count = refl; are = λ w h live. live }

pub loop-i-preserved-then-not-may_be_up : goal.loop-i-preserved-then-not-may_be_up
loop-i-preserved-then-not-may_be_up c =
    let xs = c.loop-i.live.items in
    let k = c.loop-i.kept in
    let i = c.loop-i.i in
    let x = c.index-one.result.now in
    let low : k ≤ i = c.loop-i.invariant.low in
    let inside : i < length xs = omega (arith, c.loop-i-test.true, c.len-i-end.ensures, c.loop-i.invariant.count) in
    record {
      low = omega (arith, low);
      count = c.loop-i.invariant.count;
      are =
          λ w h live.
          let f : i + 1 ≡ suc i = omega arith in
          subst (λ n. AreLive w.stands 1 w.drawn (take k xs ++ drop n xs)) (sym f)
          (live_less w.stands x (λ v at. c.may_be_up.ensures c.if-not-may_be_up.true w v h at) 1 w.drawn (take k xs) (drop (suc i) xs)
          (subst (AreLive w.stands 1 w.drawn) (sym (left_out xs k i x inside c.index-one.ensures)) (c.loop-i.invariant.are w h live)));
    }

pub loop-i-preserved : goal.loop-i-preserved
loop-i-preserved c =
    let xs = c.loop-i.live.items in
    let k = c.loop-i.kept in
    let i = c.loop-i.i in
    let x = c.index-one.result.now in
    let low : k ≤ i = c.loop-i.invariant.low in
    let inside : i < length xs = omega (arith, c.loop-i-test.true, c.len-i-end.ensures, c.loop-i.invariant.count) in
    record {
      low = omega (arith, low);
      count = length-set xs k x ∙ c.loop-i.invariant.count;
      are =
          λ w h live.
          let e : k + 1 ≡ suc k = omega arith in
          let f : i + 1 ≡ suc i = omega arith in
          subst (λ n. AreLive w.stands 1 w.drawn (take n (set xs k x) ++ drop (i + 1) (set xs k x))) (sym e)
          (subst (λ n. AreLive w.stands 1 w.drawn (take (suc k) (set xs k x) ++ drop n (set xs k x))) (sym f)
          (subst (AreLive w.stands 1 w.drawn) (sym (kept_one xs k i x low inside c.index-one.ensures)) (c.loop-i.invariant.are w h live)));
    }

pub returns : goal.returns
returns c =
    λ w h live.
    let xs = c.loop-i.live.items in
    let past : length xs ≤ c.loop-i.i = omega (arith, c.loop-i-test.false, c.len-i-end.ensures, c.loop-i.invariant.count) in
    subst (AreLive w.stands 1 w.drawn) (all_kept xs c.loop-i.kept c.loop-i.i past ∙ sym c.truncate.ensures.items) (c.loop-i.invariant.are w h live)
