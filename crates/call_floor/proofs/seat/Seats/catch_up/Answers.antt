use Rattle.std.proofs.Common.{◌≡◌, ◌<◌, ◌≤◌, ◌+◌, suc, length, set, take, refl, sym, subst, arith}
use Rattle.call_floor.specs.FloorLines.{ends}
use Rattle.call_floor.specs.inner.FloorAt.{Resting}
use Rattle.call_floor.proofs.Caught.{IsCaught, RestAt, caught_all, change_at, rest_at}
use Rattle.call_floor.proofs.LoopFronts.{same_length}
use Rattle.call_floor.proofs.Loops.{taken_all}
use Rattle.call_floor.proofs.Paired.{Changed, change_all, change_length, change_more}
use Rattle.call_floor.proofs.seat.Seats.catch_up.Goals as goal

pub loop-place-init : goal.loop-place-init
loop-place-init g c = record { changed = refl; count = refl; passes = λ floor w h now small. omega arith }

pub loop-place-preserved : goal.loop-place-preserved
loop-place-preserved g c =
    let xs = c.args.self.now.list.items in
    let ys = c.loop-place.self.list.items in
    let i = c.loop-place.place in
    let tick = c.args.tick in
    let x = c.index_mut.result.now in
    let y = c.catch_one.new.seat in
    let low : i < length ys = omega (arith, c.loop-place-test.true, c.len-place-end.ensures, c.loop-place.invariant.count) in
    let more = change_more (IsCaught tick) i xs ys x y c.loop-place.invariant.changed low c.index_mut.ensures.value (c.catch_one.ensures.number, c.catch_one.ensures.stands) in
    let same : i + 1 ≡ suc i = omega arith in
    record {
      changed = subst (λ n. Changed (IsCaught tick) n xs (set ys i y)) (sym same) more;
      count = change_length (IsCaught tick) (suc i) xs (set ys i y) more;
      passes =
          λ floor w h now small.
          let inside : i < length xs = omega (arith, low, c.loop-place.invariant.count) in
          let it : RestAt floor w w.stands i x = rest_at floor w xs w.stands i x h.seats inside (change_at (IsCaught tick) i xs ys x c.loop-place.invariant.changed c.index_mut.ensures.value) in
          let so_far = c.loop-place.invariant.passes floor w h now small in
          let one = c.catch_one.ensures.passes floor _ it.rests now small in
          subst (λ n. c.catch_one.new.moments ≤ c.args.moments.now + ends (take n w.stands)) (sym same) (omega (arith, so_far, one, it.more));
    }

pub returns-clause-stands : goal.returns-clause-stands
returns-clause-stands g c =
    λ floor w h now.
    let ys = c.loop-place.self.list.items in
    let past : length ys ≤ c.loop-place.place = omega (arith, c.loop-place-test.false, c.len-place-end.ensures, c.loop-place.invariant.count) in
    caught_all floor c.args.tick c.args.self.now.list.items ys w now (change_all (IsCaught c.args.tick) c.loop-place.place c.args.self.now.list.items ys past c.loop-place.invariant.changed) h

pub returns-clause-passes : goal.returns-clause-passes
returns-clause-passes g c =
    λ floor w h now small.
    let seats = same_length (Resting floor) w c.args.self.now.list.items w.stands h.seats in
    let over : length w.stands ≤ c.loop-place.place = omega (arith, c.loop-place-test.false, c.len-place-end.ensures, seats) in
    subst (λ ss. c.loop-place.moments ≤ c.args.moments.now + ends ss) (taken_all w.stands c.loop-place.place over) (c.loop-place.invariant.passes floor w h now small)
