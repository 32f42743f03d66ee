use Rattle.std.proofs.Common.{◌≡◌, ◌<◌, ◌≤◌, ◌+◌, suc, length, set, refl, sym, subst, arith}
use Rattle.call_floor.specs.inner.Changes.{IsWoken}
use Rattle.call_floor.proofs.Paired.{Changed, change_all, change_length, change_more}
use Rattle.call_floor.proofs.seat.Seats.wake.Goals as goal

pub loop-place-init : goal.loop-place-init
loop-place-init c = record { changed = refl; count = refl }

pub loop-place-preserved : goal.loop-place-preserved
loop-place-preserved c =
    let xs = c.args.self.now.list.items in
    let ys = c.loop-place.self.list.items in
    let i = c.loop-place.place in
    let y = c.wake_one.new.seat in
    let low : i < length ys = omega (arith, c.loop-place-test.true, c.len-place-end.ensures, c.loop-place.invariant.count) in
    let more = change_more (IsWoken c.args.tick) i xs ys c.index_mut.result.now y c.loop-place.invariant.changed low c.index_mut.ensures.value c.wake_one.ensures in
    let same : i + 1 ≡ suc i = omega arith in
    record {
      changed = subst (λ n. Changed (IsWoken c.args.tick) n xs (set ys i y)) (sym same) more;
      count = change_length (IsWoken c.args.tick) (suc i) xs (set ys i y) more;
    }

pub returns : goal.returns
returns c =
    let ys = c.loop-place.self.list.items in
    let past : length ys ≤ c.loop-place.place = omega (arith, c.loop-place-test.false, c.len-place-end.ensures, c.loop-place.invariant.count) in
    change_all (IsWoken c.args.tick) c.loop-place.place c.args.self.now.list.items ys past c.loop-place.invariant.changed
