use Rattle.std.proofs.Common.{◌≡◌, ◌<◌, ◌≤◌, ◌++◌, length, get_or, map, take, drop, set, ap, sym, ◌∙◌, subst, arith, add-one}
use Rattle.std.specs.Vec.{with_item}
use Rattle.call_floor.specs.declared.floor.Floor as kept_floor
use Rattle.call_floor.specs.inner.FloorAt.{seat_drawn}
use Rattle.call_floor.proofs.Mapped.{changed_more, changed_all}
use Rattle.call_floor.proofs.floor.Floor.draw_on.Goals as goal

pub loop-place-preserved : goal.loop-place-preserved
loop-place-preserved c =
    let xs = c.args.self.now.seats.list.items in
    let i = c.loop-place.place in
    let x = c.index_mut.result.now in
    let f = seat_drawn c.args.last in
    let inside : i < length xs = omega (arith, c.loop-place-test.true, c.len-place-end.ensures) in
    let at = subst (λ ys. x ≡ get_or ys i x) c.loop-place.invariant.items c.index_mut.ensures.value in
    record {
      same =
          ap (λ (z : kept_floor.Floor). record z { seats = record { list = with_item c.loop-place.self.seats.list i (record x { world = c.draw_on.new.self }) } }) c.loop-place.invariant.same;
      items =
          ap (λ w. set c.loop-place.self.seats.list.items i (record x { world = w })) c.draw_on.ensures.same
          ∙ ap (λ ys. set ys i (f x)) c.loop-place.invariant.items
          ∙ changed_more f xs i x inside at
          ∙ ap (λ n. map f (take n xs) ++ drop n xs) (sym (add-one i));
    }

pub returns-clause-drawn : goal.returns-clause-drawn
returns-clause-drawn c =
    let xs = c.args.self.now.seats.list.items in
    let past : length xs ≤ c.loop-place.place = omega (arith, c.loop-place-test.false, c.len-place-end.ensures) in
    c.loop-place.invariant.items ∙ changed_all (seat_drawn c.args.last) xs c.loop-place.place past
