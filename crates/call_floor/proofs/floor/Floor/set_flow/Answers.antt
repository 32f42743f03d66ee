use Rattle.std.proofs.Common.{◌≡◌, ◌<◌, ◌≤◌, ◌+◌, ◌∙◌, suc, length, set, refl, ap, sym, subst, arith}
use Rattle.std.proofs.lemmas.Result.{err_from_is_err_and}
use Rattle.std.specs.Vec.{with_item}
use Rattle.call_floor.specs.declared.floor.Floor as kept_floor
use Rattle.call_floor.specs.Floor.{own}
use Rattle.call_floor.specs.Tagged.{FloorGrew}
use Rattle.call_floor.specs.inner.FloorAt.{Now}
use Rattle.call_floor.proofs.Caught.{change_at}
use Rattle.call_floor.proofs.FlowSet.{IsFlowed, flow_draws, flow_elapses, flow_grew, flow_now, flow_passes, flow_told}
use Rattle.call_floor.proofs.Paired.{Changed, change_all, change_length, change_more}
use Rattle.call_floor.proofs.SeatTurn.{SeatFound, seat_found}
use Rattle.call_floor.proofs.floor.Floor.set_flow.Goals as goal

pub advance-requires-clause-calls : goal.advance-requires-clause-calls
advance-requires-clause-calls g c = λ needs. absurd (flow_draws c.args.event.now c.requires needs)

pub advance-requires-clause-time : goal.advance-requires-clause-time
advance-requires-clause-time g c = λ n is. absurd (flow_elapses c.args.event.now c.requires n is)

pub loop-place-init : goal.loop-place-init
loop-place-init g c =
    record {
      same = refl;
      changed = refl;
      count = refl;
      stood = refl;
      told = λ w h. (refl, g.met.H.FloorListener.unchanged _);
      passes = λ w h. omega arith;
    }

pub loop-place-preserved : goal.loop-place-preserved
loop-place-preserved g c =
    let e = c.args.event.now in
    let xs = c.args.self.now.seats.list.items in
    let ys = c.loop-place.self.seats.list.items in
    let i = c.loop-place.place in
    let x = c.index_mut.result.now in
    let y = record x { world = c.advance.new.self } in
    let low : i < length ys = omega (arith, c.loop-place-test.true, c.len-place-end.ensures, c.loop-place.invariant.count) in
    let more = change_more (IsFlowed e) i xs ys x y c.loop-place.invariant.changed low c.index_mut.ensures.value (refl, λ u stands. (c.in_ok-advance.ensures.step u stands).1) in
    let next : i + 1 ≡ suc i = omega arith in
    let at = change_at (IsFlowed e) i xs ys x c.loop-place.invariant.changed c.index_mut.ensures.value in
    let inside : i < length xs = omega (arith, low, c.loop-place.invariant.count) in
    record {
      same = ap (λ (z : kept_floor.Floor). record z { seats = record { list = with_item c.loop-place.self.seats.list i y } }) c.loop-place.invariant.same;
      changed = subst (λ n. Changed (IsFlowed e) n xs (set ys i y)) (sym next) more;
      count = change_length (IsFlowed e) (suc i) xs (set ys i y) more;
      stood = c.in_ok-advance.ensures.stood ∙ c.loop-place.invariant.stood;
      told =
          λ w h.
          let it : SeatFound Now w 0 w.stands i x = seat_found Now w 0 xs w.stands i x h.are.seats h.are.order inside at in
          let did = c.in_ok-advance.ensures.step (own w it.stand) it.at in
          let one = flow_grew g.H.FloorListener.grew e c.requires (own w it.stand) c.loop-place.to c.advance.new.to did.0 in
          let so_far = c.loop-place.invariant.told w h in
          (one.0 ∙ so_far.0, g.met.H.FloorListener.twice _ _ _ _ _ so_far.1 one.1);
      passes =
          λ w h.
          let it : SeatFound Now w 0 w.stands i x = seat_found Now w 0 xs w.stands i x h.are.seats h.are.order inside at in
          let few = c.advance.ensures.passes (own w it.stand) it.at in
          let none = flow_passes e c.requires (own w it.stand) in
          let so_far = c.loop-place.invariant.passes w h in
          omega (arith, few, none, so_far);
    }

pub returns-in_err-advance-clause-step : goal.returns-in_err-advance-clause-step
returns-in_err-advance-clause-step g c =
    λ w h.
    let failed = err_from_is_err_and c.from_residual.result c.from_residual.ensures.1 in
    let e = c.args.event.now in
    let xs = c.args.self.now.seats.list.items in
    let ys = c.loop-place.self.seats.list.items in
    let i = c.loop-place.place in
    let x = c.index_mut.result.now in
    let at = change_at (IsFlowed e) i xs ys x c.loop-place.invariant.changed c.index_mut.ensures.value in
    let inside : i < length xs = omega (arith, c.loop-place-test.true, c.len-place-end.ensures) in
    let it : SeatFound Now w 0 w.stands i x = seat_found Now w 0 xs w.stands i x h.are.seats h.are.order inside at in
    let part = c.in_err-advance.ensures.step (own w it.stand) it.at in
    let one = flow_grew g.H.FloorListener.partly e c.requires (own w it.stand) c.loop-place.to c.advance.new.to part in
    let so_far = c.loop-place.invariant.told w h in
    rw failed.1 (subst (λ es. FloorGrew g.H.FloorListener.partly c.args.to.now c.advance.new.to es) (sym (flow_told e w))
    (one.0 ∙ so_far.0, g.met.H.FloorListener.then_partly _ _ _ _ _ so_far.1 one.1))

pub returns-in_err-advance-clause-passes : goal.returns-in_err-advance-clause-passes
returns-in_err-advance-clause-passes g c =
    λ w h.
    let e = c.args.event.now in
    let xs = c.args.self.now.seats.list.items in
    let ys = c.loop-place.self.seats.list.items in
    let i = c.loop-place.place in
    let x = c.index_mut.result.now in
    let at = change_at (IsFlowed e) i xs ys x c.loop-place.invariant.changed c.index_mut.ensures.value in
    let inside : i < length xs = omega (arith, c.loop-place-test.true, c.len-place-end.ensures) in
    let it : SeatFound Now w 0 w.stands i x = seat_found Now w 0 xs w.stands i x h.are.seats h.are.order inside at in
    let few = c.advance.ensures.passes (own w it.stand) it.at in
    let none = flow_passes e c.requires (own w it.stand) in
    let so_far = c.loop-place.invariant.passes w h in
    omega (arith, few, none, so_far)

pub returns-clause-step : goal.returns-clause-step
returns-clause-step g c =
    λ w h.
    let e = c.args.event.now in
    let xs = c.args.self.now.seats.list.items in
    let ys = c.loop-place.self.seats.list.items in
    let past : length ys ≤ c.loop-place.place = omega (arith, c.loop-place-test.false, c.len-place-end.ensures, c.loop-place.invariant.count) in (
      subst (λ es. FloorGrew g.H.FloorListener.grew c.args.to.now c.loop-place.to es) (sym (flow_told e w)) (c.loop-place.invariant.told w h),
      flow_now e c.requires c.args.self.now c.loop-place.self w c.loop-place.invariant.same (change_all (IsFlowed e) c.loop-place.place xs ys past c.loop-place.invariant.changed) h,
    )
