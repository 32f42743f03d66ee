use Rattle.std.proofs.Common.{refl, ap, ◌∙◌, arith}
use Rattle.std.proofs.lemmas.Result.{err_from_is_err_and}
use Rattle.channel_sim.specs.Lines.{step}
use Rattle.channel_sim.specs.WorldStands.{WorldStandsFor}
use Rattle.call_floor.specs.declared.floor.Floor as kept_floor
use Rattle.call_floor.specs.Floor.{own}
use Rattle.call_floor.specs.inner.FloorAt.{Now}
use Rattle.call_floor.proofs.LineTurn.{line_drew, line_none, line_passes, line_stands}
use Rattle.call_floor.proofs.SeatTurn.{SeatHere, seat_here, turn_told_at}
use Rattle.call_floor.proofs.floor.Floor.line.Goals as goal

pub returns-else-now-last-clause-step : goal.returns-else-now-last-clause-step
returns-else-now-last-clause-step g c =
    λ w v h is_v.
    let kept = c.args.self.now in
    let e = c.args.event.now in
    let x = c.index_mut-seat.result.now in
    let at = c.index_mut-seat.ensures.value in
    let low = c.requires.place in
    let here : SeatHere Now w v x = seat_here Now kept.seats.list.items w v c.args.place x h.are is_v low at in
    let stands : WorldStandsFor c.draw_on.new.self (own w here.stand) = line_stands e c.requires.turn kept w v c.args.place x h low at is_v here c.draw_on.new.self c.draw_on.ensures.stands in
    let did = c.in_ok-advance.ensures.step (own w here.stand) stands in
    let count = c.calls-now.ensures.calls (step (own w here.stand) e).world did.1 in (
      turn_told_at g.H.FloorListener.grew Now w v x here (λ u. step u e) c.args.to.now c.speak_for.new.self c.advance.new.to c.speak_for.ensures did.0,
      line_none e c.requires.turn kept w v c.args.place x h low at is_v here c.advance.new.self c.calls-now.result _ did.1 count (omega (arith, c.if-now-last.false)) refl refl refl refl refl,
    )

pub returns-in_ok-add_live-clause-step : goal.returns-in_ok-add_live-clause-step
returns-in_ok-add_live-clause-step g c =
    λ w v h is_v.
    let kept = c.args.self.now in
    let e = c.args.event.now in
    let x = c.index_mut-seat.result.now in
    let at = c.index_mut-seat.ensures.value in
    let low = c.requires.place in
    let here : SeatHere Now w v x = seat_here Now kept.seats.list.items w v c.args.place x h.are is_v low at in
    let stands : WorldStandsFor c.draw_on.new.self (own w here.stand) = line_stands e c.requires.turn kept w v c.args.place x h low at is_v here c.draw_on.new.self c.draw_on.ensures.stands in
    let did = c.in_ok-advance.ensures.step (own w here.stand) stands in
    let count = c.calls-now.ensures.calls (step (own w here.stand) e).world did.1 in
    let same = c.draw_on-then-now-last.ensures.same in (
      turn_told_at g.H.FloorListener.grew Now w v x here (λ u. step u e) c.args.to.now c.speak_for.new.self c.advance.new.to c.speak_for.ensures did.0,
      line_drew e c.requires.turn kept w v c.args.place x h low at is_v here c.advance.new.self c.calls-now.result c.draw_on-then-now-last.new.self did.1 count (omega (arith, c.if-now-last.true))
          (ap (λ (z : kept_floor.Floor). z.tick) same)
          (ap (λ (z : kept_floor.Floor). z.last) same)
          (ap (λ (z : kept_floor.Floor). z.drawn.items) same ∙ c.in_ok-add_number.ensures)
          (ap (λ (z : kept_floor.Floor). z.live.items) same ∙ c.in_ok-add_live.ensures)
          c.draw_on-then-now-last.ensures.drawn,
    )

pub returns-in_err-add_number-clause-step : goal.returns-in_err-add_number-clause-step
returns-in_err-add_number-clause-step g c =
    λ w v h is_v.
    let failed = err_from_is_err_and c.from_residual-in_err-add_number.result c.from_residual-in_err-add_number.ensures.1 in
    let kept = c.args.self.now in
    let e = c.args.event.now in
    let x = c.index_mut-seat.result.now in
    let at = c.index_mut-seat.ensures.value in
    let low = c.requires.place in
    let here : SeatHere Now w v x = seat_here Now kept.seats.list.items w v c.args.place x h.are is_v low at in
    let stands : WorldStandsFor c.draw_on.new.self (own w here.stand) = line_stands e c.requires.turn kept w v c.args.place x h low at is_v here c.draw_on.new.self c.draw_on.ensures.stands in
    let did = c.in_ok-advance.ensures.step (own w here.stand) stands in
    let told = turn_told_at g.H.FloorListener.grew Now w v x here (λ u. step u e) c.args.to.now c.speak_for.new.self c.advance.new.to c.speak_for.ensures did.0 in
    rw failed.1 (told.0, g.met.H.FloorListener.whole _ _ _ told.1)

pub returns-in_err-add_live-clause-step : goal.returns-in_err-add_live-clause-step
returns-in_err-add_live-clause-step g c =
    λ w v h is_v.
    let failed = err_from_is_err_and c.from_residual-in_err-add_live.result c.from_residual-in_err-add_live.ensures.1 in
    let kept = c.args.self.now in
    let e = c.args.event.now in
    let x = c.index_mut-seat.result.now in
    let at = c.index_mut-seat.ensures.value in
    let low = c.requires.place in
    let here : SeatHere Now w v x = seat_here Now kept.seats.list.items w v c.args.place x h.are is_v low at in
    let stands : WorldStandsFor c.draw_on.new.self (own w here.stand) = line_stands e c.requires.turn kept w v c.args.place x h low at is_v here c.draw_on.new.self c.draw_on.ensures.stands in
    let did = c.in_ok-advance.ensures.step (own w here.stand) stands in
    let told = turn_told_at g.H.FloorListener.grew Now w v x here (λ u. step u e) c.args.to.now c.speak_for.new.self c.advance.new.to c.speak_for.ensures did.0 in
    rw failed.1 (told.0, g.met.H.FloorListener.whole _ _ _ told.1)

pub returns-in_err-advance-clause-step : goal.returns-in_err-advance-clause-step
returns-in_err-advance-clause-step g c =
    λ w v h is_v.
    let failed = err_from_is_err_and c.from_residual.result c.from_residual.ensures.1 in
    let kept = c.args.self.now in
    let e = c.args.event.now in
    let x = c.index_mut-seat.result.now in
    let at = c.index_mut-seat.ensures.value in
    let low = c.requires.place in
    let here : SeatHere Now w v x = seat_here Now kept.seats.list.items w v c.args.place x h.are is_v low at in
    let stands : WorldStandsFor c.draw_on.new.self (own w here.stand) = line_stands e c.requires.turn kept w v c.args.place x h low at is_v here c.draw_on.new.self c.draw_on.ensures.stands in
    let part = c.in_err-advance.ensures.step (own w here.stand) stands in
    rw failed.1 (turn_told_at g.H.FloorListener.partly Now w v x here (λ u. step u e) c.args.to.now c.speak_for.new.self c.advance.new.to c.speak_for.ensures part)

pub returns-in_err-advance-clause-passes : goal.returns-in_err-advance-clause-passes
returns-in_err-advance-clause-passes g c =
    λ w v h is_v.
    let kept = c.args.self.now in
    let e = c.args.event.now in
    let x = c.index_mut-seat.result.now in
    let at = c.index_mut-seat.ensures.value in
    let low = c.requires.place in
    let here : SeatHere Now w v x = seat_here Now kept.seats.list.items w v c.args.place x h.are is_v low at in
    let stands : WorldStandsFor c.draw_on.new.self (own w here.stand) = line_stands e c.requires.turn kept w v c.args.place x h low at is_v here c.draw_on.new.self c.draw_on.ensures.stands in
    let few = c.advance.ensures.passes (own w here.stand) stands in
    let none = line_passes e c.requires.turn (own w here.stand) in
    omega (arith, few, none)

pub returns-in_err-add_number-clause-passes : goal.returns-in_err-add_number-clause-passes
returns-in_err-add_number-clause-passes g c =
    λ w v h is_v.
    let kept = c.args.self.now in
    let e = c.args.event.now in
    let x = c.index_mut-seat.result.now in
    let at = c.index_mut-seat.ensures.value in
    let low = c.requires.place in
    let here : SeatHere Now w v x = seat_here Now kept.seats.list.items w v c.args.place x h.are is_v low at in
    let stands : WorldStandsFor c.draw_on.new.self (own w here.stand) = line_stands e c.requires.turn kept w v c.args.place x h low at is_v here c.draw_on.new.self c.draw_on.ensures.stands in
    let few = c.advance.ensures.passes (own w here.stand) stands in
    let none = line_passes e c.requires.turn (own w here.stand) in
    omega (arith, few, none)

pub returns-in_err-add_live-clause-passes : goal.returns-in_err-add_live-clause-passes
returns-in_err-add_live-clause-passes g c =
    λ w v h is_v.
    let kept = c.args.self.now in
    let e = c.args.event.now in
    let x = c.index_mut-seat.result.now in
    let at = c.index_mut-seat.ensures.value in
    let low = c.requires.place in
    let here : SeatHere Now w v x = seat_here Now kept.seats.list.items w v c.args.place x h.are is_v low at in
    let stands : WorldStandsFor c.draw_on.new.self (own w here.stand) = line_stands e c.requires.turn kept w v c.args.place x h low at is_v here c.draw_on.new.self c.draw_on.ensures.stands in
    let few = c.advance.ensures.passes (own w here.stand) stands in
    let none = line_passes e c.requires.turn (own w here.stand) in
    omega (arith, few, none)

pub returns-in_ok-add_live-clause-passes : goal.returns-in_ok-add_live-clause-passes
returns-in_ok-add_live-clause-passes g c =
    λ w v h is_v.
    let kept = c.args.self.now in
    let e = c.args.event.now in
    let x = c.index_mut-seat.result.now in
    let at = c.index_mut-seat.ensures.value in
    let low = c.requires.place in
    let here : SeatHere Now w v x = seat_here Now kept.seats.list.items w v c.args.place x h.are is_v low at in
    let stands : WorldStandsFor c.draw_on.new.self (own w here.stand) = line_stands e c.requires.turn kept w v c.args.place x h low at is_v here c.draw_on.new.self c.draw_on.ensures.stands in
    let few = c.advance.ensures.passes (own w here.stand) stands in
    let none = line_passes e c.requires.turn (own w here.stand) in
    omega (arith, few, none)

pub returns-else-now-last-clause-passes : goal.returns-else-now-last-clause-passes
returns-else-now-last-clause-passes g c =
    λ w v h is_v.
    let kept = c.args.self.now in
    let e = c.args.event.now in
    let x = c.index_mut-seat.result.now in
    let at = c.index_mut-seat.ensures.value in
    let low = c.requires.place in
    let here : SeatHere Now w v x = seat_here Now kept.seats.list.items w v c.args.place x h.are is_v low at in
    let stands : WorldStandsFor c.draw_on.new.self (own w here.stand) = line_stands e c.requires.turn kept w v c.args.place x h low at is_v here c.draw_on.new.self c.draw_on.ensures.stands in
    let few = c.advance.ensures.passes (own w here.stand) stands in
    let none = line_passes e c.requires.turn (own w here.stand) in
    omega (arith, few, none)
