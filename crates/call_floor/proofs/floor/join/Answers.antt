use Rattle.std.proofs.Common.{refl, sym, subst}
use Rattle.std.specs.List.{insert}
use Rattle.call_floor.specs.declared.seat.Seat as kept_seat
use Rattle.call_floor.specs.Floor.{first_stand, floor_with, joined}
use Rattle.call_floor.specs.FloorStands.{SeatStandsFor, SeatsStandFor}
use Rattle.call_floor.proofs.Joining.{joined_all}
use Rattle.call_floor.proofs.floor.join.Goals as goal

pub returns : goal.returns
returns c =
    λ stands h.
    let s = first_stand c.args.number c.args.facts in
    let more = joined s stands in
    let y : kept_seat.Seat = record { number = c.args.number; next = 0; world = c.new.result } in
    let one : SeatStandsFor (floor_with more) y s = record { number = refl; world = c.new.ensures.stands } in
    let before = c.deref.result.now in
    let same = c.deref.ensures.value in
    let place = c.place_for-place.result in
    subst (λ xs. SeatsStandFor (floor_with more) xs more) (sym c.in_ok-insert.ensures.items)
    (subst (λ xs. SeatsStandFor (floor_with more) (insert xs place y) more) same
    (joined_all stands more s y place before stands one (subst (λ xs. SeatsStandFor (floor_with stands) xs stands) (sym same) h) c.place_for-place.ensures.front c.place_for-place.ensures.next c.place_for-place.ensures.within))
