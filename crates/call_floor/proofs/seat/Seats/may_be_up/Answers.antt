use Rattle.std.proofs.Common.{◌≡◌, ◌<◌, false, None, length, ap, sym, ◌∙◌, arith}
use Rattle.ivs_machine.specs.Vehicle.{vehicle_call}
use Rattle.channel_sim.specs.World.{World, call_of, session_of}
use Rattle.channel_sim.specs.WorldStands.{WorldStandsFor}
use Rattle.trace_fit.specs.Seats.{is_number}
use Rattle.call_floor.specs.Floor.{calls_at, own}
use Rattle.call_floor.specs.inner.FloorAt.{Now, numbers_of}
use Rattle.call_floor.proofs.LiveCalls.{got}
use Rattle.call_floor.proofs.Pruned.{no_leg, none_found}
use Rattle.call_floor.proofs.SeatTurn.{SeatHere, seat_here}
use Rattle.call_floor.proofs.seat.Seats.may_be_up.Goals as goal

pub returns : goal.returns
returns c =
    λ no w v h at.
    let xs = c.args.self.now.list.items in
    let i = c.args.one.place in
    let n = c.args.one.call in
    let x = c.index.result.now in
    let low : i < length xs = omega (arith, c.if-one-len.false, c.len.ensures) in
    let here : SeatHere Now w v x = seat_here Now xs w v i x h (got (numbers_of w.stands) i v at) low c.index.ensures in
    let u : World = own w here.stand in
    let stands : WorldStandsFor x.world u = here.stands in
    let outside : is_number n (vehicle_call u.vehicle) ≡ false = sym (c.is_in_call.ensures u stands) ∙ c.if-is_in_call.false in
    let none : session_of n u.calls ≡ None = none_found c.session.result (session_of n u.calls) (sym c.is_some.ensures ∙ no) (c.session.ensures u stands) in
    ap (λ o. call_of n (calls_at o)) here.found ∙ no_leg n (vehicle_call u.vehicle) u.calls stands.tidy.legs outside none
