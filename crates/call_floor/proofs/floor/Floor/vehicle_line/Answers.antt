use Rattle.std.proofs.Common.{◌≡◌, ◌≢◌, None, IfSome, slice_get, refl, sym, subst}
use Rattle.std.specs.List.{AllByRecursion}
use Rattle.trace_model.specs.declared.event.Event.{Event}
use Rattle.channel_sim.specs.Lines.{step}
use Rattle.call_floor.specs.Floor.{FloorStep, turn, stand_of}
use Rattle.call_floor.specs.FloorEvents.{vehicle_event}
use Rattle.call_floor.specs.Tagged.{FloorGrew}
use Rattle.call_floor.specs.inner.FloorAt.{CameNow, FloorNow, IsSeat, Now}
use Rattle.call_floor.specs.inner.Subjects.{IsTurn, subject}
use Rattle.call_floor.proofs.EventApart.{vehicle_turn}
use Rattle.call_floor.proofs.FoundSeat.{is_seat, no_seat, nobody}
use Rattle.call_floor.proofs.floor.Floor.vehicle_line.Goals as goal

pub line-requires-clause-turn : goal.line-requires-clause-turn
line-requires-clause-turn g c = subst (λ e. IsTurn (subject e)) (sym c.alone_event.ensures) (vehicle_turn c.args.line.now)

pub returns-in-Some-clause-step : goal.returns-in-Some-clause-step
returns-in-Some-clause-step g c =
    λ w h.
    let v = c.args.vehicle in
    let is : IsSeat w c.in-Some.place v = is_seat Now w c.args.self.now.seats.list.items w.stands c.in-Some.place v h.are.seats (subst (λ n. IfSome (slice_get c.args.self.now.seats.list.items c.in-Some.place) (λ x. x.number ≡ n)) c.number.ensures.value c.in-Some.ensures.some) c.in-Some.ensures.within in
    subst (λ (e : Event). CameNow (FloorGrew g.H.FloorListener.grew c.args.to.now c.line.new.to) (FloorGrew g.H.FloorListener.partly c.args.to.now c.line.new.to) c.line.result c.line.new.self (turn v (λ u. step u e) w)) c.alone_event.ensures
    (c.line.ensures.step w v h is)

pub returns-in-Some-clause-passes : goal.returns-in-Some-clause-passes
returns-in-Some-clause-passes g c =
    λ w h.
    let v = c.args.vehicle in
    let is : IsSeat w c.in-Some.place v = is_seat Now w c.args.self.now.seats.list.items w.stands c.in-Some.place v h.are.seats (subst (λ n. IfSome (slice_get c.args.self.now.seats.list.items c.in-Some.place) (λ x. x.number ≡ n)) c.number.ensures.value c.in-Some.ensures.some) c.in-Some.ensures.within in
    c.line.ensures.passes w v h is

pub returns-in-None-clause-step : goal.returns-in-None-clause-step
returns-in-None-clause-step g c =
    λ w h.
    let v = c.args.vehicle in
    let none : stand_of v w.stands ≡ None = no_seat Now w c.args.self.now.seats.list.items w.stands v h.are.seats (subst (λ n. AllByRecursion (λ x. x.number ≢ n) c.args.self.now.seats.list.items) c.number.ensures.value (c.in-None.ensures.none refl)) in
    subst (λ (s : FloorStep). FloorGrew g.H.FloorListener.grew c.args.to.now c.args.to.now s.entries × FloorNow c.args.self.now s.floor) (sym (nobody v (λ u. step u (vehicle_event c.args.line.now)) w none))
    ((refl, g.met.H.FloorListener.unchanged _), h)
