use Rattle.std.proofs.Common.{◌≡◌, ◌<◌, ◌≤◌, ◌-◌, ℕ, Option, Some, None, length, suc, refl, ap, sym, ◌∙◌, subst, arith}
use Rattle.trace_model.specs.declared.event.Event.{Event}
use Rattle.channel_sim.specs.Lines.{step}
use Rattle.channel_sim.specs.WorldStands.{NeedsCall}
use Rattle.call_floor.specs.Floor.{FloorStep, turn, stand_of}
use Rattle.call_floor.specs.FloorEvents.{call_event}
use Rattle.call_floor.specs.FloorLines.{drawn_for, in_call}
use Rattle.call_floor.specs.Tagged.{FloorGrew}
use Rattle.call_floor.specs.inner.FloorAt.{CameNow, FloorNow, IsSeat, Now}
use Rattle.call_floor.specs.inner.Subjects.{IsTurn, subject}
use Rattle.call_floor.proofs.FoundSeat.{call_needs, call_turn, is_seat, no_seat, nobody, not_drawn, was_drawn}
use Rattle.call_floor.proofs.floor.Floor.call_line.Goals as goal

pub line-requires-clause-turn : goal.line-requires-clause-turn
line-requires-clause-turn g c = subst (λ e. IsTurn (subject e)) (sym c.named_event.ensures) (call_turn c.args.call c.args.line.now)

pub line-requires-clause-calls : goal.line-requires-clause-calls
line-requires-clause-calls g c = λ needs. absurd (call_needs c.args.call c.args.line.now (subst NeedsCall c.named_event.ensures needs))

pub returns-then-index-len-clause-step : goal.returns-then-index-len-clause-step
returns-then-index-len-clause-step g c =
    λ w h.
    let ds = c.args.self.now.drawn.items in
    let i = c.number.result - 1 in
    let is : c.args.call ≡ suc i = omega (arith, c.number.ensures.value, c.number.ensures.low) in
    let past : length ds ≤ i = omega (arith, c.if-index-len.true, c.len.ensures) in
    let none : drawn_for c.args.call w.drawn ≡ None = ap (drawn_for c.args.call) h.drawn ∙ not_drawn c.args.call i ds is past in
    subst (λ (o : Option ℕ). CameNow (FloorGrew g.H.FloorListener.grew c.args.to.now c.tell_nothing.new.to) (FloorGrew g.H.FloorListener.partly c.args.to.now c.tell_nothing.new.to) c.tell_nothing.result c.args.self.now (in_call (call_event c.args.call c.args.line.now) w o)) (sym none)
    (c.tell_nothing.ensures.step w h)

pub returns-in-Some-clause-step : goal.returns-in-Some-clause-step
returns-in-Some-clause-step g c =
    λ w h.
    let ds = c.args.self.now.drawn.items in
    let i = c.number.result - 1 in
    let v = c.index.result.now in
    let is : c.args.call ≡ suc i = omega (arith, c.number.ensures.value, c.number.ensures.low) in
    let low : i < length ds = omega (arith, c.if-index-len.false, c.len.ensures) in
    let its : drawn_for c.args.call w.drawn ≡ Some v = ap (drawn_for c.args.call) h.drawn ∙ was_drawn c.args.call i v ds is low c.index.ensures in
    let seat : IsSeat w c.in-Some.place v = is_seat Now w c.args.self.now.seats.list.items w.stands c.in-Some.place v h.are.seats c.in-Some.ensures.some c.in-Some.ensures.within in
    let Grew = FloorGrew g.H.FloorListener.grew c.args.to.now c.line.new.to in
    let Partly = FloorGrew g.H.FloorListener.partly c.args.to.now c.line.new.to in
    subst (λ (o : Option ℕ). CameNow Grew Partly c.line.result c.line.new.self (in_call (call_event c.args.call c.args.line.now) w o)) (sym its)
    (subst (λ (e : Event). CameNow Grew Partly c.line.result c.line.new.self (turn v (λ u. step u e) w)) c.named_event.ensures
    (c.line.ensures.step w v h seat))

pub returns-in-Some-clause-passes : goal.returns-in-Some-clause-passes
returns-in-Some-clause-passes g c =
    λ w h.
    let v = c.index.result.now in
    c.line.ensures.passes w v h (is_seat Now w c.args.self.now.seats.list.items w.stands c.in-Some.place v h.are.seats c.in-Some.ensures.some c.in-Some.ensures.within)

pub returns-in-None-clause-step : goal.returns-in-None-clause-step
returns-in-None-clause-step g c =
    λ w h.
    let ds = c.args.self.now.drawn.items in
    let i = c.number.result - 1 in
    let v = c.index.result.now in
    let e : Event = call_event c.args.call c.args.line.now in
    let is : c.args.call ≡ suc i = omega (arith, c.number.ensures.value, c.number.ensures.low) in
    let low : i < length ds = omega (arith, c.if-index-len.false, c.len.ensures) in
    let its : drawn_for c.args.call w.drawn ≡ Some v = ap (drawn_for c.args.call) h.drawn ∙ was_drawn c.args.call i v ds is low c.index.ensures in
    let away : stand_of v w.stands ≡ None = no_seat Now w c.args.self.now.seats.list.items w.stands v h.are.seats (c.in-None.ensures.none refl) in
    let same = ap (in_call e w) its ∙ nobody v (λ u. step u e) w away in
    subst (λ (s : FloorStep). FloorGrew g.H.FloorListener.grew c.args.to.now c.args.to.now s.entries × FloorNow c.args.self.now s.floor) (sym same)
    ((refl, g.met.H.FloorListener.unchanged _), h)
