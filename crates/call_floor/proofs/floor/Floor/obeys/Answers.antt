use Rattle.std.proofs.Common.{rules, ◌≡◌, sym, subst}
use Rattle.call_floor.specs.declared.event.FloorEvent.{FloorEvent}
use Rattle.call_floor.specs.declared.event.FloorEvent.TheVariants as line
use Rattle.call_floor.specs.Floor.{FloorStep}
use Rattle.call_floor.specs.FloorLines.{floor_step}
use Rattle.call_floor.specs.Tagged.{FloorGrew}
use Rattle.call_floor.specs.inner.FloorAt.{CameNow}
use Rattle.call_floor.proofs.Stepping.{flow_is}
use Rattle.call_floor.proofs.floor.Floor.obeys.Goals as goal

pub returns-in-Flow-clause-step : goal.returns-in-Flow-clause-step
returns-in-Flow-clause-step g c =
    λ w h kept.
    let is : c.args.event.now ≡ line.Flow c.in-Flow.up c.in-Flow.delay = search rules in
    let Grew = FloorGrew g.H.FloorListener.grew c.args.to.now c.set_flow.new.to in
    let Partly = FloorGrew g.H.FloorListener.partly c.args.to.now c.set_flow.new.to in
    subst (λ (e : FloorEvent). CameNow Grew Partly c.set_flow.result c.set_flow.new.self (floor_step w e)) (sym is)
    (subst (λ (s : FloorStep). CameNow Grew Partly c.set_flow.result c.set_flow.new.self s) (flow_is c.in-Flow.up c.in-Flow.delay w)
    (c.set_flow.ensures.step w h))
