use Rattle.std.proofs.Common.{◌≤◌, ◌+◌, subst}
use Rattle.call_floor.specs.Floor.{units}
use Rattle.call_floor.specs.FloorLines.{ends}
use Rattle.call_floor.specs.Tagged.{FloorGrew}
use Rattle.call_floor.specs.inner.FloorAt.{CameNow, FloorNow, passes_of}
use Rattle.call_floor.proofs.Stepping.{ticked}
use Rattle.call_floor.proofs.floor.Floor.tick_line.Goals as goal

pub returns-clause-step : goal.returns-clause-step
returns-clause-step g c =
    λ w h kept.
    let old = record (c.args.self.now) { live = c.prune.new.live } in
    let at : FloorNow old w = record { tick = h.tick; are = h.are; drawn = h.drawn; last = h.last; live = c.prune.ensures w h.are h.live } in
    let Grew = FloorGrew g.H.FloorListener.grew c.args.to.now c.elapses.new.to in
    let Partly = FloorGrew g.H.FloorListener.partly c.args.to.now c.elapses.new.to in
    subst (λ n. CameNow Grew Partly c.elapses.result c.elapses.new.self (units n w)) c.number.ensures.value
    (ticked Grew Partly c.elapses.result c.number.result w old c.elapses.new.self at kept c.elapses.ensures.same c.elapses.ensures.tick (c.elapses.ensures.step w at.are at.tick kept at.live))

pub returns-clause-passes : goal.returns-clause-passes
returns-clause-passes g c =
    λ w h kept.
    subst (λ n. c.elapses.new.moments ≤ c.args.moments.now + (passes_of (units n w) + ends w.stands)) c.number.ensures.value
    (c.elapses.ensures.passes w h.are h.tick kept (c.prune.ensures w h.are h.live))
