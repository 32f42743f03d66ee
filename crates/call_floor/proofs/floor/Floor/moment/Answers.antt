use Rattle.std.proofs.Common.{◌≤◌, ◌+◌, sym, subst, arith}
use Rattle.std.proofs.lemmas.Result.{err_from_is_err_and}
use Rattle.call_floor.specs.Floor.{Floor, units}
use Rattle.call_floor.specs.FloorStands.{AreLive}
use Rattle.call_floor.specs.Tagged.{FloorGrew}
use Rattle.call_floor.specs.inner.FloorAt.{passes_of, unit_if}
use Rattle.call_floor.proofs.Elapsing.{begins, begun_ready, done, ended, few, kept_ready, told, wakes}
use Rattle.call_floor.proofs.Moment.{acts_at, planned_all}
use Rattle.call_floor.proofs.floor.Floor.moment.Goals as goal

pub returns-clause-step : goal.returns-clause-step
returns-clause-step g c =
    λ floor n w h next quiet kept live.
    let tick = c.args.tick in
    let xs = c.args.self.now.seats.list.items in
    let ls = c.deref.result.now in
    let ready = kept_ready w ls kept (subst (AreLive w.stands 1 w.drawn) (sym c.deref.ensures.value) live) in
    let acts = acts_at tick xs in
    let b : Floor = record ((units n w).floor) { tick = (units n w).floor.tick + 1 } in
    let stands = wakes floor n tick xs w ls h next quiet ready c.wake.new.self.list.items c.wake.ensures in
    let did = c.in_ok-unit.ensures.step acts floor (w.tick + n) b stands (begins floor n tick xs w ls h next quiet ready) next (begun_ready floor n tick xs w ls h next quiet ready) in (
      subst (λ es. FloorGrew g.H.FloorListener.grew c.args.to.now c.unit.new.to es) (sym (told floor n tick xs w ls h next quiet ready)) did.0,
      planned_all acts floor tick c.unit.new.self.list.items c.plan.new.self.list.items (units (n + 1) w).floor (ended floor n tick xs w ls h next quiet ready) c.plan.ensures (done floor n tick xs w ls h next quiet ready c.unit.new.self.list.items did.1),
    )

pub returns-in_err-unit-clause-step : goal.returns-in_err-unit-clause-step
returns-in_err-unit-clause-step g c =
    λ floor n w h next quiet kept live.
    let failed = err_from_is_err_and c.from_residual.result c.from_residual.ensures.1 in
    let tick = c.args.tick in
    let xs = c.args.self.now.seats.list.items in
    let ls = c.deref.result.now in
    let ready = kept_ready w ls kept (subst (AreLive w.stands 1 w.drawn) (sym c.deref.ensures.value) live) in
    let acts = acts_at tick xs in
    let b : Floor = record ((units n w).floor) { tick = (units n w).floor.tick + 1 } in
    let stands = wakes floor n tick xs w ls h next quiet ready c.wake.new.self.list.items c.wake.ensures in
    let part = c.in_err-unit.ensures.step acts floor (w.tick + n) b stands (begins floor n tick xs w ls h next quiet ready) next (begun_ready floor n tick xs w ls h next quiet ready) in
    rw failed.1 (subst (λ es. FloorGrew g.H.FloorListener.partly c.args.to.now c.unit.new.to es) (sym (told floor n tick xs w ls h next quiet ready)) part)

pub returns-clause-passes : goal.returns-clause-passes
returns-clause-passes g c =
    λ floor n w h next quiet kept live small.
    let tick = c.args.tick in
    let xs = c.args.self.now.seats.list.items in
    let ls = c.deref.result.now in
    let ready = kept_ready w ls kept (subst (AreLive w.stands 1 w.drawn) (sym c.deref.ensures.value) live) in
    let acts = acts_at tick xs in
    let b : Floor = record ((units n w).floor) { tick = (units n w).floor.tick + 1 } in
    let stands = wakes floor n tick xs w ls h next quiet ready c.wake.new.self.list.items c.wake.ensures in
    let one = c.unit.ensures.passes acts floor (w.tick + n) b stands (begins floor n tick xs w ls h next quiet ready) next (begun_ready floor n tick xs w ls h next quiet ready) small in
    let all : passes_of (unit_if acts b) ≤ passes_of (units (n + 1) w) = few floor n tick xs w ls h next quiet ready in
    omega (arith, one, all)

pub returns-in_err-unit-clause-passes : goal.returns-in_err-unit-clause-passes
returns-in_err-unit-clause-passes g c =
    λ floor n w h next quiet kept live small.
    let tick = c.args.tick in
    let xs = c.args.self.now.seats.list.items in
    let ls = c.deref.result.now in
    let ready = kept_ready w ls kept (subst (AreLive w.stands 1 w.drawn) (sym c.deref.ensures.value) live) in
    let acts = acts_at tick xs in
    let b : Floor = record ((units n w).floor) { tick = (units n w).floor.tick + 1 } in
    let stands = wakes floor n tick xs w ls h next quiet ready c.wake.new.self.list.items c.wake.ensures in
    let one = c.unit.ensures.passes acts floor (w.tick + n) b stands (begins floor n tick xs w ls h next quiet ready) next (begun_ready floor n tick xs w ls h next quiet ready) small in
    let all : passes_of (unit_if acts b) ≤ passes_of (units (n + 1) w) = few floor n tick xs w ls h next quiet ready in
    omega (arith, one, all)
