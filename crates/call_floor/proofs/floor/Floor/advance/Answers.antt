use Rattle.std.proofs.Common.{◌≡◌, ◌≤◌, ap, sym, ◌∙◌, subst, arith}
use Rattle.call_floor.specs.FloorFault.{FloorFaultCause}
use Rattle.call_floor.specs.FloorLines.{floor_step}
use Rattle.call_floor.specs.Tagged.{heard}
use Rattle.call_floor.proofs.FloorSteps.{apart_step, kept_step}
use Rattle.call_floor.proofs.NowStands.{now_stands, stands_now}
use Rattle.call_floor.proofs.Stepping.{step_few}
use Rattle.call_floor.proofs.floor.Floor.advance.Goals as goal

pub returns-in-Ok-clause-step : goal.returns-in-Ok-clause-step
returns-in-Ok-clause-step g c =
    λ w h.
    let e = c.args.event.now in
    let Grew = g.H.FloorListener.grew in
    let did = c.in-Ok.ensures.step w (stands_now c.args.self.now w h) h.floor in
    let is : c.to-1.given.0 ≡ heard c.obeys.new.to = c.to-1.given.1 (sym (did.0.0 ∙ c.over.ensures.same)) in (
      subst (λ z. Grew c.args.to.now z (floor_step w e).entries) (sym is) (subst (λ z. Grew z (heard c.obeys.new.to) (floor_step w e).entries) c.over.ensures.value did.0.1),
      now_stands c.obeys.new.self (floor_step w e).floor did.1 (kept_step w e h.floor),
    )

pub returns-in-Err-clause-step : goal.returns-in-Err-clause-step
returns-in-Err-clause-step g c =
    λ w h.
    let e = c.args.event.now in
    let Partly = g.H.FloorListener.partly in
    let part = c.in-Err.ensures.step w (stands_now c.args.self.now w h) h.floor in
    let is : c.to-1.given.0 ≡ heard c.obeys.new.to = c.to-1.given.1 (sym (part.0 ∙ c.over.ensures.same)) in
    subst (λ z. Partly c.args.to.now z (floor_step w e).entries) (sym is) (subst (λ z. Partly z (heard c.obeys.new.to) (floor_step w e).entries) c.over.ensures.value part.1)

pub returns-in-Ok-clause-parts : goal.returns-in-Ok-clause-parts
returns-in-Ok-clause-parts g c = λ w v u h only. apart_step w c.args.event.now v u h.floor only

pub returns-in-Err-clause-parts : goal.returns-in-Err-clause-parts
returns-in-Err-clause-parts g c = λ w v u h only. apart_step w c.args.event.now v u h.floor only

pub returns-in-Ok-clause-calls : goal.returns-in-Ok-clause-calls
returns-in-Ok-clause-calls g c =
    λ w h.
    let did = c.in-Ok.ensures.step w (stands_now c.args.self.now w h) h.floor in
    let few = step_few w c.args.event.now in
    omega (arith, did.1.last, few, h.last)

pub returns-in-Ok-clause-stood : goal.returns-in-Ok-clause-stood
returns-in-Ok-clause-stood g c =
    λ w h.
    let faults = g.H.FloorListener.faults in
    let did = c.in-Ok.ensures.step w (stands_now c.args.self.now w h) h.floor in
    let is : c.to-1.given.0 ≡ heard c.obeys.new.to = c.to-1.given.1 (sym (did.0.0 ∙ c.over.ensures.same)) in
    ap faults is ∙ c.in-Ok.ensures.faults.stood ∙ ap faults c.over.ensures.value

pub returns-in-Ok-clause-counted : goal.returns-in-Ok-clause-counted
returns-in-Ok-clause-counted g c =
    λ w h.
    let faults = g.H.FloorListener.faults in
    let did = c.in-Ok.ensures.step w (stands_now c.args.self.now w h) h.floor in
    let is : c.to-1.given.0 ≡ heard c.obeys.new.to = c.to-1.given.1 (sym (did.0.0 ∙ c.over.ensures.same)) in
    subst (λ z. faults c.args.to.now ≤ faults z) (sym is) (subst (λ z. faults z ≤ faults (heard c.obeys.new.to)) c.over.ensures.value c.in-Ok.ensures.faults.counted)

pub returns-in-Err-clause-cause : goal.returns-in-Err-clause-cause
returns-in-Err-clause-cause g c =
    λ w h.
    let faults = g.H.FloorListener.faults in
    let part = c.in-Err.ensures.step w (stands_now c.args.self.now w h) h.floor in
    let is : c.to-1.given.0 ≡ heard c.obeys.new.to = c.to-1.given.1 (sym (part.0 ∙ c.over.ensures.same)) in
    subst (λ z. FloorFaultCause c.in-Err.fault (faults c.args.to.now) (faults z)) (sym is)
    (subst (λ z. FloorFaultCause c.in-Err.fault (faults z) (faults (heard c.obeys.new.to))) c.over.ensures.value c.in-Err.ensures.faults.cause)

pub returns-in-Err-clause-counted : goal.returns-in-Err-clause-counted
returns-in-Err-clause-counted g c =
    λ w h.
    let faults = g.H.FloorListener.faults in
    let part = c.in-Err.ensures.step w (stands_now c.args.self.now w h) h.floor in
    let is : c.to-1.given.0 ≡ heard c.obeys.new.to = c.to-1.given.1 (sym (part.0 ∙ c.over.ensures.same)) in
    subst (λ z. faults c.args.to.now ≤ faults z) (sym is) (subst (λ z. faults z ≤ faults (heard c.obeys.new.to)) c.over.ensures.value c.in-Err.ensures.faults.counted)

pub returns-in-Ok-clause-passes : goal.returns-in-Ok-clause-passes
returns-in-Ok-clause-passes g c = λ w h. c.obeys.ensures.passes w (stands_now c.args.self.now w h) h.floor

pub returns-in-Err-clause-passes : goal.returns-in-Err-clause-passes
returns-in-Err-clause-passes g c = λ w h. c.obeys.ensures.passes w (stands_now c.args.self.now w h) h.floor
