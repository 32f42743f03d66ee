use Rattle.std.proofs.Common.{◌≤◌, ◌+◌, sym, subst, arith}
use Rattle.channel_sim.specs.declared.channel.Passing.TheVariants as passing
use Rattle.channel_sim.specs.World.{Step}
use Rattle.channel_sim.specs.Lag.{StandsNow}
use Rattle.channel_sim.specs.inner.Happenings.{happens, settled_behind}
use Rattle.channel_sim.proofs.Behind.{any_behind}
use Rattle.channel_sim.proofs.Reached.{step_reaches}
use Rattle.channel_sim.proofs.play.Play.advance.Goals as goal

pub returns-in-Err-clause-step : goal.returns-in-Err-clause-step
returns-in-Err-clause-step g c =
    λ w h.
    let Partly = g.H.Listener.partly c.args.to.now c.plays.new.to in
    subst (λ (z : Step). Partly z.entries) (sym (c.happening_of-happening.ensures.step w)) (c.in-Err.ensures.step 0 w h (omega arith))

pub returns-in-Err-clause-passes : goal.returns-in-Err-clause-passes
returns-in-Err-clause-passes g c =
    λ w h.
    subst (λ n. c.plays.new.moments ≤ c.args.moments.now + n) (sym (c.happening_of-happening.ensures.passes w))
    (c.plays.ensures.passes 0 w h (omega arith) tt)

pub returns-in-Ok-clause-step : goal.returns-in-Ok-clause-step
returns-in-Ok-clause-step g c =
    λ w h.
    let new = c.plays.new.self in
    let happening = c.happening_of-happening in
    let did = c.in-Ok.ensures.step 0 w h (omega arith) in
    subst (λ (z : Step). g.H.Listener.grew c.args.to.now c.plays.new.to z.entries × StandsNow 0 new z.world) (sym (happening.ensures.step w))
    (did.0, subst (λ n. StandsNow n new (happens happening.result w).world) (any_behind happening.result 0 new.tick) did.1)

pub returns-in-Ok-clause-calls : goal.returns-in-Ok-clause-calls
returns-in-Ok-clause-calls g c =
    λ w h.
    let new = c.plays.new.self in
    let happening = c.happening_of-happening in
    let did = subst (λ (z : Step). StandsNow (settled_behind happening.result passing.Waking 0 new.tick) new z.world) (sym (happening.ensures.step w))
    (c.in-Ok.ensures.step 0 w h (omega arith)).1 in
    let r = step_reaches w c.args.event.now 4294967295 happening.ensures.few in
    omega (arith, r.drawn, did.drawn, h.drawn)

pub returns-in-Ok-clause-reached : goal.returns-in-Ok-clause-reached
returns-in-Ok-clause-reached g c =
    λ w h.
    let new = c.plays.new.self in
    let happening = c.happening_of-happening in
    let did = subst (λ (z : Step). StandsNow (settled_behind happening.result passing.Waking 0 new.tick) new z.world) (sym (happening.ensures.step w))
    (c.in-Ok.ensures.step 0 w h (omega arith)).1 in
    let r = step_reaches w c.args.event.now 4294967295 happening.ensures.few in
    omega (arith, r.tick, did.tick, h.tick)

pub returns-in-Ok-clause-passes : goal.returns-in-Ok-clause-passes
returns-in-Ok-clause-passes g c =
    λ w h.
    subst (λ n. c.plays.new.moments ≤ c.args.moments.now + n) (sym (c.happening_of-happening.ensures.passes w))
    (c.in-Ok.ensures.passes 0 w h (omega arith) tt)
