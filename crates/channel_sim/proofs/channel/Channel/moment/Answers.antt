use Rattle.channel_sim.proofs.BoundLemmas.{passes_front, passes_more}
use Rattle.channel_sim.specs.Passes.{passes_of}
use Rattle.std.proofs.Common.{◌+◌, sym, ◌∙◌, subst, ◌≡◌, ℕ, ◌≤◌, ◌<◌, ◌^◌}
use Rattle.std.proofs.lemmas.Result.{err_from_is_err_and}
use Rattle.channel_sim.specs.World as model
use Rattle.channel_sim.specs.Lag.{CameAt}
use Rattle.channel_sim.specs.Quiet.{aged_world}
use Rattle.channel_sim.proofs.ActLemmas.{came_after}
use Rattle.channel_sim.proofs.FlowRests.{none_up, none_down}
use Rattle.channel_sim.proofs.MomentLemmas.{ends_next, jumped, units_jump}
use Rattle.channel_sim.proofs.channel.Channel.moment.Goals as goal

pub returns-in_err-ends_from-clause-step : goal.returns-in_err-ends_from-clause-step
returns-in_err-ends_from-clause-step g c =
    λ floor n w s next quiet rests no_up no_down.
    let failed = err_from_is_err_and c.from_residual.result c.from_residual.ensures.1 in
    let kept = c.args.self.now in
    let law = g.met.H.Listener in
    let w1 : model.World = record (aged_world n w) { tick = (aged_world n w).tick + 1 } in
    let p2 = c.in_err-ends_from.ensures.step floor (kept.tick + n) w1 (jumped floor n c.args.tick kept w s quiet next) next (λ late. ends_next n w (rests late)) in
    rw failed.1 (subst (λ (z : model.Step). g.H.Listener.partly c.args.to.now c.ends_from.new.to z.entries) (sym (units_jump floor n kept w s quiet))
    (law.longer _ _ _ _ (law.longer _ _ _ _ p2)))

pub returns-in_err-flows_from-clause-step : goal.returns-in_err-flows_from-clause-step
returns-in_err-flows_from-clause-step g c =
    λ floor n w s next quiet rests no_up no_down.
    let failed = err_from_is_err_and c.from_residual-in_err-flows_from.result c.from_residual-in_err-flows_from.ensures.1 in
    let kept = c.args.self.now in
    let law = g.met.H.Listener in
    let w1 : model.World = record (aged_world n w) { tick = (aged_world n w).tick + 1 } in
    let d2 = c.in_ok-ends_from.ensures.step floor (kept.tick + n) w1 (jumped floor n c.args.tick kept w s quiet next) next (λ late. ends_next n w (rests late)) in
    let u2 : model.World = (model.sessions_pass (model.vehicle_passes w1).world).world in
    let t2 = c.ends_from.ensures.tick in
    let p3 = c.in_err-flows_from.ensures.step c.args.tick floor u2 d2.1 (sym t2) (λ late. none_up n w (no_up (subst (λ t. t < c.args.next.now.up) t2 late))) in
    rw failed.1 (subst (λ (z : model.Step). g.H.Listener.partly c.args.to.now c.flows_from.new.to z.entries) (sym (units_jump floor n kept w s quiet))
    (law.longer _ _ _ _ (law.then_partly _ _ _ _ _ d2.0 p3)))

pub returns-clause-step : goal.returns-clause-step
returns-clause-step g c =
    λ floor n w s next quiet rests no_up no_down.
    let kept = c.args.self.now in
    let law = g.met.H.Listener in
    let w1 : model.World = record (aged_world n w) { tick = (aged_world n w).tick + 1 } in
    let d2 = c.in_ok-ends_from.ensures.step floor (kept.tick + n) w1 (jumped floor n c.args.tick kept w s quiet next) next (λ late. ends_next n w (rests late)) in
    let u2 : model.World = (model.sessions_pass (model.vehicle_passes w1).world).world in
    let t2 = c.ends_from.ensures.tick in
    let d3 = c.in_ok-flows_from.ensures.step c.args.tick floor u2 d2.1 (sym t2) (λ late. none_up n w (no_up (subst (λ t. t < c.args.next.now.up) t2 late))) in
    let u3 : model.World = (model.flows_up u2).world in
    let came = c.flows_from-2.ensures.step c.args.tick floor u3 d3.1 (sym (c.flows_from.ensures.tick ∙ t2))
    (λ late. none_down n w (no_down (subst (λ t. t < c.args.next.now.down) (c.flows_from.ensures.tick ∙ t2) late))) in
    let first : model.Step = model.and_then (model.and_then (model.vehicle_passes w1) model.sessions_pass) model.flows_up in
    subst (CameAt (g.H.Listener.grew c.args.to.now c.flows_from-2.new.to) (g.H.Listener.partly c.args.to.now c.flows_from-2.new.to) c.flows_from-2.result c.args.tick floor (λ d. c.args.tick) c.flows_from-2.new.self) (sym (units_jump floor n kept w s quiet))
    (came_after g.H.Listener.grew g.H.Listener.partly law.twice law.then_partly c.args.to.now c.flows_from.new.to c.flows_from-2.new.to c.flows_from-2.result c.args.tick floor (λ d. c.args.tick) c.flows_from-2.new.self first model.flows_down
    (law.twice _ _ _ _ _ d2.0 d3.0) came)

pub returns-clause-passes : goal.returns-clause-passes
returns-clause-passes g c =
    λ floor n w s next quiet rests no_up no_down small.
    let kept = c.args.self.now in
    let m0 = c.args.moments.now in
    let at = λ (t : ℕ) (e : t ≡ c.args.tick). subst (λ u. u < floor.waking + 2 ^ 32) (sym e) small in
    let w1 : model.World = record (aged_world n w) { tick = (aged_world n w).tick + 1 } in
    let stands = jumped floor n c.args.tick kept w s quiet next in
    let d2 = c.in_ok-ends_from.ensures.step floor (kept.tick + n) w1 stands next (λ late. ends_next n w (rests late)) in
    let m2 = c.ends_from.ensures.passes floor (kept.tick + n) w1 stands next small in
    let s2 : model.Step = model.and_then (model.vehicle_passes w1) model.sessions_pass in
    let t2 = c.ends_from.ensures.tick in
    let d3 = c.in_ok-flows_from.ensures.step c.args.tick floor s2.world d2.1 (sym t2) (λ late. none_up n w (no_up (subst (λ t. t < c.args.next.now.up) t2 late))) in
    let p3 = c.flows_from.ensures.passes c.args.tick floor s2.world d2.1 (sym t2) (at _ t2) in
    let s3 : model.Step = model.and_then s2 model.flows_up in
    let m3 = passes_more s2 model.flows_up m0 c.ends_from.new.moments c.flows_from.new.moments m2 p3 in
    let t3 = c.flows_from.ensures.tick ∙ t2 in
    let p4 = c.flows_from-2.ensures.passes c.args.tick floor s3.world d3.1 (sym t3) (at _ t3) in
    subst (λ (z : model.Step). c.flows_from-2.new.moments ≤ m0 + passes_of z) (sym (units_jump floor n kept w s quiet))
    (passes_more s3 model.flows_down m0 c.flows_from.new.moments c.flows_from-2.new.moments m3 p4)

pub returns-in_err-ends_from-clause-passes : goal.returns-in_err-ends_from-clause-passes
returns-in_err-ends_from-clause-passes g c =
    λ floor n w s next quiet rests no_up no_down small.
    let kept = c.args.self.now in
    let m0 = c.args.moments.now in
    let w1 : model.World = record (aged_world n w) { tick = (aged_world n w).tick + 1 } in
    let m2 = c.ends_from.ensures.passes floor (kept.tick + n) w1 (jumped floor n c.args.tick kept w s quiet next) next small in
    let s2 : model.Step = model.and_then (model.vehicle_passes w1) model.sessions_pass in
    let s3 : model.Step = model.and_then s2 model.flows_up in
    subst (λ (z : model.Step). c.ends_from.new.moments ≤ m0 + passes_of z) (sym (units_jump floor n kept w s quiet))
    (passes_front s3 model.flows_down m0 c.ends_from.new.moments (passes_front s2 model.flows_up m0 c.ends_from.new.moments m2))

pub returns-in_err-flows_from-clause-passes : goal.returns-in_err-flows_from-clause-passes
returns-in_err-flows_from-clause-passes g c =
    λ floor n w s next quiet rests no_up no_down small.
    let kept = c.args.self.now in
    let m0 = c.args.moments.now in
    let at = λ (t : ℕ) (e : t ≡ c.args.tick). subst (λ u. u < floor.waking + 2 ^ 32) (sym e) small in
    let w1 : model.World = record (aged_world n w) { tick = (aged_world n w).tick + 1 } in
    let stands = jumped floor n c.args.tick kept w s quiet next in
    let d2 = c.in_ok-ends_from.ensures.step floor (kept.tick + n) w1 stands next (λ late. ends_next n w (rests late)) in
    let m2 = c.ends_from.ensures.passes floor (kept.tick + n) w1 stands next small in
    let s2 : model.Step = model.and_then (model.vehicle_passes w1) model.sessions_pass in
    let t2 = c.ends_from.ensures.tick in
    let p3 = c.flows_from.ensures.passes c.args.tick floor s2.world d2.1 (sym t2) (at _ t2) in
    let s3 : model.Step = model.and_then s2 model.flows_up in
    let m3 = passes_more s2 model.flows_up m0 c.ends_from.new.moments c.flows_from.new.moments m2 p3 in
    subst (λ (z : model.Step). c.flows_from.new.moments ≤ m0 + passes_of z) (sym (units_jump floor n kept w s quiet))
    (passes_front s3 model.flows_down m0 c.flows_from.new.moments m3)
