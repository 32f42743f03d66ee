use Rattle.std.proofs.Common.{◌∙◌, true, false}
use Rattle.std.proofs.lemmas.Result.{err_from_is_err_and}
use Rattle.call_floor.specs.Floor.{FloorStep, and_then}
use Rattle.call_floor.specs.Tagged.{heard, FloorGrew}
use Rattle.call_floor.specs.inner.FloorAt.{Amid, ends_if, flows_if}
use Rattle.call_floor.proofs.Behind.{came_behind, cut_before, ends_ready, ends_tick, flows_tick}
use Rattle.call_floor.proofs.LiveCalls.{ready_flows}
use Rattle.call_floor.proofs.Loops.{passes_front, passes_more}
use Rattle.call_floor.proofs.seat.Seats.unit.Goals as goal

pub returns-clause-step : goal.returns-clause-step
returns-clause-step g c =
    λ acts floor before w h now next ready.
    let tick = c.args.tick in
    let ls = c.args.live.now in
    let one : FloorStep = ends_if acts w in
    let two : FloorStep = and_then one (flows_if acts true) in
    let now_one = ends_tick acts w ∙ now in
    let ready_one = ends_ready acts w ls ready in
    let first = c.in_ok-ends_pass.ensures.step acts floor before w h now next ready in
    let second = c.in_ok-flows.ensures.step acts floor one.floor first.1 now_one ready_one in
    let third = c.flows-2.ensures.step acts floor two.floor second.1 (flows_tick acts true one.floor ∙ now_one) (ready_flows acts true one.floor ls ready_one) in
    let told : FloorGrew g.H.FloorListener.grew c.args.to.now c.flows.new.to two.entries = (second.0.0 ∙ first.0.0, g.met.H.FloorListener.twice (heard c.args.to.now) (heard c.ends_pass.new.to) (heard c.flows.new.to) one.entries (flows_if acts true one.floor).entries first.0.1 second.0.1) in
    came_behind g.H.FloorListener.grew g.H.FloorListener.partly g.met.H.FloorListener.twice g.met.H.FloorListener.then_partly (Amid acts tick floor (λ a. tick) (λ a d. tick)) c.flows-2.new.self.list.items c.args.to.now c.flows.new.to c.flows-2.new.to two (flows_if acts false) c.flows-2.result told third

pub returns-in_err-ends_pass-clause-step : goal.returns-in_err-ends_pass-clause-step
returns-in_err-ends_pass-clause-step g c =
    λ acts floor before w h now next ready.
    let failed = err_from_is_err_and c.from_residual.result c.from_residual.ensures.1 in
    let one : FloorStep = ends_if acts w in
    let part = c.in_err-ends_pass.ensures.step acts floor before w h now next ready in
    let more = cut_before g.H.FloorListener.grew g.H.FloorListener.partly g.met.H.FloorListener.longer c.args.to.now c.ends_pass.new.to one (flows_if acts true) part in
    rw failed.1 (cut_before g.H.FloorListener.grew g.H.FloorListener.partly g.met.H.FloorListener.longer c.args.to.now c.ends_pass.new.to (and_then one (flows_if acts true)) (flows_if acts false) more)

pub returns-in_err-flows-clause-step : goal.returns-in_err-flows-clause-step
returns-in_err-flows-clause-step g c =
    λ acts floor before w h now next ready.
    let failed = err_from_is_err_and c.from_residual-in_err-flows.result c.from_residual-in_err-flows.ensures.1 in
    let ls = c.args.live.now in
    let one : FloorStep = ends_if acts w in
    let now_one = ends_tick acts w ∙ now in
    let ready_one = ends_ready acts w ls ready in
    let first = c.in_ok-ends_pass.ensures.step acts floor before w h now next ready in
    let part = c.in_err-flows.ensures.step acts floor one.floor first.1 now_one ready_one in
    let more : FloorGrew g.H.FloorListener.partly c.args.to.now c.flows.new.to (and_then one (flows_if acts true)).entries = (part.0 ∙ first.0.0, g.met.H.FloorListener.then_partly (heard c.args.to.now) (heard c.ends_pass.new.to) (heard c.flows.new.to) one.entries (flows_if acts true one.floor).entries first.0.1 part.1) in
    rw failed.1 (cut_before g.H.FloorListener.grew g.H.FloorListener.partly g.met.H.FloorListener.longer c.args.to.now c.flows.new.to (and_then one (flows_if acts true)) (flows_if acts false) more)

pub returns-clause-passes : goal.returns-clause-passes
returns-clause-passes g c =
    λ acts floor before w h now next ready small.
    let ls = c.args.live.now in
    let one : FloorStep = ends_if acts w in
    let two : FloorStep = and_then one (flows_if acts true) in
    let now_one = ends_tick acts w ∙ now in
    let ready_one = ends_ready acts w ls ready in
    let first = c.in_ok-ends_pass.ensures.step acts floor before w h now next ready in
    let second = c.in_ok-flows.ensures.step acts floor one.floor first.1 now_one ready_one in
    let few_one = c.ends_pass.ensures.passes acts floor before w h now next ready small in
    let few_two = c.flows.ensures.passes acts floor one.floor first.1 now_one ready_one small in
    let few_three = c.flows-2.ensures.passes acts floor two.floor second.1 (flows_tick acts true one.floor ∙ now_one) (ready_flows acts true one.floor ls ready_one) small in
    passes_more two (flows_if acts false) c.args.moments.now c.flows.new.moments c.flows-2.new.moments
    (passes_more one (flows_if acts true) c.args.moments.now c.ends_pass.new.moments c.flows.new.moments few_one few_two) few_three

pub returns-in_err-ends_pass-clause-passes : goal.returns-in_err-ends_pass-clause-passes
returns-in_err-ends_pass-clause-passes g c =
    λ acts floor before w h now next ready small.
    let one : FloorStep = ends_if acts w in
    let few_one = c.ends_pass.ensures.passes acts floor before w h now next ready small in
    passes_front (and_then one (flows_if acts true)) (flows_if acts false) c.args.moments.now c.ends_pass.new.moments (passes_front one (flows_if acts true) c.args.moments.now c.ends_pass.new.moments few_one)

pub returns-in_err-flows-clause-passes : goal.returns-in_err-flows-clause-passes
returns-in_err-flows-clause-passes g c =
    λ acts floor before w h now next ready small.
    let ls = c.args.live.now in
    let one : FloorStep = ends_if acts w in
    let now_one = ends_tick acts w ∙ now in
    let ready_one = ends_ready acts w ls ready in
    let first = c.in_ok-ends_pass.ensures.step acts floor before w h now next ready in
    let few_one = c.ends_pass.ensures.passes acts floor before w h now next ready small in
    let few_two = c.flows.ensures.passes acts floor one.floor first.1 now_one ready_one small in
    passes_front (and_then one (flows_if acts true)) (flows_if acts false) c.args.moments.now c.flows.new.moments
    (passes_more one (flows_if acts true) c.args.moments.now c.ends_pass.new.moments c.flows.new.moments few_one few_two)
