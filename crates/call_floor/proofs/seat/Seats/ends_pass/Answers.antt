use Rattle.std.proofs.Common.{◌∙◌}
use Rattle.std.proofs.lemmas.Result.{err_from_is_err_and}
use Rattle.call_floor.specs.Floor.{Floor, vehicle_turns}
use Rattle.call_floor.specs.inner.FloorAt.{Amid, sessions_if, vehicles_if}
use Rattle.call_floor.proofs.Behind.{came_behind, cut_before}
use Rattle.call_floor.proofs.LiveCalls.{ready_vehicles}
use Rattle.call_floor.proofs.LoopFronts.{tick_if}
use Rattle.call_floor.proofs.Loops.{passes_front, passes_more}
use Rattle.call_floor.proofs.seat.Seats.ends_pass.Goals as goal

pub returns-clause-step : goal.returns-clause-step
returns-clause-step g c =
    λ acts floor before w h now next ready.
    let tick = c.args.tick in
    let ls = c.args.live.now in
    let u : Floor = (vehicles_if acts w).floor in
    let first = c.in_ok-vehicles_pass.ensures.step acts floor before w h now next in
    let second = c.sessions_pass.ensures.step acts floor before u first.1 (tick_if acts (vehicle_turns w.stands) w ∙ now) next (ready_vehicles acts w ls ready) in
    came_behind g.H.FloorListener.grew g.H.FloorListener.partly g.met.H.FloorListener.twice g.met.H.FloorListener.then_partly (Amid acts tick floor (λ a. tick) (λ a d. tick)) c.sessions_pass.new.self.list.items c.args.to.now c.vehicles_pass.new.to c.sessions_pass.new.to (vehicles_if acts w) (sessions_if acts) c.sessions_pass.result first.0 second

pub returns-in_err-vehicles_pass-clause-step : goal.returns-in_err-vehicles_pass-clause-step
returns-in_err-vehicles_pass-clause-step g c =
    λ acts floor before w h now next ready.
    let failed = err_from_is_err_and c.from_residual.result c.from_residual.ensures.1 in
    let part = c.in_err-vehicles_pass.ensures.step acts floor before w h now next in
    rw failed.1 (cut_before g.H.FloorListener.grew g.H.FloorListener.partly g.met.H.FloorListener.longer c.args.to.now c.vehicles_pass.new.to (vehicles_if acts w) (sessions_if acts) part)

pub returns-clause-passes : goal.returns-clause-passes
returns-clause-passes g c =
    λ acts floor before w h now next ready small.
    let u : Floor = (vehicles_if acts w).floor in
    let first = c.in_ok-vehicles_pass.ensures.step acts floor before w h now next in
    passes_more (vehicles_if acts w) (sessions_if acts) c.args.moments.now c.vehicles_pass.new.moments c.sessions_pass.new.moments (c.vehicles_pass.ensures.passes acts floor before w h now next small)
    (c.sessions_pass.ensures.passes acts floor before u first.1 (tick_if acts (vehicle_turns w.stands) w ∙ now) next (ready_vehicles acts w c.args.live.now ready) small)

pub returns-in_err-vehicles_pass-clause-passes : goal.returns-in_err-vehicles_pass-clause-passes
returns-in_err-vehicles_pass-clause-passes g c =
    λ acts floor before w h now next ready small.
    passes_front (vehicles_if acts w) (sessions_if acts) c.args.moments.now c.vehicles_pass.new.moments (c.vehicles_pass.ensures.passes acts floor before w h now next small)
