use Rattle.std.proofs.Common.{◌≤◌, ◌+◌, subst}
use Rattle.std.proofs.lemmas.Result.{err_from_is_err_and}
use Rattle.call_floor.specs.Floor.{FloorStep}
use Rattle.call_floor.specs.Tagged.{FloorGrew}
use Rattle.call_floor.specs.inner.FloorAt.{Amid, Came, flows_if, passes_of}
use Rattle.call_floor.proofs.Behind.{untold}
use Rattle.call_floor.proofs.seat.Seats.flows.Goals as goal

pub returns-clause-step : goal.returns-clause-step
returns-clause-step g c =
    λ acts floor w h now ready.
    let tick = c.args.tick in
    let listed = c.in_ok-list_due.ensures.listed acts floor w h ready w in
    let did = c.hand_each.ensures.step acts floor w (c.list_due.ensures.same acts floor w h) now (c.in_ok-list_due.ensures.lengths acts floor w h) in
    subst (λ (s : FloorStep). Came (FloorGrew g.H.FloorListener.grew c.args.to.now c.hand_each.new.to) (FloorGrew g.H.FloorListener.partly c.args.to.now c.hand_each.new.to) c.hand_each.result (Amid acts tick floor (λ a. tick) (λ a d. tick)) c.hand_each.new.self.list.items s) listed did

pub returns-in_err-list_due-clause-step : goal.returns-in_err-list_due-clause-step
returns-in_err-list_due-clause-step g c =
    λ acts floor w h now ready.
    let failed = err_from_is_err_and c.from_residual.result c.from_residual.ensures.1 in
    rw failed.1 (untold g.H.FloorListener.grew g.H.FloorListener.partly g.met.H.FloorListener.unchanged g.met.H.FloorListener.whole g.met.H.FloorListener.longer c.args.to.now (flows_if acts c.args.up w).entries)

pub returns-clause-passes : goal.returns-clause-passes
returns-clause-passes g c =
    λ acts floor w h now ready small.
    let listed = c.in_ok-list_due.ensures.listed acts floor w h ready w in
    subst (λ (s : FloorStep). c.hand_each.new.moments ≤ c.args.moments.now + passes_of s) listed
    (c.hand_each.ensures.passes acts floor w (c.list_due.ensures.same acts floor w h) now (c.in_ok-list_due.ensures.lengths acts floor w h) small)
