use Rattle.std.proofs.Common.{◌≡◌, ℕ, ◌+◌, Some, [], refl, ap, sym, ◌∙◌, subst}
use Rattle.std.proofs.lemmas.Result.{err_from_is_err_and}
use Rattle.ivs_machine.specs.IvsStands.{IvsStandsFor}
use Rattle.ivs_machine.specs.VehicleRows as vehicle
use Rattle.trace_fit.specs.Seats.{left_by}
use Rattle.trace_model.specs.History.{told}
use Rattle.channel_sim.specs.World as model
use Rattle.channel_sim.specs.Lines as lines
use Rattle.channel_sim.specs.inner.Acts.{IsReady}
use Rattle.channel_sim.specs.Lag.{level, CameAt, StandsAt}
use Rattle.channel_sim.proofs.ActLemmas.{came_after}
use Rattle.channel_sim.proofs.ArrivalLemmas.{arrival_ready, next_above}
use Rattle.channel_sim.proofs.LineLemmas.{came_now, caught_now}
use Rattle.channel_sim.proofs.SessionLemmas.{seated_ready}
use Rattle.channel_sim.proofs.VehicleLemmas.{vehicle_is}
use Rattle.channel_sim.proofs.channel.Channel.comes_up.Goals as goal

pub returns-in_err-add_call-clause-step : goal.returns-in_err-add_call-clause-step
returns-in_err-add_call-clause-step g c =
    λ settled w e arrival s out heard arrives.
    let failed = err_from_is_err_and c.from_residual.result c.from_residual.ensures.1 in
    let law = g.met.H.Listener in
    rw failed.1 (law.longer _ _ [] _ (law.whole _ _ _ (law.unchanged _)))

pub returns-in_err-did-clause-step : goal.returns-in_err-did-clause-step
returns-in_err-did-clause-step g c =
    λ settled w e arrival s out heard arrives.
    let kept = c.args.self.now in
    let moved = record kept { drawn = kept.drawn + 1; calls = c.add_call.new.calls; vehicle = c.hear_into.new.self } in
    let failed = err_from_is_err_and c.from_residual-in_err-did.result c.from_residual-in_err-did.ensures.1 in
    let is = vehicle_is kept.tick (level settled kept.tick) (λ d. kept.tick) kept w s (caught_now settled kept w s) in
    let row = vehicle.vehicle_row w.vehicle (e (w.drawn + 1)) in
    let stands : IvsStandsFor c.hear_into.new.self row.new = subst (λ h. IvsStandsFor c.hear_into.new.self (vehicle.vehicle_row w.vehicle h).new) heard (c.hear_into.ensures.stands w.vehicle is) in
    let ready = subst (λ n. IsReady kept.tick (level settled kept.tick) (λ d. kept.tick) moved (lines.with_call w) row.new (lines.with_call w).calls (Some n)) (ap (λ n. n + 1) s.drawn)
    (arrival_ready settled kept moved w row.new s out refl (c.in_ok-add_call.ensures.added (next_above settled kept w s)) stands) in
    let part = c.in_err-did.ensures.step kept.tick (level settled kept.tick) (λ d. kept.tick) (lines.with_call w) row.new (lines.with_call w).calls ready in
    let items = c.as_slice.ensures.value ∙ c.hear_into.ensures.gives w.vehicle is ∙ ap (λ h. (vehicle.vehicle_row w.vehicle h).items) heard in
    rw failed.1 (g.met.H.Listener.longer _ _ _ _ (subst (λ ns. g.H.Listener.partly c.args.to.now c.did.new.to (told w.tick ns)) items part))

pub returns-in_err-admit-clause-step : goal.returns-in_err-admit-clause-step
returns-in_err-admit-clause-step g c =
    λ settled w e arrival s out heard arrives.
    let kept = c.args.self.now in
    let clock = λ (d : ℕ). kept.tick in
    let moved = record kept { drawn = kept.drawn + 1; calls = c.add_call.new.calls; vehicle = c.hear_into.new.self } in
    let failed = err_from_is_err_and c.from_residual-in_err-admit.result c.from_residual-in_err-admit.ensures.1 in
    let is = vehicle_is kept.tick (level settled kept.tick) clock kept w s (caught_now settled kept w s) in
    let row = vehicle.vehicle_row w.vehicle (e (w.drawn + 1)) in
    let stands : IvsStandsFor c.hear_into.new.self row.new = subst (λ h. IvsStandsFor c.hear_into.new.self (vehicle.vehicle_row w.vehicle h).new) heard (c.hear_into.ensures.stands w.vehicle is) in
    let ready = subst (λ n. IsReady kept.tick (level settled kept.tick) clock moved (lines.with_call w) row.new (lines.with_call w).calls (Some n)) (ap (λ n. n + 1) s.drawn)
    (arrival_ready settled kept moved w row.new s out refl (c.in_ok-add_call.ensures.added (next_above settled kept w s)) stands) in
    let items = c.as_slice.ensures.value ∙ c.hear_into.ensures.gives w.vehicle is ∙ ap (λ h. (vehicle.vehicle_row w.vehicle h).items) heard in
    let did = subst (λ ns. g.H.Listener.grew c.args.to.now c.did.new.to (told w.tick ns)) items
    (c.in_ok-did.ensures.step kept.tick (level settled kept.tick) clock (lines.with_call w) row.new (lines.with_call w).calls ready).0 in
    rw failed.1 (g.met.H.Listener.longer _ _ _ _ (g.met.H.Listener.whole _ _ _ did))

pub returns-clause-step : goal.returns-clause-step
returns-clause-step g c =
    λ settled w e arrival s out heard arrives.
    let law = g.met.H.Listener in
    let kept = c.args.self.now in
    let clock = λ (d : ℕ). kept.tick in
    let moved = record kept { drawn = kept.drawn + 1; calls = c.add_call.new.calls; vehicle = c.hear_into.new.self } in
    let is = vehicle_is kept.tick (level settled kept.tick) clock kept w s (caught_now settled kept w s) in
    let row = vehicle.vehicle_row w.vehicle (e (w.drawn + 1)) in
    let stands : IvsStandsFor c.hear_into.new.self row.new = subst (λ h. IvsStandsFor c.hear_into.new.self (vehicle.vehicle_row w.vehicle h).new) heard (c.hear_into.ensures.stands w.vehicle is) in
    let ready = subst (λ n. IsReady kept.tick (level settled kept.tick) clock moved (lines.with_call w) row.new (lines.with_call w).calls (Some n)) (ap (λ n. n + 1) s.drawn)
    (arrival_ready settled kept moved w row.new s out refl (c.in_ok-add_call.ensures.added (next_above settled kept w s)) stands) in
    let items = c.as_slice.ensures.value ∙ c.hear_into.ensures.gives w.vehicle is ∙ ap (λ h. (vehicle.vehicle_row w.vehicle h).items) heard in
    let first : model.Step = model.vehicle_did (lines.with_call w) row in
    let did = subst (λ ns. g.H.Listener.grew c.args.to.now c.did.new.to (told w.tick ns) × StandsAt kept.tick (level settled kept.tick) clock c.did.new.self (model.did (lines.with_call w) ns row.new (lines.with_call w).calls).world) items
    (c.in_ok-did.ensures.step kept.tick (level settled kept.tick) clock (lines.with_call w) row.new (lines.with_call w).calls ready) in
    let number : kept.drawn + 1 ≡ w.drawn + 1 = ap (λ n. n + 1) (sym s.drawn) in
    let came = arrival (w.drawn + 1) in
    let admitted = c.in_ok-admit.ensures settled came.new first.world.calls did.1.calls did.1.tidy.numbers arrives.stands arrives.live in
    let second = c.did-2.ensures.step kept.tick (level settled kept.tick) clock first.world first.world.vehicle (model.seated (kept.drawn + 1) (Some came.new) first.world.calls)
    (seated_ready kept.tick (level settled kept.tick) clock clock c.did.new.self (record c.did.new.self { calls = c.admit.new.calls }) first.world (kept.drawn + 1) (Some came.new) did.1 refl admitted) in
    let Then = λ (z : model.Step). CameAt (g.H.Listener.grew c.did.new.to c.did-2.new.to) (g.H.Listener.partly c.did.new.to c.did-2.new.to) c.did-2.result kept.tick (level settled kept.tick) clock c.did-2.new.self z in
    let u = first.world in
    let then = subst (λ n. Then (model.did u came.items u.vehicle (model.seated n (left_by came.new) u.calls))) number
    (subst (λ o. Then (model.did u came.items u.vehicle (model.seated (kept.drawn + 1) o u.calls))) (sym arrives.live)
    (subst (λ ns. Then (model.did u ns u.vehicle (model.seated (kept.drawn + 1) (Some came.new) u.calls)))
    (c.as_slice-2.ensures.value ∙ arrives.items) second)) in
    came_now (g.H.Listener.grew c.args.to.now c.did-2.new.to) (g.H.Listener.partly c.args.to.now c.did-2.new.to) c.did-2.result settled kept.tick c.did-2.new.self (lines.comes_up e arrival w)
    (c.did-2.ensures.tick ∙ c.did.ensures.tick)
    (came_after g.H.Listener.grew g.H.Listener.partly law.twice law.then_partly c.args.to.now c.did.new.to c.did-2.new.to c.did-2.result kept.tick (level settled kept.tick) clock c.did-2.new.self first
    (λ z. model.session_did (w.drawn + 1) z came) did.0 then)
