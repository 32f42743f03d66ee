use Rattle.channel_sim.proofs.BoundLemmas.{fewer}
use Rattle.channel_sim.specs.Passes.{passes_of}
use Rattle.std.proofs.Common.{[], ◌≡◌, true, false, refl, ap, sym, ◌∙◌, subst, ◌+◌, ◌≤◌, length, arith}
use Rattle.std.proofs.lemmas.Result.{err_from_is_err_and}
use Rattle.std.specs.Option.{is_some}
use Rattle.psap_machine.specs.Point.{Point}
use Rattle.psap_machine.specs.PointRows as point
use Rattle.channel_sim.specs.World as model
use Rattle.channel_sim.specs.inner.Acts.{seat_after}
use Rattle.channel_sim.specs.Lag.{CameAt, StandsAt}
use Rattle.channel_sim.proofs.SessionLemmas.{session_ready, session_step, no_session_step, nobody_did, settled_quiet}
use Rattle.channel_sim.proofs.channel.Channel.session_performs.Goals as goal

pub returns-in_err-hear_session-clause-step : goal.returns-in_err-hear_session-clause-step
returns-in_err-hear_session-clause-step g c =
    λ ahead floor clock w s now here caught.
    let failed = err_from_is_err_and c.from_residual.result c.from_residual.ensures.1 in
    let law = g.met.H.Listener in
    rw failed.1 (law.longer _ _ [] _ (law.whole _ _ _ (law.unchanged _)))

pub returns-then-branch-clause-step : goal.returns-then-branch-clause-step
returns-then-branch-clause-step g c =
    λ ahead floor clock w s now here caught.
    let row = λ (p : Point). point.point_row p (point.heard c.args.event.now) in
    let kept = c.args.self.now in
    let heard = c.in_ok-hear_session.ensures.did floor clock w.calls s.calls s.tidy.numbers (let a : floor.waking ≤ kept.passed = s.from in let b : kept.passed ≤ ahead = s.passed in omega arith) (here ∙ now) caught in
    let there : is_some (model.session_of c.args.number w.calls) ≡ true = sym (c.in_ok-hear_session.ensures.variant floor clock w.calls s.calls s.tidy.numbers) ∙ c.if-branch.true in
    let after = model.seated c.args.number (seat_after row (model.session_of c.args.number w.calls)) w.calls in
    let Step = λ (z : model.Step). CameAt (g.H.Listener.grew c.args.to.now c.settles.new.to) (g.H.Listener.partly c.args.to.now c.settles.new.to) c.settles.result ahead floor clock c.settles.new.self (model.settled z) in
    subst Step (sym (session_step c.args.number w row there))
    (subst (λ items. Step (model.did w items w.vehicle after)) (c.as_slice-items.ensures.value ∙ heard.items)
    (c.settles.ensures.step ahead floor clock w w.vehicle after
    (session_ready ahead floor clock clock kept (record kept { calls = c.hear_session.new.calls }) w c.args.number _ _ row s refl heard) now))

pub returns-else-branch-clause-step : goal.returns-else-branch-clause-step
returns-else-branch-clause-step g c =
    λ ahead floor clock w s now here caught.
    let row = λ (p : Point). point.point_row p (point.heard c.args.event.now) in
    let kept = c.args.self.now in
    let did = c.in_ok-hear_session.ensures.did floor clock w.calls s.calls s.tidy.numbers (let a : floor.waking ≤ kept.passed = s.from in let b : kept.passed ≤ ahead = s.passed in omega arith) (here ∙ now) caught in
    let gone : is_some (model.session_of c.args.number w.calls) ≡ false = sym (c.in_ok-hear_session.ensures.variant floor clock w.calls s.calls s.tidy.numbers) ∙ c.if-branch.false in
    let moved = record kept { calls = c.hear_session.new.calls } in
    subst (λ (z : model.Step). g.H.Listener.grew c.args.to.now c.args.to.now z.entries × StandsAt ahead floor clock moved z.world) (sym (ap model.settled (no_session_step c.args.number w row gone) ∙ settled_quiet w))
    (g.met.H.Listener.unchanged _, nobody_did ahead floor clock clock kept moved w c.args.number _ _ row s refl gone did)

pub returns-then-branch-clause-passes : goal.returns-then-branch-clause-passes
returns-then-branch-clause-passes g c =
    λ ahead floor clock w s now here caught small.
    let row = λ (p : Point). point.point_row p (point.heard c.args.event.now) in
    let kept = c.args.self.now in
    let heard = c.in_ok-hear_session.ensures.did floor clock w.calls s.calls s.tidy.numbers (let a : floor.waking ≤ kept.passed = s.from in let b : kept.passed ≤ ahead = s.passed in omega arith) (here ∙ now) caught in
    let there : is_some (model.session_of c.args.number w.calls) ≡ true = sym (c.in_ok-hear_session.ensures.variant floor clock w.calls s.calls s.tidy.numbers) ∙ c.if-branch.true in
    let after = model.seated c.args.number (seat_after row (model.session_of c.args.number w.calls)) w.calls in
    let Step = λ (z : model.Step). c.settles.new.moments ≤ c.args.moments.now + passes_of (model.settled z) in
    subst Step (sym (session_step c.args.number w row there))
    (subst (λ items. Step (model.did w items w.vehicle after)) (c.as_slice-items.ensures.value ∙ heard.items)
    (fewer c.settles.new.moments (length c.as_slice-items.result.now) (c.args.moments.now + passes_of (model.settled (model.did w c.as_slice-items.result.now w.vehicle after)))
    (c.settles.ensures.passes ahead floor clock w w.vehicle after
    (session_ready ahead floor clock clock kept (record kept { calls = c.hear_session.new.calls }) w c.args.number _ _ row s refl heard) now small)))
