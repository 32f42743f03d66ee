use Rattle.channel_sim.proofs.BoundLemmas.{acted_more}
use Rattle.channel_sim.specs.Passes.{passes_of}
use Rattle.std.proofs.Common.{[], ap, ◌≡◌, true, refl, sym, ◌∙◌, subst, ◌+◌, ◌≤◌, length, arith}
use Rattle.std.proofs.lemmas.Result.{err_from_is_err_and}
use Rattle.std.specs.Option.{is_some}
use Rattle.psap_machine.specs.PointRows as point
use Rattle.channel_sim.specs.World as model
use Rattle.channel_sim.specs.inner.Acts.{seat_after}
use Rattle.channel_sim.specs.Lag.{CameAt}
use Rattle.channel_sim.proofs.SessionLemmas.{session_ready, session_step}
use Rattle.channel_sim.proofs.PassLemmas.{rests_step}
use Rattle.channel_sim.proofs.channel.Channel.session_passes.Goals as goal

pub returns-in_err-act_session-clause-step : goal.returns-in_err-act_session-clause-step
returns-in_err-act_session-clause-step g c =
    λ ahead floor before after w s now due passed others.
    let failed = err_from_is_err_and c.from_residual.result c.from_residual.ensures.1 in
    let law = g.met.H.Listener in
    rw failed.1 (law.longer _ _ [] _ (law.whole _ _ _ (law.unchanged _)))

pub returns-then-branch-clause-step : goal.returns-then-branch-clause-step
returns-then-branch-clause-step g c =
    λ ahead floor before after w s now due passed others.
    let kept = c.args.self.now in
    let did = c.in_ok-act_session.ensures.did floor before after w.calls s.calls s.tidy.numbers (due ∙ now) (passed ∙ now) others in
    let there : is_some (model.session_of c.args.number w.calls) ≡ true = did.acts c.if-branch.true in
    let seats = model.seated c.args.number (seat_after point.unit_row (model.session_of c.args.number w.calls)) w.calls in
    let Step = λ (z : model.Step). CameAt (g.H.Listener.grew c.args.to.now c.settles.new.to) (g.H.Listener.partly c.args.to.now c.settles.new.to) c.settles.result ahead floor after c.settles.new.self (model.settled z) in
    subst Step (sym (session_step c.args.number w point.unit_row there))
    (subst (λ items. Step (model.did w items w.vehicle seats)) (c.as_slice-items.ensures.value ∙ did.items)
    (c.settles.ensures.step ahead floor after w w.vehicle seats
    (session_ready ahead floor before after kept (record kept { calls = c.act_session.new.calls }) w c.args.number _ _ point.unit_row s refl did) now))

pub returns-else-branch-clause-step : goal.returns-else-branch-clause-step
returns-else-branch-clause-step g c =
    λ ahead floor before after w s now due passed others.
    let kept = c.args.self.now in
    let did = c.in_ok-act_session.ensures.did floor before after w.calls s.calls s.tidy.numbers (due ∙ now) (passed ∙ now) others in
    let rests = rests_step ahead floor before after kept (record kept { calls = c.act_session.new.calls }) w c.args.number _ _ point.unit_row s refl c.if-branch.false (c.in_ok-act_session.ensures.none c.if-branch.false) did in
    (subst (g.H.Listener.grew c.args.to.now c.args.to.now) (sym rests.0) (g.met.H.Listener.unchanged _), rests.1)

pub returns-then-branch-clause-passes : goal.returns-then-branch-clause-passes
returns-then-branch-clause-passes g c =
    λ ahead floor before after w s now due passed others small.
    let kept = c.args.self.now in
    let did = c.in_ok-act_session.ensures.did floor before after w.calls s.calls s.tidy.numbers (due ∙ now) (passed ∙ now) others in
    let there : is_some (model.session_of c.args.number w.calls) ≡ true = did.acts c.if-branch.true in
    let seats = model.seated c.args.number (seat_after point.unit_row (model.session_of c.args.number w.calls)) w.calls in
    let given = c.as_slice-items.result.now in
    let Step = λ (z : model.Step). c.settles.new.moments ≤ c.args.moments.now + passes_of (model.settled z) in
    subst Step (sym (session_step c.args.number w point.unit_row there))
    (subst (λ items. Step (model.did w items w.vehicle seats)) (c.as_slice-items.ensures.value ∙ did.items)
    (acted_more c.args.moments.now c.act_session.new.moments c.settles.new.moments (length given) (passes_of (model.settled (model.did w given w.vehicle seats)))
    (subst (λ items. c.act_session.new.moments ≤ c.args.moments.now + length items) (sym c.as_slice-items.ensures.value) (c.in_ok-act_session.ensures.passes floor before w.calls s.calls s.tidy.numbers))
    (c.settles.ensures.passes ahead floor after w w.vehicle seats
    (session_ready ahead floor before after kept (record kept { calls = c.act_session.new.calls }) w c.args.number _ _ point.unit_row s refl did) now small)))

pub returns-else-branch-clause-passes : goal.returns-else-branch-clause-passes
returns-else-branch-clause-passes g c =
    λ ahead floor before after w s now due passed others small.
    let none = ap length (c.in_ok-act_session.ensures.none c.if-branch.false) in
    omega (arith, none, c.in_ok-act_session.ensures.passes floor before w.calls s.calls s.tidy.numbers)
