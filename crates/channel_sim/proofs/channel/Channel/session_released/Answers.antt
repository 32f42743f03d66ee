use Rattle.std.proofs.Common.{[], ◌≡◌, true, false, refl, sym, ◌∙◌, subst}
use Rattle.std.proofs.lemmas.Result.{err_from_is_err_and}
use Rattle.std.specs.Option.{is_some}
use Rattle.link_frames.specs.declared.note.Why.TheVariants as why
use Rattle.psap_machine.specs.Point.{Point}
use Rattle.psap_machine.specs.PointRows as point
use Rattle.channel_sim.specs.World as model
use Rattle.channel_sim.specs.inner.Acts.{seat_after}
use Rattle.channel_sim.specs.Lag.{CameAt, StandsAt}
use Rattle.channel_sim.proofs.SessionLemmas.{session_ready, session_step, no_session_step, nobody_did}
use Rattle.channel_sim.proofs.channel.Channel.session_released.Goals as goal

pub returns-in_err-hear_session-clause-step : goal.returns-in_err-hear_session-clause-step
returns-in_err-hear_session-clause-step g c =
    λ ahead floor clock w s.
    let failed = err_from_is_err_and c.from_residual.result c.from_residual.ensures.1 in
    let law = g.met.H.Listener in
    rw failed.1 (law.longer _ _ [] _ (law.whole _ _ _ (law.unchanged _)))

pub returns-then-branch-clause-step : goal.returns-then-branch-clause-step
returns-then-branch-clause-step g c =
    λ ahead floor clock w s.
    let row = λ (p : Point). point.point_row p (point.Ended why.Release) in
    let kept = c.args.self.now in
    let heard = c.in_ok-hear_session.ensures.ended floor clock w.calls s.calls s.tidy.numbers refl in
    let there : is_some (model.session_of c.args.number w.calls) ≡ true = sym (c.in_ok-hear_session.ensures.variant floor clock w.calls s.calls s.tidy.numbers) ∙ c.if-branch.true in
    let after = model.seated c.args.number (seat_after row (model.session_of c.args.number w.calls)) w.calls in
    let Step = λ (z : model.Step). CameAt (g.H.Listener.grew c.args.to.now c.did.new.to) (g.H.Listener.partly c.args.to.now c.did.new.to) c.did.result ahead floor clock c.did.new.self z in
    subst Step (sym (session_step c.args.number w row there))
    (subst (λ items. Step (model.did w items w.vehicle after)) (c.as_slice.ensures.value ∙ heard.items)
    (c.did.ensures.step ahead floor clock w w.vehicle after
    (session_ready ahead floor clock clock kept (record kept { calls = c.hear_session.new.calls }) w c.args.number _ _ row s refl heard)))

pub returns-else-branch-clause-step : goal.returns-else-branch-clause-step
returns-else-branch-clause-step g c =
    λ ahead floor clock w s.
    let row = λ (p : Point). point.point_row p (point.Ended why.Release) in
    let kept = c.args.self.now in
    let did = c.in_ok-hear_session.ensures.ended floor clock w.calls s.calls s.tidy.numbers refl in
    let gone : is_some (model.session_of c.args.number w.calls) ≡ false = sym (c.in_ok-hear_session.ensures.variant floor clock w.calls s.calls s.tidy.numbers) ∙ c.if-branch.false in
    let moved = record kept { calls = c.hear_session.new.calls } in
    subst (λ (z : model.Step). g.H.Listener.grew c.args.to.now c.args.to.now z.entries × StandsAt ahead floor clock moved z.world) (sym (no_session_step c.args.number w row gone))
    (g.met.H.Listener.unchanged _, nobody_did ahead floor clock clock kept moved w c.args.number _ _ row s refl gone did)
