use Rattle.std.proofs.Common.{[], ℕ, if◌then◌else◌, ◌≡◌, true, false, refl, ap, sym, ◌∙◌, subst, ◌+◌, ◌≤◌, length, arith}
use Rattle.std.proofs.lemmas.Result.{err_from_is_err_and}
use Rattle.std.specs.Option.{is_some}
use Rattle.psap_machine.specs.Point.{Point}
use Rattle.psap_machine.specs.PointRows as point
use Rattle.link_frames.specs.Frame.{lent}
use Rattle.channel_sim.specs.World as model
use Rattle.channel_sim.specs.Handing.{full}
use Rattle.channel_sim.specs.inner.Acts.{seat_after}
use Rattle.channel_sim.specs.Lag.{CameAt, StandsAt}
use Rattle.channel_sim.specs.Passes.{passes_of}
use Rattle.channel_sim.proofs.BoundLemmas.{fewer, handed_up_more, unheard_more}
use Rattle.channel_sim.proofs.HandLemmas.{came_alike, up_alike}
use Rattle.channel_sim.proofs.SessionLemmas.{session_ready, session_step, nobody_did}
use Rattle.channel_sim.proofs.channel.Channel.hand_up.Goals as goal

pub returns-in_err-reach_session-clause-step : goal.returns-in_err-reach_session-clause-step
returns-in_err-reach_session-clause-step g c =
    λ ahead floor w s now.
    let failed = err_from_is_err_and c.from_residual.result c.from_residual.ensures.1 in
    let law = g.met.H.Listener in
    rw failed.1 (law.longer _ _ [] _ (law.whole _ _ _ (law.unchanged _)))

pub returns-then-branch-clause-step : goal.returns-then-branch-clause-step
returns-then-branch-clause-step g c =
    λ ahead floor w s now.
    let kept = c.args.self.now in
    let t = kept.tick in
    let number = c.args.number in
    let sent = lent c.lend.result in
    let row = λ (p : Point). point.point_row p (point.Arrives sent) in
    let s0 = subst (λ n. StandsAt n floor (λ d. n) kept w) now s in
    let clock = λ (d : ℕ). t in
    let low : floor.waking ≤ t = let a : floor.waking ≤ kept.passed = s0.from in let b : kept.passed ≤ t = s0.passed in omega arith in
    let heard = c.in_ok-reach_session.ensures.did floor w.calls s0.calls s0.tidy.numbers low in
    let there : is_some (model.session_of number w.calls) ≡ true = sym (c.in_ok-reach_session.ensures.variant floor w.calls s0.calls s0.tidy.numbers) ∙ c.if-branch.true in
    let after = model.seated number (seat_after row (model.session_of number w.calls)) w.calls in
    let Grew = g.H.Listener.grew c.args.to.now c.settles.new.to in
    let Partly = g.H.Listener.partly c.args.to.now c.settles.new.to in
    let Step = λ (z : model.Step). CameAt Grew Partly c.settles.result t floor clock c.settles.new.self (model.settled z) in
    let did = subst Step (sym (session_step number w row there))
    (subst (λ items. Step (model.did w items w.vehicle after)) (c.as_slice-items.ensures.value ∙ heard.items)
    (c.settles.ensures.step t floor clock w w.vehicle after
    (session_ready t floor clock clock kept (record kept { calls = c.reach_session.new.calls }) w number _ _ row s0 refl heard) refl)) in
    let due : model.Due = record { call = number; frame = full c.args.frame.now } in
    subst (λ n. CameAt Grew Partly c.settles.result n floor (λ e. n) c.settles.new.self (model.hands_up due w)) (sym now)
    (came_alike Grew Partly c.settles.result t floor clock c.settles.new.self (model.hands_up due w)
    (model.performs (model.Session number (point.Arrives (full c.args.frame.now))) w) (up_alike due w)
    (subst (λ f. CameAt Grew Partly c.settles.result t floor clock c.settles.new.self (model.performs (model.Session number (point.Arrives f)) w)) c.lend.ensures did))

pub returns-else-branch-clause-step : goal.returns-else-branch-clause-step
returns-else-branch-clause-step g c =
    λ ahead floor w s now.
    let kept = c.args.self.now in
    let t = kept.tick in
    let number = c.args.number in
    let sent = lent c.lend.result in
    let row = λ (p : Point). point.point_row p (point.Arrives sent) in
    let s0 = subst (λ n. StandsAt n floor (λ d. n) kept w) now s in
    let clock = λ (d : ℕ). t in
    let low : floor.waking ≤ t = let a : floor.waking ≤ kept.passed = s0.from in let b : kept.passed ≤ t = s0.passed in omega arith in
    let heard = c.in_ok-reach_session.ensures.did floor w.calls s0.calls s0.tidy.numbers low in
    let gone : is_some (model.session_of number w.calls) ≡ false = sym (c.in_ok-reach_session.ensures.variant floor w.calls s0.calls s0.tidy.numbers) ∙ c.if-branch.false in
    let moved = record kept { calls = c.reach_session.new.calls } in
    let due : model.Due = record { call = number; frame = full c.args.frame.now } in
    let quiet : model.hands_up due w ≡ model.quiet_step w = ap (λ b. if b then model.one_handed (model.performs (model.Session number (point.Arrives (full c.args.frame.now))) w) else model.quiet_step w) gone in
    subst (λ n. g.H.Listener.grew c.args.to.now c.args.to.now (model.hands_up due w).entries × StandsAt n floor (λ e. n) moved (model.hands_up due w).world) (sym now)
    (subst (λ (z : model.Step). g.H.Listener.grew c.args.to.now c.args.to.now z.entries × StandsAt t floor clock moved z.world) (sym quiet)
    (g.met.H.Listener.unchanged _, nobody_did t floor clock clock kept moved w number _ _ row s0 refl gone heard))

pub returns-then-branch-clause-passes : goal.returns-then-branch-clause-passes
returns-then-branch-clause-passes g c =
    λ ahead floor w s now small.
    let kept = c.args.self.now in
    let t = kept.tick in
    let number = c.args.number in
    let sent = lent c.lend.result in
    let row = λ (p : Point). point.point_row p (point.Arrives sent) in
    let s0 = subst (λ n. StandsAt n floor (λ d. n) kept w) now s in
    let clock = λ (d : ℕ). t in
    let low : floor.waking ≤ t = let a : floor.waking ≤ kept.passed = s0.from in let b : kept.passed ≤ t = s0.passed in omega arith in
    let heard = c.in_ok-reach_session.ensures.did floor w.calls s0.calls s0.tidy.numbers low in
    let there : is_some (model.session_of number w.calls) ≡ true = sym (c.in_ok-reach_session.ensures.variant floor w.calls s0.calls s0.tidy.numbers) ∙ c.if-branch.true in
    let after = model.seated number (seat_after row (model.session_of number w.calls)) w.calls in
    let mid = c.reach_session.new.moments in
    let Step = λ (z : model.Step). c.settles.new.moments ≤ mid + passes_of (model.settled z) in
    let did = subst Step (sym (session_step number w row there))
    (subst (λ items. Step (model.did w items w.vehicle after)) (c.as_slice-items.ensures.value ∙ heard.items)
    (fewer c.settles.new.moments (length c.as_slice-items.result.now) (mid + passes_of (model.settled (model.did w c.as_slice-items.result.now w.vehicle after)))
    (c.settles.ensures.passes t floor clock w w.vehicle after
    (session_ready t floor clock clock kept (record kept { calls = c.reach_session.new.calls }) w number _ _ row s0 refl heard) refl small))) in
    handed_up_more (record { call = number; frame = full c.args.frame.now }) w c.args.moments.now mid c.settles.new.moments
    (c.reach_session.ensures.passes floor w.calls s0.calls s0.tidy.numbers small)
    (subst (λ f. c.settles.new.moments ≤ mid + passes_of (model.performs (model.Session number (point.Arrives f)) w)) c.lend.ensures did)

pub returns-else-branch-clause-passes : goal.returns-else-branch-clause-passes
returns-else-branch-clause-passes g c =
    λ ahead floor w s now small.
    let kept = c.args.self.now in
    let number = c.args.number in
    let s0 = subst (λ n. StandsAt n floor (λ d. n) kept w) now s in
    let gone : is_some (model.session_of number w.calls) ≡ false = sym (c.in_ok-reach_session.ensures.variant floor w.calls s0.calls s0.tidy.numbers) ∙ c.if-branch.false in
    unheard_more (model.session_of number w.calls) c.args.moments.now c.reach_session.new.moments _ gone
    (c.reach_session.ensures.passes floor w.calls s0.calls s0.tidy.numbers small)
