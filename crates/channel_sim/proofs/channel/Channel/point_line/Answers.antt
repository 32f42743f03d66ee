use Rattle.std.proofs.Common.{[], ◌≡◌, ℕ, true, false, refl, sym, ◌∙◌, subst, arith}
use Rattle.std.proofs.lemmas.Result.{err_from_is_err_and}
use Rattle.std.specs.Option.{is_some}
use Rattle.psap_machine.specs.Point.{Point}
use Rattle.psap_machine.specs.PointRows as point
use Rattle.channel_sim.specs.World as model
use Rattle.channel_sim.specs.Lines as lines
use Rattle.channel_sim.specs.inner.Acts.{seat_after}
use Rattle.channel_sim.specs.Lag.{level, CameNow, CameAt}
use Rattle.channel_sim.proofs.LineLemmas.{one_deed, came_now, all_caught, nothing_came}
use Rattle.channel_sim.proofs.SessionLemmas.{session_ready, session_step, nobody_did}
use Rattle.channel_sim.proofs.channel.Channel.point_line.Goals as goal

pub returns-in_err-hear_session-clause-step : goal.returns-in_err-hear_session-clause-step
returns-in_err-hear_session-clause-step g c =
    λ settled w s.
    let failed = err_from_is_err_and c.from_residual.result c.from_residual.ensures.1 in
    let law = g.met.H.Listener in
    rw failed.1 (law.longer _ _ [] _ (law.whole _ _ _ (law.unchanged _)))

pub returns-then-branch-clause-step : goal.returns-then-branch-clause-step
returns-then-branch-clause-step g c =
    λ settled w s.
    let kept = c.args.self.now in
    let clock = λ (d : ℕ). kept.tick in
    let number = c.args.number in
    let row = λ (p : Point). point.point_row p (point.heard c.args.event.now) in
    let act = model.Session number (point.heard c.args.event.now) in
    let Grew = g.H.Listener.grew c.args.to.now c.settles.new.to in
    let Partly = g.H.Listener.partly c.args.to.now c.settles.new.to in
    let heard = c.in_ok-hear_session.ensures.did (level settled kept.tick) clock w.calls s.calls s.tidy.numbers (omega arith) refl
    (all_caught settled kept.tick number kept.calls w.calls s.calls) in
    let there : is_some (model.session_of number w.calls) ≡ true =
    sym (c.in_ok-hear_session.ensures.variant (level settled kept.tick) clock w.calls s.calls s.tidy.numbers) ∙ c.if-branch.true in
    let after = model.seated number (seat_after row (model.session_of number w.calls)) w.calls in
    let Step = λ (z : model.Step).
    CameAt Grew Partly c.settles.result kept.tick (level settled kept.tick) clock c.settles.new.self (model.settled z) in
    let did : CameAt Grew Partly c.settles.result kept.tick (level settled kept.tick) clock c.settles.new.self (model.performs act w) =
    subst Step (sym (session_step number w row there))
    (subst (λ items. Step (model.did w items w.vehicle after)) (c.as_slice-items.ensures.value ∙ heard.items)
    (c.settles.ensures.step kept.tick (level settled kept.tick) clock w w.vehicle after
    (session_ready kept.tick (level settled kept.tick) clock clock kept (record kept { calls = c.hear_session.new.calls }) w number _ _
    row s refl heard) refl)) in
    subst
    (λ b. CameNow Grew Partly c.settles.result settled c.settles.new.self (lines.or_nothing (lines.when b (lines.Does act)) w))
    (sym there)
    (subst (CameNow Grew Partly c.settles.result settled c.settles.new.self) (sym (one_deed (lines.Does act) w))
    (came_now Grew Partly c.settles.result settled kept.tick c.settles.new.self (model.performs act w) c.settles.ensures.tick
    did))

pub returns-else-branch-clause-step : goal.returns-else-branch-clause-step
returns-else-branch-clause-step g c =
    λ settled w s.
    let kept = c.args.self.now in
    let clock = λ (d : ℕ). kept.tick in
    let number = c.args.number in
    let row = λ (p : Point). point.point_row p (point.heard c.args.event.now) in
    let act = model.Session number (point.heard c.args.event.now) in
    let Grew = g.H.Listener.grew c.args.to.now c.tell_nothing.new.to in
    let Partly = g.H.Listener.partly c.args.to.now c.tell_nothing.new.to in
    let heard = c.in_ok-hear_session.ensures.did (level settled kept.tick) clock w.calls s.calls s.tidy.numbers (omega arith) refl
    (all_caught settled kept.tick number kept.calls w.calls s.calls) in
    let gone : is_some (model.session_of number w.calls) ≡ false =
    sym (c.in_ok-hear_session.ensures.variant (level settled kept.tick) clock w.calls s.calls s.tidy.numbers) ∙ c.if-branch.false in
    let moved = record kept { calls = c.hear_session.new.calls } in
    subst (λ b. CameNow Grew Partly c.tell_nothing.result settled moved (lines.or_nothing (lines.when b (lines.Does act)) w))
    (sym gone)
    (nothing_came settled Grew Partly c.tell_nothing.result moved w
    (nobody_did kept.tick (level settled kept.tick) clock clock kept moved w number _ _ row s refl gone heard)
    c.tell_nothing.ensures.ok c.tell_nothing.ensures.err)
