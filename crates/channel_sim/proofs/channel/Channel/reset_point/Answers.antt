use Rattle.std.proofs.Common.{◌≡◌, [], sym, ◌∙◌, ap, subst}
use Rattle.std.proofs.lemmas.Result.{err_from_is_err_and}
use Rattle.link_frames.specs.declared.frame.End.TheVariants as «end»
use Rattle.link_frames.specs.declared.note.Note.TheVariants as note
use Rattle.channel_sim.specs.World.{Step, each}
use Rattle.channel_sim.specs.Lines.{item_step, session_resets}
use Rattle.channel_sim.specs.Lag.{level, StandsNow}
use Rattle.channel_sim.specs.Tidy.{numbers_of}
use Rattle.channel_sim.proofs.ActLemmas.{came_after}
use Rattle.channel_sim.proofs.CallsLemmas.{same_numbers}
use Rattle.channel_sim.proofs.LineLemmas.{item_came}
use Rattle.channel_sim.specs.inner.Beside.{numbers}
use Rattle.channel_sim.proofs.channel.Channel.reset_point.Goals as goal

pub returns-in_err-list_numbers-clause-step : goal.returns-in_err-list_numbers-clause-step
returns-in_err-list_numbers-clause-step g c =
    λ settled w s.
    let failed = err_from_is_err_and c.from_residual.result c.from_residual.ensures.1 in
    let law = g.met.H.Listener in
    rw failed.1 (law.longer _ _ [] _ (law.whole _ _ _ (law.unchanged _)))

pub returns-in_err-each_session_resets-clause-step : goal.returns-in_err-each_session_resets-clause-step
returns-in_err-each_session_resets-clause-step g c =
    λ settled w s.
    let kept = c.args.self.now in
    let residual = c.from_residual-in_err-each_session_resets in
    let failed = err_from_is_err_and residual.result residual.ensures.1 in
    let listed : c.deref.result.now ≡ numbers_of w.calls =
    c.deref.ensures.value ∙ c.in_ok-list_numbers.ensures ∙ ap numbers c.all.ensures
    ∙ sym (same_numbers (level settled kept.tick) (λ d. kept.tick) kept.calls w.calls s.calls) in
    let Partly = g.H.Listener.partly c.args.to.now c.each_session_resets.new.to in
    rw failed.1 (g.met.H.Listener.longer _ _ _ _
    (subst (λ ns. Partly (each session_resets ns w).entries) listed (c.in_err-each_session_resets.ensures.step settled w s)))

pub returns-clause-step : goal.returns-clause-step
returns-clause-step g c =
    λ settled w s.
    let kept = c.args.self.now in
    let law = g.met.H.Listener in
    let listed : c.deref.result.now ≡ numbers_of w.calls =
    c.deref.ensures.value ∙ c.in_ok-list_numbers.ensures ∙ ap numbers c.all.ensures
    ∙ sym (same_numbers (level settled kept.tick) (λ d. kept.tick) kept.calls w.calls s.calls) in
    let first : Step = each session_resets (numbers_of w.calls) w in
    let between = c.each_session_resets.new.self in
    let did = subst (λ ns. g.H.Listener.grew c.args.to.now c.each_session_resets.new.to (each session_resets ns w).entries × StandsNow settled between (each session_resets ns w).world)
    listed (c.in_ok-each_session_resets.ensures.step settled w s) in
    let Grew = g.H.Listener.grew c.each_session_resets.new.to c.tell.new.to in
    let Partly = g.H.Listener.partly c.each_session_resets.new.to c.tell.new.to in
    let restart = note.Restart «end».Point in
    came_after g.H.Listener.grew g.H.Listener.partly law.twice law.then_partly c.args.to.now c.each_session_resets.new.to c.tell.new.to c.tell.result between.tick (level settled between.tick) (λ d. between.tick) between first
    (item_step restart) did.0
    (item_came settled restart Grew Partly c.tell.result between first.world did.1 c.tell.ensures.ok c.tell.ensures.err)
