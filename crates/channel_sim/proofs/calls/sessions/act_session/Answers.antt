use Rattle.channel_sim.proofs.BoundLemmas.{call_at}
use Rattle.std.proofs.Common.{◌≡◌, ◌<◌, get_or, refl, ap, ◌∙◌, false, sym, subst, ◌≤◌, ◌+◌, length}
use Rattle.psap_machine.specs.PointRows as point
use Rattle.channel_sim.specs.inner.Acts.{SessionDid, CallDid}
use Rattle.channel_sim.specs.inner.Beside.{Waits}
use Rattle.channel_sim.specs.Lag.{CallLags}
use Rattle.channel_sim.proofs.CallsLemmas.{found_at, did_at, lags_elsewhere, none_of}
use Rattle.channel_sim.specs.inner.Turns.{OthersStay}
use Rattle.channel_sim.proofs.BesideLemmas.{found_number, noted_watched, stand_set, stay_both}
use Rattle.channel_sim.proofs.WakeLemmas.{waiting_did}
use Rattle.channel_sim.proofs.calls.sessions.act_session.Goals as goal

pub returns-in_default-clause-did : goal.returns-in_default-clause-did
returns-in_default-clause-did g c =
    rw (← c.calls.view_is) (
    λ floor before after ks h above due passed others.
    let xs = c.calls.inside.list.items in
    let place = found_at floor before c.args.number xs xs ks c.find.result refl
    c.find.ensures.place h above ∙ none_of c.find.result c.in_default.not-Some in
    subst (λ ns. SessionDid floor after false ns xs c.args.number point.unit_row ks) (sym c.no_items.ensures)
    (lags_elsewhere floor before after 0 c.args.number point.unit_row xs ks h above place others)
    )

pub returns-clause-did : goal.returns-clause-did
returns-clause-did g c =
    rw (← c.calls.view_is) (
    λ floor before after ks h above due passed others.
    let xs = c.calls.inside.list.items in
    let place = found_at floor before c.args.number xs xs ks _ refl
    c.in-Some.ensures.place h above in
    did_at floor before after 0 c.args.number point.unit_row c.act_at-done.result c.act_at-done.new.items.items xs ks
    c.in-Some.i c.index_mut-call.result.now c.act_at-done.new.call h above place others
    (λ k number lags.
    subst (λ t. CallDid floor t c.act_at-done.result c.act_at-done.new.items.items c.act_at-done.new.call k point.unit_row) (sym passed)
    (c.act_at-done.ensures.did floor (before c.args.number) k
    (subst (λ x. CallLags floor (before c.args.number) x k) (sym c.index_mut-call.ensures.value) lags) due))
    )

pub returns-clause-passes : goal.returns-clause-passes
returns-clause-passes g c =
    rw (← c.calls.view_is) (
    λ floor before ks h above.
    let xs = c.calls.inside.list.items in
    let place = found_at floor before c.args.number xs xs ks _ refl
    c.in-Some.ensures.place h above in
    call_at (λ o. c.act_at-done.new.moments ≤ c.args.moments.now + length c.act_at-done.new.items.items) floor before
    c.args.number xs ks c.in-Some.i c.index_mut-call.result.now h place
    (λ k lags. c.act_at-done.ensures.passes floor (before c.args.number) k
    (subst (λ x. CallLags floor (before c.args.number) x k) (sym c.index_mut-call.ensures.value) lags))
    )

pub invariant_of-calls-2 : goal.invariant_of-calls-2
invariant_of-calls-2 g c =
    let h = c.calls.invariant in
    let xs = c.calls.inside.list.items in
    let i = c.in-Some.i in
    let x = c.index_mut-call.result.now in
    let y = c.act_at-done.new.call in
    let inside : i < length xs = c.in-Some.ensures.within in
    let number = found_number c.args.number xs xs c.find.result i x refl h.numbers c.find.ensures.place c.in-Some.is inside in
    let value : x ≡ get_or xs i x = c.index_mut-call.ensures.value in
    let mine : y.number ≡ (get_or xs i x).number = ap (λ z. z.number) c.act_at-done.ensures.same ∙ ap (λ z. z.number) value in
    let woken = c.in_ok-turn.ensures.place in
    let stay = stay_both c.args.number c.calls.inside.turns c.wake.new.self c.note.new.self c.in_ok-turn.ensures.others (c.note.ensures.others c.args.number woken) in
    let one = noted_watched c.note.new.self c.args.number c.acts_from.result y (mine ∙ number) (c.note.ensures.this c.args.number woken) c.acts_from.ensures in
    stand_set c.calls.inside.turns c.note.new.self c.calls.inside.up c.calls.inside.down xs i x y inside mine (ap (λ z. z.up) c.act_at-done.ensures.same ∙ ap (λ z. z.up) value) (ap (λ z. z.down) c.act_at-done.ensures.same ∙ ap (λ z. z.down) value)
    (subst (λ n. OthersStay n c.calls.inside.turns c.note.new.self) (sym number) stay) one h

pub returns-then-waits-clause-did : goal.returns-then-waits-clause-did
returns-then-waits-clause-did g c =
    rw (← c.calls.view_is) (
    λ floor before after ks h above due passed others.
    let xs = c.calls.inside.list.items in
    let place = found_at floor before c.args.number xs xs ks _ refl
    c.in-Some.ensures.place h above in
    subst (λ ns. SessionDid floor after false ns xs c.args.number point.unit_row ks) (sym c.no_items-then-waits.ensures)
    (waiting_did floor before after c.args.tick c.args.number xs ks c.in-Some.i c.index.result.now h above place others due passed
    (subst (Waits c.args.tick) c.index.ensures (c.waits.ensures c.if-waits.true)))
    )
