use Rattle.std.proofs.Common.{◌≡◌, ◌<◌, get_or, false, refl, ap, sym, ◌∙◌, subst, length}
use Rattle.std.specs.Option.{is_some}
use Rattle.psap_machine.specs.Point.{Point}
use Rattle.psap_machine.specs.PointRows as point
use Rattle.link_frames.specs.declared.note.Why.TheVariants as why
use Rattle.channel_sim.specs.inner.Acts.{CallDid, SessionDid, IsUpTo}
use Rattle.channel_sim.specs.Lag.{CallLags}
use Rattle.channel_sim.proofs.CallsLemmas.{found_at, is_there, no_session, did_at, did_nowhere, caught_at, number_found}
use Rattle.channel_sim.specs.inner.Turns.{OthersStay}
use Rattle.channel_sim.proofs.BesideLemmas.{found_number, noted_watched, stand_set, stay_both}
use Rattle.channel_sim.proofs.calls.sessions.hear_session.Goals as goal

pub returns-in-None-clause-variant : goal.returns-in-None-clause-variant
returns-in-None-clause-variant c =
    rw (← c.calls.view_is) (
    λ floor clock ks h above.
    let place = found_at floor clock c.args.number c.calls.inside.list.items c.calls.inside.list.items ks _ refl
    c.in-None.ensures.place h above in
    ap is_some (sym (no_session c.args.number ks place))
    )

pub returns-in_ok-turn-in-Some-clause-variant : goal.returns-in_ok-turn-in-Some-clause-variant
returns-in_ok-turn-in-Some-clause-variant c =
    rw (← c.calls.view_is) (
    λ floor clock ks h above.
    let xs = c.calls.inside.list.items in
    let place = found_at floor clock c.args.number xs xs ks _ refl
    c.in-Some.ensures.place h above in
    c.hear_call-there.ensures.variant ∙ ap (λ x. is_some x.session) c.index_mut-call.ensures.value
    ∙ is_there floor clock c.args.number xs ks c.in-Some.i c.index_mut-call.result.now h place
    )

pub returns-in-None-clause-did : goal.returns-in-None-clause-did
returns-in-None-clause-did c =
    rw (← c.calls.view_is) (
    λ floor clock ks h above low same caught.
    let row = λ (s : Point). point.point_row s (point.heard c.args.event.now) in
    let xs = c.calls.inside.list.items in
    let place = found_at floor clock c.args.number xs xs ks _ refl
    c.in-None.ensures.place h above in
    subst (λ ns. SessionDid floor clock false ns xs c.args.number row ks) (sym c.no_items.ensures)
    (did_nowhere floor clock c.args.number row xs ks h place)
    )

pub returns-in_ok-turn-in-Some-clause-did : goal.returns-in_ok-turn-in-Some-clause-did
returns-in_ok-turn-in-Some-clause-did c =
    rw (← c.calls.view_is) (
    λ floor clock ks h above low same caught.
    let row = λ (s : Point). point.point_row s (point.heard c.args.event.now) in
    let xs = c.calls.inside.list.items in
    let place = found_at floor clock c.args.number xs xs ks _ refl
    c.in-Some.ensures.place h above in
    let inside : c.in-Some.i < length xs = c.in-Some.ensures.within in
    let here = number_found floor clock c.args.number xs ks c.in-Some.i c.index_mut-call.result.now h place inside in
    let passed = caught_at floor clock c.args.number xs c.in-Some.i c.index_mut-call.result.now caught inside here in
    did_at floor clock clock 0 c.args.number row c.hear_call-there.result c.hear_call-there.new.items.items xs ks c.in-Some.i
    c.index_mut-call.result.now c.hear_call-there.new.call h above place (λ j other. refl)
    (λ k number lags.
    let at = subst (λ x. CallLags floor (clock c.args.number) x k) (sym c.index_mut-call.ensures.value) lags in
    subst (λ n. CallDid floor n c.hear_call-there.result c.hear_call-there.new.items.items c.hear_call-there.new.call k row) (sym same)
    (c.hear_call-there.ensures.did floor k (subst (λ n. CallLags floor n c.index_mut-call.result.now k) same at) low
    (subst (λ n. IsUpTo n c.index_mut-call.result.now) same (subst (λ x. IsUpTo (clock c.args.number) x) (sym c.index_mut-call.ensures.value) passed))))
    )

pub returns-in-None-clause-ended : goal.returns-in-None-clause-ended
returns-in-None-clause-ended c =
    rw (← c.calls.view_is) (
    λ floor clock ks h above is.
    let row = λ (s : Point). point.point_row s (point.Ended why.Release) in
    let xs = c.calls.inside.list.items in
    let place = found_at floor clock c.args.number xs xs ks _ refl
    c.in-None.ensures.place h above in
    subst (λ ns. SessionDid floor clock false ns xs c.args.number row ks) (sym c.no_items.ensures)
    (did_nowhere floor clock c.args.number row xs ks h place)
    )

pub returns-in_ok-turn-in-Some-clause-ended : goal.returns-in_ok-turn-in-Some-clause-ended
returns-in_ok-turn-in-Some-clause-ended c =
    rw (← c.calls.view_is) (
    λ floor clock ks h above is.
    let row = λ (s : Point). point.point_row s (point.Ended why.Release) in
    let xs = c.calls.inside.list.items in
    let place = found_at floor clock c.args.number xs xs ks _ refl
    c.in-Some.ensures.place h above in
    did_at floor clock clock 0 c.args.number row c.hear_call-there.result c.hear_call-there.new.items.items xs ks c.in-Some.i
    c.index_mut-call.result.now c.hear_call-there.new.call h above place (λ j other. refl)
    (λ k number lags. c.hear_call-there.ensures.ended floor (clock c.args.number) k
    (subst (λ x. CallLags floor (clock c.args.number) x k) (sym c.index_mut-call.ensures.value) lags) is)
    )

pub invariant_of-calls-in-Some : goal.invariant_of-calls-in-Some
invariant_of-calls-in-Some c =
    let h = c.calls.invariant in
    let xs = c.calls.inside.list.items in
    let i = c.in-Some.i in
    let x = c.index_mut-call.result.now in
    let y = c.hear_call-there.new.call in
    let inside : i < length xs = c.in-Some.ensures.within in
    let number = found_number c.args.number xs xs c.find.result i x refl h.numbers c.find.ensures.place c.in-Some.is inside in
    let value : x ≡ get_or xs i x = c.index_mut-call.ensures.value in
    let mine : y.number ≡ (get_or xs i x).number = ap (λ z. z.number) c.hear_call-there.ensures.same ∙ ap (λ z. z.number) value in
    let woken = c.in_ok-turn-in-Some.ensures.place in
    let stay = stay_both c.args.number c.calls.inside.turns c.wake.new.self c.note.new.self c.in_ok-turn-in-Some.ensures.others (c.note.ensures.others c.args.number woken) in
    let one = noted_watched c.note.new.self c.args.number c.acts_from.result y (mine ∙ number) (c.note.ensures.this c.args.number woken) c.acts_from.ensures in
    stand_set c.calls.inside.turns c.note.new.self c.calls.inside.up c.calls.inside.down xs i x y inside mine (ap (λ z. z.up) c.hear_call-there.ensures.same ∙ ap (λ z. z.up) value) (ap (λ z. z.down) c.hear_call-there.ensures.same ∙ ap (λ z. z.down) value)
    (subst (λ n. OthersStay n c.calls.inside.turns c.note.new.self) (sym number) stay) one h
