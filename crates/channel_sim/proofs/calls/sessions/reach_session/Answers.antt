use Rattle.std.proofs.Common.{◌≡◌, get_or, ℕ, ◌<◌, false, length, refl, ap, sym, ◌∙◌, subst, ◌+◌, ◌≤◌}
use Rattle.std.specs.Option.{is_some}
use Rattle.psap_machine.specs.Point.{Point}
use Rattle.psap_machine.specs.PointRows as point
use Rattle.channel_sim.specs.inner.Acts.{SessionDid}
use Rattle.channel_sim.specs.inner.Passes.{once_if}
use Rattle.channel_sim.specs.inner.Turns.{OthersStay}
use Rattle.channel_sim.specs.Lag.{CallLags}
use Rattle.channel_sim.proofs.BoundLemmas.{call_at}
use Rattle.channel_sim.proofs.CallsLemmas.{found_at, no_session, did_at, did_nowhere, seat_there}
use Rattle.channel_sim.proofs.BesideLemmas.{found_number, noted_watched, stand_set, stay_both}
use Rattle.channel_sim.proofs.calls.sessions.reach_session.Goals as goal

pub returns-in_ok-turn-in-Some-clause-variant : goal.returns-in_ok-turn-in-Some-clause-variant
returns-in_ok-turn-in-Some-clause-variant g c =
    rw (← c.calls.view_is) (
    λ floor ks h above.
    let xs = c.calls.inside.list.items in
    let clock = λ (e : ℕ). c.args.tick in
    let place = found_at floor clock c.args.number xs xs ks _ refl c.in-Some.ensures.place h above in
    call_at (λ o. c.hear_call-there.result ≡ is_some o) floor clock c.args.number xs ks c.in-Some.i c.index_mut-call.result.now h place
    (λ k lags.
    let caught = c.reach_up.ensures.caught floor k (subst (λ x. CallLags floor c.args.tick x k) (sym c.index_mut-call.ensures.value) lags) in
    c.hear_call-there.ensures.variant ∙ seat_there _ _ _ caught.session)
    )

pub returns-in-None-clause-variant : goal.returns-in-None-clause-variant
returns-in-None-clause-variant g c =
    rw (← c.calls.view_is) (
    λ floor ks h above.
    let xs = c.calls.inside.list.items in
    let clock = λ (e : ℕ). c.args.tick in
    let place = found_at floor clock c.args.number xs xs ks _ refl c.in-None.ensures.place h above in
    ap is_some (sym (no_session c.args.number ks place))
    )

pub returns-in_ok-turn-in-Some-clause-did : goal.returns-in_ok-turn-in-Some-clause-did
returns-in_ok-turn-in-Some-clause-did g c =
    rw (← c.calls.view_is) (
    λ floor ks h above low.
    let row = λ (s : Point). point.point_row s (point.heard c.args.event.now) in
    let xs = c.calls.inside.list.items in
    let clock = λ (e : ℕ). c.args.tick in
    let place = found_at floor clock c.args.number xs xs ks _ refl c.in-Some.ensures.place h above in
    did_at floor clock clock 0 c.args.number row c.hear_call-there.result c.hear_call-there.new.items.items xs ks c.in-Some.i
    c.index_mut-call.result.now c.hear_call-there.new.call h above place (λ j other. refl)
    (λ k number lags.
    c.hear_call-there.ensures.did floor k
    (c.reach_up.ensures.caught floor k (subst (λ x. CallLags floor c.args.tick x k) (sym c.index_mut-call.ensures.value) lags))
    low c.reach_up.ensures.reached)
    )

pub returns-in-None-clause-did : goal.returns-in-None-clause-did
returns-in-None-clause-did g c =
    rw (← c.calls.view_is) (
    λ floor ks h above low.
    let row = λ (s : Point). point.point_row s (point.heard c.args.event.now) in
    let xs = c.calls.inside.list.items in
    let clock = λ (e : ℕ). c.args.tick in
    let place = found_at floor clock c.args.number xs xs ks _ refl c.in-None.ensures.place h above in
    subst (λ ns. SessionDid floor clock false ns xs c.args.number row ks) (sym c.no_items.ensures)
    (did_nowhere floor clock c.args.number row xs ks h place)
    )

pub returns-in_ok-turn-in-Some-clause-passes : goal.returns-in_ok-turn-in-Some-clause-passes
returns-in_ok-turn-in-Some-clause-passes g c =
    rw (← c.calls.view_is) (
    λ floor ks h above small.
    let xs = c.calls.inside.list.items in
    let clock = λ (e : ℕ). c.args.tick in
    let place = found_at floor clock c.args.number xs xs ks _ refl c.in-Some.ensures.place h above in
    call_at (λ o. c.reach_up.new.moments ≤ c.args.moments.now + once_if o) floor clock c.args.number xs ks c.in-Some.i c.index_mut-call.result.now h place
    (λ k lags. c.reach_up.ensures.passes floor k (subst (λ x. CallLags floor c.args.tick x k) (sym c.index_mut-call.ensures.value) lags) small)
    )

pub invariant_of-calls-in-Some : goal.invariant_of-calls-in-Some
invariant_of-calls-in-Some g c =
    let h = c.calls.invariant in
    let xs = c.calls.inside.list.items in
    let i = c.in-Some.i in
    let x = c.index_mut-call.result.now in
    let y = c.hear_call-there.new.call in
    let inside : i < length xs = c.in-Some.ensures.within in
    let number = found_number c.args.number xs xs c.find.result i x refl h.numbers c.find.ensures.place c.in-Some.is inside in
    let value : x ≡ get_or xs i x = c.index_mut-call.ensures.value in
    let heard = c.hear_call-there.ensures.same in
    let caught = c.reach_up.ensures.same in
    let mine : y.number ≡ (get_or xs i x).number = ap (λ z. z.number) heard ∙ ap (λ z. z.number) caught ∙ ap (λ z. z.number) value in
    let woken = c.in_ok-turn-in-Some.ensures.place in
    let stay = stay_both c.args.number c.calls.inside.turns c.wake.new.self c.note.new.self c.in_ok-turn-in-Some.ensures.others (c.note.ensures.others c.args.number woken) in
    let one = noted_watched c.note.new.self c.args.number c.acts_from.result y (mine ∙ number) (c.note.ensures.this c.args.number woken) c.acts_from.ensures in
    stand_set c.calls.inside.turns c.note.new.self c.calls.inside.up c.calls.inside.down xs i x y inside mine
    (ap (λ z. z.up) heard ∙ ap (λ z. z.up) caught ∙ ap (λ z. z.up) value) (ap (λ z. z.down) heard ∙ ap (λ z. z.down) caught ∙ ap (λ z. z.down) value)
    (subst (λ n. OthersStay n c.calls.inside.turns c.note.new.self) (sym number) stay) one h
