use Rattle.std.proofs.Common.{◌≡◌, ◌<◌, get_or, length, refl, ap, Some, sym, ◌∙◌, subst}
use Rattle.std.proofs.Math.ListN.{set}
use Rattle.channel_sim.specs.declared.calls.call.Call as kept
use Rattle.channel_sim.specs.World.{seated}
use Rattle.channel_sim.specs.Lag.{CallsLag, level}
use Rattle.channel_sim.proofs.CallsLemmas.{found_at, none_of, seated_nowhere}
use Rattle.channel_sim.proofs.ChangeLemmas.{admitted_at}
use Rattle.channel_sim.specs.inner.Turns.{OthersStay}
use Rattle.channel_sim.proofs.BesideLemmas.{found_number, noted_watched, stand_set, stay_both}
use Rattle.channel_sim.proofs.calls.sessions.admit.Goals as goal

pub returns-in_ok-turn : goal.returns-in_ok-turn
returns-in_ok-turn c =
    rw (← c.calls.view_is) (
    λ settled s ks h above stands live.
    let tick = c.args.tick in
    let floor = level settled tick in
    let xs = c.calls.inside.list.items in
    let place = found_at floor (λ e. tick) c.args.number xs xs ks _ refl c.in-Some.ensures.place h above in
    subst (λ o. CallsLag floor (λ e. tick) (set xs c.in-Some.i (record c.index_mut-call.result.now { session = o; passed = tick })) (seated c.args.number (Some s) ks)) (sym c.of-call.ensures)
    (subst (λ x. CallsLag floor (λ e. tick) (set xs c.in-Some.i (record x { session = Some c.args.session; passed = tick })) (seated c.args.number (Some s) ks)) (sym c.index_mut-call.ensures.value)
    (admitted_at settled tick c.args.number s c.args.session xs ks c.in-Some.i c.index_mut-call.result.now h place stands live))
    )

pub returns-in_default : goal.returns-in_default
returns-in_default c =
    rw (← c.calls.view_is) (
    λ settled s ks h above stands live.
    let tick = c.args.tick in
    let floor = level settled tick in
    let xs = c.calls.inside.list.items in
    let place = found_at floor (λ e. tick) c.args.number xs xs ks c.find.result refl c.find.ensures.place h above in
    subst (CallsLag floor (λ e. tick) xs) (sym (seated_nowhere c.args.number (Some s) ks (place ∙ none_of c.find.result c.in_default.not-Some))) h
    )

pub invariant_of-calls-in-Some : goal.invariant_of-calls-in-Some
invariant_of-calls-in-Some c =
    let h = c.calls.invariant in
    let xs = c.calls.inside.list.items in
    let i = c.in-Some.i in
    let x = c.index_mut-call.result.now in
    let y : kept.Call = record { passed = c.args.tick; session = c.of-call.result; number = x.number; up = x.up; down = x.down } in
    let inside : i < length xs = c.in-Some.ensures.within in
    let number = found_number c.args.number xs xs c.find.result i x refl h.numbers c.find.ensures.place c.in-Some.is inside in
    let value : x ≡ get_or xs i x = c.index_mut-call.ensures.value in
    let mine : y.number ≡ (get_or xs i x).number = ap (λ z. z.number) value in
    let woken = c.in_ok-turn.ensures.place in
    let stay = stay_both c.args.number c.calls.inside.turns c.wake.new.self c.note.new.self c.in_ok-turn.ensures.others (c.note.ensures.others c.args.number woken) in
    let one = noted_watched c.note.new.self c.args.number c.acts_from.result y (mine ∙ number) (c.note.ensures.this c.args.number woken) c.acts_from.ensures in
    stand_set c.calls.inside.turns c.note.new.self c.calls.inside.up c.calls.inside.down xs i x y inside mine (ap (λ z. z.up) value) (ap (λ z. z.down) value)
    (subst (λ n. OthersStay n c.calls.inside.turns c.note.new.self) (sym number) stay) one h
