use Rattle.std.proofs.Common.{◌≡◌, ◌<◌, OnSome, length, arith, not, ap, sym, ◌∙◌, subst, refl}
use Rattle.std.specs.List.{remove}
use Rattle.std.specs.Option.{is_some}
use Rattle.std.specs.VecDeque.{deque_len}
use Rattle.channel_sim.specs.World.{with_legs}
use Rattle.channel_sim.specs.Lag.{CallsLag}
use Rattle.channel_sim.specs.inner.Turns.{OthersStay}
use Rattle.channel_sim.proofs.BesideLemmas.{found_number, stand_removed}
use Rattle.channel_sim.proofs.CallsLemmas.{found_at, none_of}
use Rattle.channel_sim.proofs.TidyLemmas.{dropped_at, session_has, all_still}
use Rattle.channel_sim.proofs.calls.drop_without_session.Goals as goal

-- the call at the place that was found is taken out
is_out : (c : goal.After-forget) → c.remove.new.self.items ≡ remove c.calls.inside.list.items c.in-Some.i
is_out c =
    let list = c.calls.inside.list in
    let at = c.in-Some.i in
    let within : at < length list.items = c.in-Some.ensures.within in
    let long = list.ok.0 in
    let inside : at < deque_len list = omega (arith, within, long) in
    subst (λ r. OnSome r (c.remove.new.self.items ≡ remove list.items at)) (c.remove.ensures.succeeds c.index.result.now inside) c.remove.ensures.items

pub returns-then-is_none : goal.returns-then-is_none
returns-then-is_none c =
    rw (← c.calls.view_is) (
    λ floor clock ic ks h above others out.
    let xs = c.calls.inside.list.items in
    let place = found_at floor clock c.args.number xs xs ks _ refl c.in-Some.ensures.place h above in
    let test = c.is_none.ensures in
    let tested = c.if-is_none.true in
    let look = c.index.ensures in
    subst (λ z. CallsLag floor clock z (with_legs ic ks)) (sym (is_out c))
    (dropped_at ic floor clock 0 c.args.number xs ks c.in-Some.i c.index.result.now h above place others (ap (λ z. is_some z.session) (sym look) ∙ test ∙ ap not tested) out)
    )

pub returns-else-is_none : goal.returns-else-is_none
returns-else-is_none c =
    rw (← c.calls.view_is) (
    λ floor clock ic ks h above others out.
    let xs = c.calls.inside.list.items in
    let place = found_at floor clock c.args.number xs xs ks _ refl c.in-Some.ensures.place h above in
    subst (λ z. CallsLag floor clock xs z) (sym (session_has ic floor clock 0 c.args.number xs ks c.in-Some.i c.index.result.now h above place others (ap (λ z. is_some z.session) (sym c.index.ensures) ∙ c.is_none.ensures ∙ ap not c.if-is_none.false))) h
    )

pub returns-in_default : goal.returns-in_default
returns-in_default c =
    rw (← c.calls.view_is) (
    λ floor clock ic ks h above others out.
    let xs = c.calls.inside.list.items in
    let place = found_at floor clock c.args.number xs xs ks c.find.result refl c.find.ensures.place h above in
    subst (λ z. CallsLag floor clock xs z) (sym (all_still ic c.args.number ks others (place ∙ none_of c.find.result c.in_default.not-Some))) h
    )

pub invariant_of-calls : goal.invariant_of-calls
invariant_of-calls c =
    let xs = c.calls.inside.list.items in
    let i = c.in-Some.i in
    let d = c.index.result.now in
    let h = c.calls.invariant in
    let inside : i < length xs = c.in-Some.ensures.within in
    let number = found_number c.args.number xs xs c.find.result i d refl h.numbers c.find.ensures.place c.in-Some.is inside in
    rw (is_out c)
    (stand_removed c.calls.inside.turns c.forget.new.self c.calls.inside.up c.calls.inside.down xs i d inside
    (subst (λ n. OthersStay n c.calls.inside.turns c.forget.new.self) (sym number) c.forget.ensures) h)
