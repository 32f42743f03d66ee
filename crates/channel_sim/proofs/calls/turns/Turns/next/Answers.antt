use Rattle.std.proofs.Common.{◌≡◌, ◌≤◌, ◌<◌, drop, take, sym, ◌∙◌, subst}
use Rattle.std.specs.List.{AllByRecursion}
use Rattle.channel_sim.specs.inner.Turns.{HasTurn, Rise, calls_of}
use Rattle.channel_sim.proofs.TurnLemmas.{next_from, next_others}
use Rattle.channel_sim.proofs.calls.turns.Turns.next.Goals as goal

pub returns-clause-from : goal.returns-clause-from
returns-clause-from c =
    let first = c.first_turn-first.result in
    let ts = c.deref-2.result.now in
    let same : c.deref.result.now ≡ ts = c.deref.ensures.value ∙ sym c.deref-2.ensures.value in
    let rise : Rise (calls_of c.deref.result.now) = subst (λ z. Rise (calls_of z)) (sym c.deref.ensures.value) c.self.invariant in
    next_from c.args.from first ts c.first_by.result
    (subst (λ z. AllByRecursion (λ x. c.args.from ≤ x) (drop first (calls_of z))) same (c.first_turn-first.ensures.behind rise)) c.first_by.ensures.among

pub returns-clause-others : goal.returns-clause-others
returns-clause-others c =
    λ call n has.
    let first = c.first_turn-first.result in
    let ts = c.deref-2.result.now in
    let same : c.deref.result.now ≡ ts = c.deref.ensures.value ∙ sym c.deref-2.ensures.value in
    let view : c.self.inside.list.items ≡ c.args.self.now = c.self.view_is in
    let rise : Rise (calls_of c.deref.result.now) = subst (λ z. Rise (calls_of z)) (sym c.deref.ensures.value) c.self.invariant in
    next_others c.args.from first c.args.tick ts c.first_by.result (subst (λ z. Rise (calls_of z)) same rise)
    (subst (λ z. AllByRecursion (λ x. x < c.args.from) (take first (calls_of z))) same (c.first_turn-first.ensures.below rise)) c.first_by.ensures.others
    call n (subst (HasTurn call n) (sym (c.deref-2.ensures.value ∙ view)) has)
