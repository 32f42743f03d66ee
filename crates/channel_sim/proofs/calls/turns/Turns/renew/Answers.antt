use Rattle.std.proofs.Common.{◌≡◌, length, ap, sym, ◌∙◌, subst}
use Rattle.std.specs.List.{AllByRecursion}
use Rattle.std.proofs.lemmas.List.{with_items_is}
use Rattle.channel_sim.specs.inner.Turns.{IsListed, IsWatched, Rise, Sleeps, calls_of}
use Rattle.channel_sim.proofs.TurnLemmas.{retained_rise, retained_watched}
use Rattle.channel_sim.proofs.calls.turns.Turns.renew.Goals as goal

pub invariant_of-self : goal.invariant_of-self
invariant_of-self c =
    let us = c.renew_each.new.turns in
    let many : length us ≡ c.self.inside.list.len = c.renew_each.auto.turns ∙ c.deref_mut.ensures.len in
    let rise : Rise (calls_of us) = subst Rise (sym c.renew_each.ensures.same) (subst (λ z. Rise (calls_of z)) (sym c.deref_mut.ensures.value) c.self.invariant) in
    subst (λ z. Rise (calls_of z)) (sym (with_items_is c.self.inside.list us many)) rise

pub invariant_of-self-2 : goal.invariant_of-self-2
invariant_of-self-2 c =
    let us = c.renew_each.new.turns in
    let many : length us ≡ c.self.inside.list.len = c.renew_each.auto.turns ∙ c.deref_mut.ensures.len in
    let rise : Rise (calls_of us) = subst Rise (sym c.renew_each.ensures.same) (subst (λ z. Rise (calls_of z)) (sym c.deref_mut.ensures.value) c.self.invariant) in
    retained_rise _ _ _ _ c.retain.ensures.filtered (subst (λ z. Rise (calls_of z)) (sym (with_items_is c.self.inside.list us many)) rise)

pub returns : goal.returns
returns c =
    λ listed.
    let us = c.renew_each.new.turns in
    let calls = c.args.calls.now.items in
    let many : length us ≡ c.self.inside.list.len = c.renew_each.auto.turns ∙ c.deref_mut.ensures.len in
    let view : c.self.inside.list.items ≡ c.args.self.now = c.self.view_is in
    let watched : AllByRecursion (IsWatched us) calls = c.renew_each.ensures.watched (subst (λ z. AllByRecursion (IsListed z) calls) (sym (c.deref_mut.ensures.value ∙ view)) listed) in
    retained_watched _ _ calls _ _ (λ t b g called. ((λ no. subst (λ z. AllByRecursion (λ k. k.number ≡ z.call → Sleeps k) calls) called.shows (called.called.met.1 no)), ap (λ z. record { 0 = z }) called.called.met.0)) c.retain.ensures.filtered
    (subst (λ z. AllByRecursion (IsWatched z) calls) (sym (with_items_is c.self.inside.list us many)) watched)
