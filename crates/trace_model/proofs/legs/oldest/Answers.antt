use Rattle.std.proofs.Common.{◌∷◌, ◌∙◌, ap, nat_eq, subst, sym}
use Rattle.std.specs.HashMap.{get}
use Rattle.trace_model.specs.LegsStand.{Keeps}
use Rattle.trace_model.specs.inner.Mutings.{is_muted_since}
use Rattle.trace_model.proofs.LegsLemmas.{first_item, front_oldest}
use Rattle.trace_model.proofs.legs.oldest.Goals as goal

pub returns-then-is_muted-clause-least : goal.returns-then-is_muted-clause-least
returns-then-is_muted-clause-least c =
    λ before h.
    let i = first_item c.loop-first.muted.items c.front.result c.in-Some.first (sym c.copied.ensures ∙ c.in-Some.is)
    c.front.ensures.item in
    let k : Keeps (get nat_eq c.args.up.now) (c.in-Some.first ∷ i.0) before =
    subst (λ q. Keeps (get nat_eq c.args.up.now) q before) i.1 (c.loop-first.invariant before h) in
    front_oldest (get nat_eq c.args.up.now) c.in-Some.first i.0 before
    (sym (ap (λ o. is_muted_since o c.in-Some.first.since) (c.copied-in-Some.ensures ∙ c.get.ensures.value))
    ∙ (sym c.is_muted.ensures ∙ c.if-is_muted.true)) k
