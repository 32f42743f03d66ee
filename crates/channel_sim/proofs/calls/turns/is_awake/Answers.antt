use Rattle.std.proofs.Common.{◌≡◌, Bool, true, false, not, refl, sym, ◌∙◌, subst}
use Rattle.channel_sim.specs.inner.Turns.{Sleeps}
use Rattle.channel_sim.proofs.TurnLemmas.{at_place, no_place}
use Rattle.channel_sim.proofs.calls.turns.is_awake.Goals as goal

was_not : (b : Bool) → not b ≡ false → b ≡ true
was_not true e = refl
was_not false e = cc

pub returns-in-Some : goal.returns-in-Some
returns-in-Some c =
    λ no.
    at_place Sleeps 0 c.args.call c.args.calls.now.items c.in-Some.i c.index.result.now c.requires (sym (c.find.ensures.place c.requires) ∙ c.in-Some.is)
    (subst Sleeps c.index.ensures (c.sleeps.ensures.0 (was_not c.sleeps.result no)))

pub returns-in-None : goal.returns-in-None
returns-in-None c =
    λ no. no_place Sleeps c.args.call c.args.calls.now.items (sym (c.find.ensures.place c.requires) ∙ c.in-None.is)
