use Rattle.std.proofs.Common.{◌≡◌, ◌≤◌, sym, ◌∙◌, subst, arith}
use Rattle.channel_sim.specs.declared.calls.turns.Turn.{Turn}
use Rattle.channel_sim.specs.inner.Turns.{HasTurn}
use Rattle.channel_sim.proofs.TurnLemmas.{all_least, all_passed, least_more}
use Rattle.channel_sim.proofs.calls.turns.Turns.least.Goals as goal

pub loop-turn-preserved : goal.loop-turn-preserved
loop-turn-preserved c =
    let ts = c.deref-turn-items.result.now in
    (omega arith, least_more c.loop-turn.least c.min-least.result ts c.loop-turn.turn-index _ c.loop-turn-test.true c.min-least.ensures c.loop-turn.invariant.1)

pub returns-clause-most : goal.returns-clause-most
returns-clause-most c = c.loop-turn.invariant.0

pub returns-clause-least : goal.returns-clause-least
returns-clause-least c =
    λ call n has.
    let ts = c.deref-turn-items.result.now in
    let same : c.self.inside.list.items ≡ c.args.self.now = c.self.view_is in
    all_least c.loop-turn.least ts call n (all_passed (λ (t : Turn). c.loop-turn.least ≤ t.tick) ts c.loop-turn.turn-index c.loop-turn-test.false c.loop-turn.invariant.1)
    (subst (HasTurn call n) (sym (c.deref-turn-items.ensures.value ∙ same)) has)
