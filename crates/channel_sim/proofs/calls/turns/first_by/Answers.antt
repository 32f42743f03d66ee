use Rattle.std.proofs.Common.{◌<◌}
use Rattle.channel_sim.specs.declared.calls.turns.Turn.{Turn}
use Rattle.channel_sim.proofs.TurnLemmas.{all_more, among_at, lower_later, all_later, all_passed}
use Rattle.channel_sim.proofs.calls.turns.first_by.Goals as goal

pub returns-then-turn-tick-clause-among : goal.returns-then-turn-tick-clause-among
returns-then-turn-tick-clause-among c = among_at c.args.turns.now c.loop-turn.turn-index _ c.loop-turn-test.true

pub returns-then-turn-tick-clause-others : goal.returns-then-turn-tick-clause-others
returns-then-turn-tick-clause-others c =
    λ rise call n has low. lower_later c.args.tick c.args.turns.now c.loop-turn.turn-index _ call n rise c.loop-turn.invariant c.loop-turn-test.true has low

pub loop-turn-preserved : goal.loop-turn-preserved
loop-turn-preserved c =
    all_more (λ (t : Turn). c.args.tick < t.tick) c.args.turns.now c.loop-turn.turn-index _ c.loop-turn-test.true c.loop-turn.invariant c.if-turn-tick.false

pub returns-clause-others : goal.returns-clause-others
returns-clause-others c =
    λ rise call n has any. all_later c.args.tick c.args.turns.now call n (all_passed (λ (t : Turn). c.args.tick < t.tick) c.args.turns.now c.loop-turn.turn-index c.loop-turn-test.false c.loop-turn.invariant) has
