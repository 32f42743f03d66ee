use Rattle.std.proofs.Common.{rules}
use Rattle.std.proofs.lemmas.List.Sorted.{answers_always}
use Rattle.channel_sim.specs.declared.calls.turns.Turn.{Turn}
use Rattle.channel_sim.proofs.TurnLemmas.{turn_found, turn_gap}
use Rattle.channel_sim.proofs.calls.turns.turn_place.Goals as goal

pub returns-clause-found : goal.returns-clause-found
returns-clause-found c =
    let facts = c.binary_search_by_key.ensures in
    let by_key = facts.position (λ (t : Turn). t.call) (answers_always _ _ _ (λ f a r g called. search rules)) in
    turn_found c.args.call c.args.turns.now c.binary_search_by_key.result facts.bound by_key

pub returns-clause-absent : goal.returns-clause-absent
returns-clause-absent c =
    λ rise.
    let facts = c.binary_search_by_key.ensures in
    let by_key = facts.position (λ (t : Turn). t.call) (answers_always _ _ _ (λ f a r g called. search rules)) in
    turn_gap c.args.call c.args.turns.now c.binary_search_by_key.result rise by_key
