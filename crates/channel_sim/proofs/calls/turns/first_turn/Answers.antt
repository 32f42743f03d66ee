use Rattle.std.proofs.Common.{rules, of_calls, ltb}
use Rattle.std.proofs.lemmas.List.Sorted.{IsPartitionPoint-from_clause, IsPartitionedBy-ltb}
use Rattle.channel_sim.specs.declared.calls.turns.Turn.{Turn}
use Rattle.channel_sim.proofs.TurnLemmas.{never_fall, parted_below, parted_behind}
use Rattle.channel_sim.proofs.calls.turns.first_turn.Goals as goal

pub returns-clause-below : goal.returns-clause-below
returns-clause-below c =
    λ rise.
    let ts = c.args.turns.now in
    parted_below c.args.from c.partition_point.result ts
    (IsPartitionPoint-from_clause (λ (t : Turn). ltb t.call c.args.from) ts c.partition_point.result c.partition_point.ensures.partitioned
    (IsPartitionedBy-ltb (λ (t : Turn). t.call) ts c.args.from (never_fall ts rise)) (λ a r f k. search (rules, of_calls)))

pub returns-clause-behind : goal.returns-clause-behind
returns-clause-behind c =
    λ rise.
    let ts = c.args.turns.now in
    parted_behind c.args.from c.partition_point.result ts
    (IsPartitionPoint-from_clause (λ (t : Turn). ltb t.call c.args.from) ts c.partition_point.result c.partition_point.ensures.partitioned
    (IsPartitionedBy-ltb (λ (t : Turn). t.call) ts c.args.from (never_fall ts rise)) (λ a r f k. search (rules, of_calls)))
