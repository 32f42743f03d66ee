use Rattle.std.proofs.Common.{rules, of_calls, leb}
use Rattle.std.proofs.lemmas.List.Sorted.{IsPartitionPoint-from_clause, IsPartitionedBy-leb}
use Rattle.std.specs.List.Sorted.{IsPartitionedBy}
use Rattle.channel_sim.specs.declared.calls.sendings.Sending.{Sending}
use Rattle.channel_sim.proofs.TickLemmas.{never_fall, split_behind}
use Rattle.channel_sim.proofs.calls.sendings.search_behind.Goals as goal

pub returns-clause-behind : goal.returns-clause-behind
returns-clause-behind c =
    λ rise.
    let fs = c.args.sendings.now in
    let ordered : IsPartitionedBy (λ (s : Sending). leb s.tick c.args.tick) fs = IsPartitionedBy-leb (λ (s : Sending). s.tick) fs c.args.tick (never_fall (λ (s : Sending). s.tick) 0 fs rise) in
    split_behind (λ (s : Sending). s.tick) c.args.tick c.partition_point.result fs
    (IsPartitionPoint-from_clause (λ (s : Sending). leb s.tick c.args.tick) fs c.partition_point.result c.partition_point.ensures.partitioned ordered (λ a r f k. search (rules, of_calls)))
