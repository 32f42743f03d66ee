use Rattle.std.proofs.Common.{rules, of_calls, ◌≡◌, ◌-◌, ltb, true, false, length, length-drop, take, drop, subst, arith}
use Rattle.std.proofs.lemmas.List.Sorted.{IsPartitionPoint-from_clause, IsPartitionedBy-ltb, IsNonDecreasingBy-drop, IsNonDecreasingBy-take}
use Rattle.std.specs.List.Sorted.{IsPartitionedBy, IsPartitionPoint}
use Rattle.channel_sim.specs.declared.calls.sendings.Sending.{Sending}
use Rattle.channel_sim.proofs.StepLemmas.{take_all}
use Rattle.channel_sim.proofs.TickLemmas.{never_fall, parted}
use Rattle.channel_sim.proofs.calls.sendings.search_place.Goals as goal

pub returns-clause-first : goal.returns-clause-first
returns-clause-first c =
    λ rise.
    let fs = c.args.sendings.now in
    let begin = c.begin_at-begin.result in
    let count = length fs - begin in
    let part = take count (drop begin fs) in
    let whole : part ≡ drop begin fs = take_all count (drop begin fs) (omega (arith, length-drop begin fs)) in
    let ordered : IsPartitionedBy (λ (s : Sending). ltb s.tick c.args.tick) part =
    IsPartitionedBy-ltb (λ (s : Sending). s.tick) part c.args.tick
    (IsNonDecreasingBy-take (λ (s : Sending). s.tick) count (drop begin fs) (IsNonDecreasingBy-drop (λ (s : Sending). s.tick) begin fs (never_fall (λ (s : Sending). s.tick) 0 fs rise))) in
    let point = IsPartitionPoint-from_clause (λ (s : Sending). ltb s.tick c.args.tick) part c.partition_point.result c.partition_point.ensures.partitioned ordered (λ a r f k. search (rules, of_calls)) in
    parted (λ (s : Sending). s.tick) c.args.tick begin c.partition_point.result fs (c.begin_at-begin.ensures.front rise)
    (subst (λ xs. IsPartitionPoint (λ (s : Sending). ltb s.tick c.args.tick ≡ true) (λ (s : Sending). ltb s.tick c.args.tick ≡ false) xs c.partition_point.result) whole point)
