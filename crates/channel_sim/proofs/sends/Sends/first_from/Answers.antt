use Rattle.std.proofs.Common.{rules, of_calls, ◌≡◌, ltb, map, ap, sym, ◌∙◌, subst}
use Rattle.std.proofs.lemmas.List.Sorted.{IsPartitionPoint-from_clause, IsPartitionedBy-ltb}
use Rattle.std.specs.List.Sorted.{IsPartitionedBy}
use Rattle.channel_sim.specs.declared.sends.KeptSent.{KeptSent}
use Rattle.channel_sim.specs.inner.Sends.{IsFirstFrom}
use Rattle.channel_sim.specs.Tidy.{ticks_of, AreFrom}
use Rattle.channel_sim.proofs.SendsLemmas.{same_ticks}
use Rattle.channel_sim.proofs.TickLemmas.{never_fall, split}
use Rattle.channel_sim.proofs.sends.Sends.first_from.Goals as goal

pub returns-clause-first : goal.returns-clause-first
returns-clause-first c =
    λ rise.
    let fs = c.deref.result.now in
    let same : map (λ s. s.tick) fs ≡ ticks_of c.args.self.now =
    ap (map (λ s. s.tick)) c.deref.ensures.value ∙ sym (same_ticks c.self.inside.frames.items) ∙ ap ticks_of c.self.view_is in
    let ordered : IsPartitionedBy (λ (s : KeptSent). ltb s.tick c.args.tick) fs = IsPartitionedBy-ltb (λ (s : KeptSent). s.tick) fs c.args.tick (never_fall (λ (s : KeptSent). s.tick) 0 fs (subst (AreFrom 0) (sym same) rise)) in
    subst (IsFirstFrom c.args.tick c.partition_point.result) same
    (split (λ (s : KeptSent). s.tick) c.args.tick c.partition_point.result fs
    (IsPartitionPoint-from_clause (λ (s : KeptSent). ltb s.tick c.args.tick) fs c.partition_point.result c.partition_point.ensures.partitioned ordered (λ a r f k. search (rules, of_calls))))
