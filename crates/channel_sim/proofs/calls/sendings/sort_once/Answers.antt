use Rattle.std.proofs.lemmas.List.Filters.{dedup_is}
use lib.Dec.{eqb}
use Rattle.channel_sim.proofs.SendingLemmas.{sorted_rise, sorted_has}
use Rattle.channel_sim.proofs.calls.sendings.sort_once.Goals as goal

pub returns-clause-rise : goal.returns-clause-rise
returns-clause-rise c =
    sorted_rise c.sort_unstable.new.self.items c.dedup.new.self.items c.sort_unstable.ensures.sorted (dedup_is eqb _ _ c.dedup.ensures.filtered)

pub returns-clause-among : goal.returns-clause-among
returns-clause-among c =
    λ n among.
    sorted_has n c.args.numbers.now.items c.sort_unstable.new.self.items c.dedup.new.self.items c.sort_unstable.ensures.permutation (dedup_is eqb _ _ c.dedup.ensures.filtered) among
