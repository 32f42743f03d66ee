use Rattle.std.proofs.Common.{refl}
use Rattle.msd_codec.specs.Module.{storages}
use Rattle.msd_codec.proofs.writing.lengths.mark_count.Goals as goal

pub returns-in-One-clause-count : goal.returns-in-One-clause-count
unfolding storages
returns-in-One-clause-count c = rw c.in-One.is refl

pub returns-in-Two-clause-count : goal.returns-in-Two-clause-count
unfolding storages
returns-in-Two-clause-count c = rw c.in-Two.is refl
