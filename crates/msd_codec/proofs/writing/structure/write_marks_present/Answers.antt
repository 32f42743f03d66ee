use Rattle.msd_codec.specs.Module.{storages}
use Rattle.msd_codec.proofs.writing.structure.write_marks_present.Goals as goal

pub returns-in-One : goal.returns-in-One
unfolding storages
returns-in-One c = rw c.in-One.is c.write_present.ensures

pub returns-in-Two : goal.returns-in-Two
unfolding storages
returns-in-Two c = rw c.in-Two.is c.write_present-in-Two.ensures
