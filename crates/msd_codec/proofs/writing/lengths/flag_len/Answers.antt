use Rattle.msd_codec.proofs.Lengths.{flag_bits}
use Rattle.msd_codec.proofs.writing.lengths.flag_len.Goals as goal

pub returns-clause-count : goal.returns-clause-count
returns-clause-count c = flag_bits c.args.flag c.from.result c.from.ensures
