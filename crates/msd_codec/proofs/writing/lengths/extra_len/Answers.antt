use Rattle.msd_codec.proofs.Lengths.{extra_length}
use Rattle.msd_codec.proofs.writing.lengths.extra_len.Goals as goal

pub returns-in-Some-clause-count : goal.returns-in-Some-clause-count
returns-in-Some-clause-count c = extra_length c.args.extra.now c.in-Some.extra c.data_len.result c.in-Some.is c.data_len.ensures.count
