use Rattle.std.proofs.Common.{ap, arith, length}
use Rattle.msd_codec.proofs.Lengths.{counted, vin_length}
use Rattle.msd_codec.proofs.writing.lengths.vin_len.Goals as goal

pub returns-clause-count : goal.returns-clause-count
returns-clause-count c = counted (vin_length c.args.vin.now c.text.ensures.vin) (omega (arith, ap length c.text.ensures.value, c.text.ensures.vin.0))
