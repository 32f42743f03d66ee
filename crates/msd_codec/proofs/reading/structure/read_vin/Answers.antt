use Rattle.msd_codec.proofs.Steps.{exit}
use Rattle.msd_codec.proofs.Identification.{vin_ok, vin_err}
use Rattle.msd_codec.proofs.reading.structure.read_vin.Goals as goal

pub returns-in_err-characters-clause-exact : goal.returns-in_err-characters-clause-exact
returns-in_err-characters-clause-exact c = exit _ _ _ _ _ c.from_residual.ensures.1 (vin_err _ _ c.in_err-characters.ensures.exact)

pub returns-clause-exact : goal.returns-clause-exact
returns-clause-exact c = rw c.of.ensures (vin_ok _ _ _ c.in_ok-characters.ensures.exact)

pub returns-clause-on : goal.returns-clause-on
returns-clause-on c = c.in_ok-characters.ensures.on
