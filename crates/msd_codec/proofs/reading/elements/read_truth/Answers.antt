use Rattle.msd_codec.proofs.Steps.{truth_tree, truth_moves}
use Rattle.msd_codec.proofs.reading.elements.read_truth.Goals as goal

pub returns-clause-exact : goal.returns-clause-exact
returns-clause-exact c = truth_tree _ _ _ c.read_bool.ensures.exact

pub returns-clause-on : goal.returns-clause-on
returns-clause-on c = truth_moves _ _ _ c.read_bool.ensures.exact
