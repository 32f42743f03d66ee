use Rattle.msd_codec.proofs.Steps.{on_ok, mark_moves}
use Rattle.msd_codec.proofs.reading.elements.read_extended.Goals as goal

pub returns-clause-on : goal.returns-clause-on
returns-clause-on c = on_ok _ _ _ c.args.c.now c.read_bool.new.c (λ v e. mark_moves c.args.c.now c.read_bool.new.c v e) c.read_bool.ensures.exact
