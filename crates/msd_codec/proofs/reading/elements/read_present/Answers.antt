use Rattle.msd_codec.proofs.Steps.{on_ok, presence_moves}
use Rattle.msd_codec.proofs.reading.elements.read_present.Goals as goal

pub returns-clause-on : goal.returns-clause-on
returns-clause-on c = on_ok _ _ _ c.args.c.now c.read_presence.new.c (λ v e. presence_moves c.args.n c.args.c.now c.read_presence.new.c v e) c.read_presence.ensures.exact
