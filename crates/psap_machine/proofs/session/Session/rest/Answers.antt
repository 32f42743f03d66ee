use Rattle.psap_machine.proofs.Hears.{rest_stands}
use Rattle.psap_machine.proofs.session.Session.rest.Goals as goal

pub returns-clause-ticks : goal.returns-clause-ticks
returns-clause-ticks g c = rest_stands c.args.n c.args.self.now _ c.requires.least c.requires.due c.age.ensures
