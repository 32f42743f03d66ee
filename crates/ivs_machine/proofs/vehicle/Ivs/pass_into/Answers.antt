use Rattle.ivs_machine.proofs.Hears.{pass_stands}
use Rattle.ivs_machine.proofs.vehicle.Ivs.pass_into.Goals as goal

pub returns-clause-ticks : goal.returns-clause-ticks
returns-clause-ticks g c =
    pass_stands c.args.n c.args.self.now _ _ c.requires.least c.requires.due c.elapse.ensures
