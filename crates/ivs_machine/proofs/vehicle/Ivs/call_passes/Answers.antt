use Rattle.ivs_machine.proofs.CallPasses.{call_stands}
use Rattle.ivs_machine.proofs.vehicle.Ivs.call_passes.Goals as goal

pub returns : goal.returns
returns c = call_stands c.args.n c.args.self.now _ _ c.args.stage c.requires.phase (rw c.age.ensures at c.acts.ensures)
