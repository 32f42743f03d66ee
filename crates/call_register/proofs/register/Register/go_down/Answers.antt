use Rattle.call_register.proofs.RowLemmas.{heard-vehicle_down}
use Rattle.call_register.proofs.register.Register.go_down.Goals as goal

pub returns-in-Vehicle : goal.returns-in-Vehicle
returns-in-Vehicle c = heard-vehicle_down c.args.end c.args.call c.args.tick c.args.why c.args.self.now c.in-Vehicle.is
