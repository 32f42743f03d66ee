use Rattle.std.proofs.Common.{◌∙◌}
use Rattle.std.proofs.lemmas.Result.{on_ok_weaker}
use Rattle.call_register.proofs.RowLemmas.{heard-point_up, heard-vehicle_up}
use Rattle.call_register.proofs.register.Register.come_up.Goals as goal

pub returns-in-Point-clause-ok : goal.returns-in-Point-clause-ok
returns-in-Point-clause-ok c =
    let heard = heard-point_up c.args.end c.args.call c.args.tick c.args.self.now c.in-Point.is in
    on_ok_weaker c.open.result (λ is. is ∙ heard) c.open.ensures.ok

pub returns-in-Vehicle-clause-ok : goal.returns-in-Vehicle-clause-ok
returns-in-Vehicle-clause-ok c = heard-vehicle_up c.args.end c.args.call c.args.tick c.args.self.now c.in-Vehicle.is
