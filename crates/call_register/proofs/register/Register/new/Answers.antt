use Rattle.call_register.specs.Table.{table}
use Rattle.call_register.proofs.register.Register.new.Goals as goal

pub returns : goal.returns
unfolding table
returns c = c.new.ensures.empty
