use Rattle.msd_values.proofs.lines.put_passengers.Goals as goal

pub returns-in-None-clause-items : goal.returns-in-None-clause-items
returns-in-None-clause-items c = rw c.in-None.is c.put_line.ensures.items
