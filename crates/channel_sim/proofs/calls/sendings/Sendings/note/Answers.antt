use Rattle.channel_sim.proofs.calls.sendings.Sendings.note.Goals as goal

pub returns-clause-kept : goal.returns-clause-kept
returns-clause-kept c = λ d n noted. c.add.ensures.kept d n (c.leave_old_ones.ensures d n noted)
