use Rattle.msd_fit.proofs.candidate.Candidate.oid.Goals as goal

pub returns-clause-octets : goal.returns-clause-octets
returns-clause-octets c = rw c.from.ensures c.self.invariant.oid_octets
