use Rattle.std.proofs.Common.{sym}
use Rattle.live_link.proofs.FrontLemmas.{no_facts}
use Rattle.live_link.proofs.vehicle_front.take_in_front.Goals as goal

-- the facts in front of it are not all that a vehicle needs
pub returns-in-None-clause-takes : goal.returns-in-None-clause-takes
returns-in-None-clause-takes c told d =
    rw (c.refused.ensures, c.in-Event.is)
    (no_facts told c.args.draft.now c.args.number c.in-Event.event (c.in-None.ensures told d))

pub returns-in-Some-clause-takes : goal.returns-in-Some-clause-takes
returns-in-Some-clause-takes c told d = (c.in-Event.is, sym (c.in-Some.ensures told d))
