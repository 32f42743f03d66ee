use Rattle.psap_machine.proofs.session.Session.frame.Goals as goal

pub returns-in-Content : goal.returns-in-Content
returns-in-Content c = rw c.in-Content.is (c.content.ensures c.in-Content.attempt)
