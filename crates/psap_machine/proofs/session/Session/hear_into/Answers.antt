use Rattle.link_frames.specs.Frame.{lent}
use Rattle.psap_machine.specs.PointRows.{Request, Arrives}
use Rattle.psap_machine.proofs.Hears.{row_stands}
use Rattle.psap_machine.proofs.session.Session.hear_into.Goals as goal

pub returns-in-Frame : goal.returns-in-Frame
returns-in-Frame c = rw c.in-Frame.is (row_stands (Arrives (lent c.in-Frame.frame)) _ _ _ c.frame.ensures)

pub returns-in-Request : goal.returns-in-Request
returns-in-Request c = rw c.in-Request.is (row_stands Request _ _ _ c.request.ensures)
