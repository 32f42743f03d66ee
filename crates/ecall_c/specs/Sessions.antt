-- A session at memory of the caller's. Cited by the exports of the point.
use Rattle.std.specs.Prelude.{◌≡◌, ◌<◌, ◌≤◌, ◌⊎◌, ◌==◌, if◌then◌else◌, Some}
use Rattle.psap_machine.specs.PointRows.{Heard, Arrives, Damaged, Request, Clear, Fault, Hangup, Ended, Reset}
use Rattle.link_frames.specs.declared.note.Why.TheVariants as why
use Rattle.ecall_c.specs.declared.point.EcallPointEvent.{EcallPointEvent}
use Rattle.psap_machine.specs.declared.session.Session.{Session}
use Rattle.ecall_c.specs.declared.frame.EcallItems.{EcallItems}
use Rattle.ecall_c.specs.Items.{AreItems, IsFrame, frame_of}
use Rattle.link_frames.specs.Row.{Row}
use Rattle.psap_machine.specs.Point.{Point}
use Rattle.psap_machine.specs.SessionStands.{SessionStandsFor}
use Rattle.ecall_c.specs.declared.place.EcallPoint.{EcallPoint}

-- the same place, with this session in it
abbrev pub with_session : EcallPoint → Session → EcallPoint
with_session point session = record point { session = Some session }

-- the struct and the items are those of this row
pub record Steps (point : EcallPoint) (items : EcallItems) (row : Row Point) : Type 0 where
  pub given : AreItems items row.items
  pub session : Session
  pub there : point.session ≡ Some session
  pub stands : SessionStandsFor session row.new

abbrev pub IsPointEvent : EcallPointEvent → Type 0
IsPointEvent e = ((e.kind ≡ 0) × IsFrame e.frame) ⊎ ((0 < e.kind) × (e.kind ≤ 9))

-- what the session hears
abbrev pub heard_of : EcallPointEvent → Heard
heard_of e =
    if e.kind == 0 then Arrives (frame_of e.frame)
    else if e.kind == 1 then Damaged
    else if e.kind == 2 then Request
    else if e.kind == 3 then Clear
    else if e.kind == 4 then Fault
    else if e.kind == 5 then Hangup
    else if e.kind == 6 then Ended why.Release
    else if e.kind == 7 then Ended why.Hangup
    else if e.kind == 8 then Ended why.Lost
    else Reset
