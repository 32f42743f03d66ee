-- What each row of the answering point's session owes to the world: the session as a seat in its call, and the rows of
-- events, of the unit tick and of a call that comes up. Proved of every row in `proofs/PointOwed`; the world's safety
-- stands on it. This project's profile.
use Rattle.std.specs.Prelude.{ℕ, Bool, true, false, List, ◌∷◌, Option, Some, None, ◌≡◌, ◌≤◌, length, if◌then◌else◌}
use Rattle.std.specs.List.{list_all}
use Rattle.link_frames.specs.declared.frame.End.TheVariants as «end»
use Rattle.link_frames.specs.declared.frame.Frame.{Frame}
use Rattle.link_frames.specs.declared.frame.Frame.TheVariants as frame
use Rattle.link_frames.specs.declared.note.Note.{Note}
use Rattle.link_frames.specs.declared.note.Note.TheVariants as note
use Rattle.link_frames.specs.declared.note.Timer.{Timer}
use Rattle.link_frames.specs.declared.note.Timer.TheVariants as timer
use Rattle.link_frames.specs.Legs.{through}
use Rattle.link_frames.specs.Owes.{Seat, Owes, OwesArrival}
use Rattle.link_frames.specs.Requests.{is_among}
use Rattle.link_frames.specs.Row.{Row}
use Rattle.psap_machine.specs.Point.{Point, Phase, Talking, Over}
use Rattle.psap_machine.specs.PointRows.{Heard, Arrives}
use Rattle.psap_machine.specs.PointKept.{IsKept}

abbrev pub talks_in : Phase → Bool
talks_in Talking = true
talks_in _ = false

abbrev pub seat_in : Point → Phase → Option Seat
seat_in s Over = None
seat_in s p = Some (record { talks = talks_in p; ticks = s.voice_for; sets = s.shown })

-- the session as a seat; one that is over has none
abbrev pub seat_of : Point → Option Seat
seat_of s = seat_in s s.phase

-- the frame that came, if one did
abbrev pub came : Heard → Option Frame
came (Arrives f) = Some f
came _ = None

-- the requests asked behind an item: a request is asked where it is sent first
abbrev pub asked_moved : List ℕ → Note → List ℕ
asked_moved asked (note.Send e c (frame.Start r)) = if is_among r asked then asked else r ∷ asked
asked_moved asked _ = asked

-- a frame from the point to the vehicle
abbrev pub goes_down : Frame → Bool
goes_down frame.Init = false
goes_down (frame.Start r) = true
goes_down (frame.Content r attempt octets) = false
goes_down (frame.Nack r) = true
goes_down (frame.Ack r) = true
goes_down (frame.App r answer) = true

-- a timer that the point has
abbrev pub is_timed : Timer → Bool
is_timed timer.T4 = true
is_timed timer.T8 = true
is_timed _ = false

-- an item that the point may give in a call that is up, and no other
abbrev pub may_give : Note → Bool
may_give note.Nothing = true
may_give (note.Down e c why) = true
may_give (note.Voice e c up down) = true
may_give (note.Send e c f) = goes_down f
may_give (note.Shown c r octets) = true
may_give (note.Ended e c t) = is_timed t
may_give (note.Fault e c) = true
may_give (note.Busy c) = true
may_give (note.Spent c) = true
may_give (note.Unshown c) = true
may_give _ = false

pub record PointOwes (s : Point) (came : Option Frame) (old : Option Seat) (row : Row Point) : Type 0 where
  pub owes : Owes «end».Point s.call came old row.items (seat_of row.new)
  pub own : list_all may_give row.items ≡ true
  pub call : row.new.call ≡ s.call
  pub asked : row.new.asked ≡ through asked_moved s.asked row.items
  pub kept : IsKept row.new
  pub few : length row.items ≤ 8

pub record ArrivalOwes (c : ℕ) (row : Row Point) : Type 0 where
  pub owes : OwesArrival «end».Point c row.items (seat_of row.new)
  pub call : row.new.call ≡ c
  pub kept : IsKept row.new
  pub few : length row.items ≤ 8
