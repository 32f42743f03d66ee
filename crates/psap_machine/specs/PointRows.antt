-- The table of the answering point's session: what it does at each event of a call, and at a unit tick. After EN 16062
-- (initiation, request, acknowledgements, clear-down, muting); the numbers are this project's profile. Cited by the
-- contracts of `Session`, and by the world's step.
use Rattle.std.specs.Prelude.{◌≡◌, ◌≢◌, ◌<◌, ℕ, zero, suc, Bool, true, false, List, [], ◌∷◌, Option, Some, None, ◌+◌, ◌==◌, nat_lt, nat_le, unwrap_or, if◌then◌else◌}
use Rattle.link_frames.specs.declared.frame.End.TheVariants as «end»
use Rattle.link_frames.specs.declared.frame.Answer.TheVariants as answer
use Rattle.link_frames.specs.declared.frame.Frame.{Frame}
use Rattle.link_frames.specs.declared.frame.Frame.TheVariants as frame
use Rattle.link_frames.specs.declared.note.Note.{Note}
use Rattle.link_frames.specs.declared.note.Note.TheVariants as note
use Rattle.link_frames.specs.declared.note.Timer.{Timer}
use Rattle.link_frames.specs.declared.note.Timer.TheVariants as timer
use Rattle.link_frames.specs.declared.note.Why.{Why}
use Rattle.link_frames.specs.declared.note.Why.TheVariants as why
use Rattle.link_frames.specs.Frame.{lent}
use Rattle.link_frames.specs.Legs.{least_opening}
use Rattle.link_frames.specs.Ranks.{Deadline, first_of, left, to_next, soonest, behind}
use Rattle.link_frames.specs.Requests.{is_among}
use Rattle.link_frames.specs.Row.{Row, nothing_row, silent}
use Rattle.psap_machine.specs.declared.event.PointEvent.{PointEvent}
use Rattle.psap_machine.specs.declared.event.PointEvent.TheVariants as event
use Rattle.psap_machine.specs.Point.{Point, Phase, Listening, Asking, Telling, Talking, Clearing, Over, greatest, requests_of}

-- What the point hears: an event whose frame is a whole one.
pub data Heard : Type 0 where
  Arrives : Frame → Heard
  Damaged : Heard
  Request : Heard
  Clear : Heard
  Fault : Heard
  Hangup : Heard
  Ended : Why → Heard
  Reset : Heard

abbrev pub heard : PointEvent → Heard
heard (event.Frame f) = Arrives (lent f)
heard event.Damaged = Damaged
heard event.Request = Request
heard event.Clear = Clear
heard event.Fault = Fault
heard event.Hangup = Hangup
heard (event.Ended w) = Ended w
heard event.Reset = Reset

-- The profile's numbers, in ticks of 100 ms.

-- T4: how long the point waits for the initiation
abbrev pub longest_listening : ℕ
longest_listening = 50

-- T8: how long the point asks for a set
abbrev pub longest_asking : ℕ
longest_asking = 200

-- how long the point tells of a set that came, or lets go of the vehicle
abbrev pub telling : ℕ
telling = 25

-- the ticks between two repeats of a frame
abbrev pub repeats_every : ℕ
repeats_every = 5

abbrev pub most_requests : ℕ
most_requests = 255

-- The items.

abbrev pub sends : Point → Frame → Note
sends s f = note.Send «end».Point s.call f

-- both directions are opened, or both muted
abbrev pub voices : Point → (opened : Bool) → Note
voices s opened = note.Voice «end».Point s.call opened opened

-- The moves.

abbrev pub gives : List Note → Point → Row Point
gives items s = record { items = items; new = s }

-- in another phase, with the voice as it was
abbrev pub enters : Phase → Point → Point
enters p s = record s { phase = p; in_phase = 0 }

-- with a voice that was just opened or muted
abbrev pub switched : Point → Point
switched s = record s { voice_for = 0 }

abbrev pub opens : Point → Row Point
opens s = gives (voices s true ∷ []) (switched (enters Talking s))

abbrev pub asks : ℕ → Point → Row Point
asks r s = gives (sends s (frame.Start r) ∷ []) (record (enters (Asking r) s) { asked = r ∷ s.asked })

abbrev pub ends : Why → Point → Row Point
ends w s = gives (note.Down «end».Point s.call w ∷ []) (record s { phase = Over })

-- A call comes in that the vehicle placed, or the point places one.
abbrev pub first_point : ℕ → Phase → Point
first_point c p = record { call = c; phase = p; asked = []; shown = []; in_phase = 0; voice_for = 0 }

abbrev pub arriving : ℕ → Row Point
arriving c =
    let s : Point = first_point c Listening in gives (note.Up «end».Point c ∷ voices s false ∷ []) s

abbrev pub called : ℕ → Row Point
called c = let s : Point = first_point c Talking in gives (note.Up «end».Point c ∷ voices s true ∷ []) s

-- The guards.

-- whether the voice was open for so long that the desk may ask or let go
abbrev pub is_long_open : Point → Bool
is_long_open s = nat_le least_opening s.voice_for

abbrev pub was_asked : ℕ → Point → Bool
was_asked r s = is_among r s.asked

abbrev pub was_shown : ℕ → Point → Bool
was_shown r s = is_among r (requests_of s.shown)

-- The rows with a guard.

abbrev pub with_shown : ℕ → List ℕ → Point → Point
with_shown r octets s = record s { shown = (r, octets) ∷ s.shown }

-- a set is shown first, and then acknowledged
abbrev pub shows : ℕ → List ℕ → Point → List Note
shows r octets s = note.Shown s.call r octets ∷ sends s (frame.Ack r) ∷ []

-- what follows, once the set was shown: where it is the one asked for, the application acknowledges it too
abbrev pub shown_row : ℕ → Point → Phase → Row Point
shown_row r s (Asking q) =
    if q == r then gives (sends s (frame.App r answer.Positive) ∷ []) (enters (Telling r) s) else silent s
shown_row r s _ = silent s

-- A set is shown once, where its request was asked; its repeats are acknowledged again. None: it was never asked for.
abbrev pub content_row : ℕ → List ℕ → Point → (asked shown : Bool) → Option (Row Point)
content_row r octets s asked true = Some (gives (sends s (frame.Ack r) ∷ []) s)
content_row r octets s true false = Some (behind (shows r octets s) (shown_row r (with_shown r octets s) s.phase))
content_row r octets s false false = None

-- The desk asks for a set.
abbrev pub next_row : Point → Row Point
next_row s =
    if nat_lt (greatest s.asked) most_requests
    then behind (voices s false ∷ []) (asks (greatest s.asked + 1) (switched s))
    else gives (note.Spent s.call ∷ []) s

-- The desk lets the vehicle go.
abbrev pub clear_row : Point → (shown : List (ℕ × List ℕ)) → Row Point
clear_row s [] = gives (note.Unshown s.call ∷ []) s
clear_row s (last ∷ sets) =
    gives (voices s false ∷ sends s (frame.App last.0 answer.Clear) ∷ []) (switched (enters (Clearing last.0) s))

abbrev pub busy : Point → Row Point
busy s = gives (note.Busy s.call ∷ []) s

-- The table by event and phase. None: no line stands there.
abbrev pub named : Heard → Point → Phase → Option (Row Point)
named e s Over = None
named (Arrives frame.Init) s Listening = Some (asks 1 s)
named (Arrives (frame.Content r attempt octets)) s _ = content_row r octets s (was_asked r s) (was_shown r s)
named Damaged s (Asking r) = Some (gives (sends s (frame.Nack r) ∷ []) s)
named Request s Talking = Some (if is_long_open s then next_row s else busy s)
named Request s _ = Some (busy s)
named Clear s Talking = Some (if is_long_open s then clear_row s s.shown else busy s)
named Clear s _ = Some (busy s)
named Fault s Talking = Some (gives (note.Fault «end».Point s.call ∷ []) s)
named Fault s _ = Some (behind (note.Fault «end».Point s.call ∷ []) (opens s))
named Hangup s _ = Some (ends why.Hangup s)
named (Ended w) s _ = Some (ends w s)
named Reset s _ = Some (ends why.Lost s)
named _ s _ = None

-- where no line stands, a frame gives no item, every other event the item `nothing`, and neither changes anything
abbrev pub unnamed : Heard → Point → Row Point
unnamed (Arrives f) s = silent s
unnamed _ s = nothing_row s

abbrev pub point_row : Point → Heard → Row Point
point_row s e = unwrap_or (named e s s.phase) (unnamed e s)

-- The unit tick.

-- n ticks later in each sum that runs
abbrev pub aged_in : ℕ → Point → Phase → Point
aged_in n s Over = s
aged_in n s _ = record s { in_phase = s.in_phase + n; voice_for = s.voice_for + n }

abbrev pub aged : ℕ → Point → Point
aged n s = aged_in n s s.phase

-- a wait for data ends, and the voice opens
abbrev pub times_out : Timer → Point → Row Point
times_out t s = behind (note.Ended «end».Point s.call t ∷ []) (opens s)

abbrev pub wait : ℕ → Point → Row Point → Deadline (Row Point)
wait limit s row = record { left = left limit s.in_phase; row = row }

abbrev pub repeat : Point → Frame → Deadline (Row Point)
repeat s f = record { left = to_next repeats_every s.in_phase; row = gives (sends s f ∷ []) s }

-- the lines of each phase, by rank
abbrev pub deadlines : Point → Phase → List (Deadline (Row Point))
deadlines s Listening = wait longest_listening s (times_out timer.T4 s) ∷ []
deadlines s (Asking r) = wait longest_asking s (times_out timer.T8 s) ∷ repeat s (frame.Start r) ∷ []
deadlines s (Telling r) = wait telling s (opens s) ∷ repeat s (frame.App r answer.Positive) ∷ []
deadlines s (Clearing r) = wait telling s (ends why.Release s) ∷ repeat s (frame.App r answer.Clear) ∷ []
deadlines s Talking = []
deadlines s Over = []

-- what the lines give that have no tick left
abbrev pub acts : Point → Row Point
acts s = first_of (silent s) (deadlines s s.phase)

-- one unit tick: each sum that runs grows by one, and then a line acts
abbrev pub unit_row : Point → Row Point
unit_row s = acts (aged 1 s)

-- n unit ticks
abbrev pub units : ℕ → Point → Row Point
units zero s = silent s
units (suc n) s = behind (unit_row s).items (units n (unit_row s).new)

-- after how many unit ticks a line acts
abbrev pub due_of : Point → Option ℕ
due_of s = let next : Point = aged 1 s in soonest (deadlines next next.phase)

-- The least number of unit ticks that give an item; None where no number of them does.
pub record IsDue (due : ℕ) (s : Point) : Type 0 where
  pub gives : (units due s).items ≢ []
  pub quiet : (n : ℕ) → n < due → (units n s).items ≡ []

abbrev pub IsLeastDue : Option ℕ → Point → Type 0
IsLeastDue None s = (n : ℕ) → (units n s).items ≡ []
IsLeastDue (Some due) s = IsDue due s
