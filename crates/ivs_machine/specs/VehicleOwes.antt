-- What each row of the in-vehicle system owes to the world: the vehicle as a seat in its call, and the rows of events,
-- of the unit tick and of a call that comes up. Proved of every row in `proofs/VehicleOwed`; the world's safety stands
-- on it. This project's profile.
use Rattle.std.specs.Prelude.{ℕ, Bool, true, false, List, [], ◌∷◌, Option, Some, None, ◌≡◌, ◌≤◌, length, if◌then◌else◌}
use Rattle.link_frames.specs.declared.frame.End.TheVariants as «end»
use Rattle.link_frames.specs.declared.frame.Frame.{Frame}
use Rattle.link_frames.specs.declared.note.Note.{Note}
use Rattle.link_frames.specs.declared.note.Note.TheVariants as note
use Rattle.link_frames.specs.Legs.{through}
use Rattle.link_frames.specs.Owes.{Seat, Owes, OwesArrival}
use Rattle.link_frames.specs.Row.{Row}
use Rattle.redial.specs.Series as series
use Rattle.ivs_machine.specs.Vehicle.{Vehicle, Phase, Standby, InSeries, InCall, CallStage, Talking}
use Rattle.ivs_machine.specs.VehicleRows.{Heard, Answered, Incoming, Arrives}
use Rattle.ivs_machine.specs.VehicleKept.{IsKept}

abbrev pub talks_in : CallStage → Bool
talks_in Talking = true
talks_in _ = false

abbrev pub seat_in : Vehicle → Phase → Option Seat
seat_in v (InCall stage) = Some (record { talks = talks_in stage; ticks = v.voice_for; sets = v.made })
seat_in v _ = None

-- the vehicle as a seat in its call; one that is in no call has none
abbrev pub seat_of : Vehicle → Option Seat
seat_of v = seat_in v v.phase

-- the number that its items have: that of its call, and 0 outside a call
abbrev pub number_in : Vehicle → Phase → ℕ
number_in v (InCall stage) = v.call
number_in v _ = 0

abbrev pub number_of : Vehicle → ℕ
number_of v = number_in v v.phase

-- the frame that came, if one did
abbrev pub came : Heard → Option Frame
came (Arrives f) = Some f
came _ = None

-- the call that comes up at an event, if one does
abbrev pub comes_up_in : Heard → (network : Bool) → Phase → Option ℕ
comes_up_in (Answered c) network (InSeries s) = if series.is_dialling s.phase then Some c else None
comes_up_in (Incoming c) true Standby = Some c
comes_up_in _ network _ = None

abbrev pub comes_up : Heard → Vehicle → Option ℕ
comes_up e v = comes_up_in e v.network v.phase

-- the requests counted behind an item; a vehicle that restarts has counted none
abbrev pub counted_moved : List ℕ → Note → List ℕ
counted_moved counted (note.Acked c r octets) = r ∷ counted
counted_moved counted (note.Restart e) = []
counted_moved counted _ = counted

-- a vehicle that is still in a call is in the same one
abbrev pub StaysIn : ℕ → Vehicle → Phase → Type 0
StaysIn c v (InCall stage) = v.call ≡ c
StaysIn c v _ = Unit {0}

pub record VehicleOwes (v : Vehicle) (came : Option Frame) (old : Option Seat) (row : Row Vehicle) : Type 0 where
  pub owes : Owes «end».Vehicle (number_of v) came old row.items (seat_of row.new)
  pub call : StaysIn (number_of v) row.new row.new.phase
  pub counted : row.new.counted ≡ through counted_moved v.counted row.items
  pub kept : IsKept row.new
  pub few : length row.items ≤ 8

pub record ArrivalOwes (c : ℕ) (row : Row Vehicle) : Type 0 where
  pub owes : OwesArrival «end».Vehicle c row.items (seat_of row.new)
  pub call : number_of row.new ≡ c
  pub counted : row.new.counted ≡ []
  pub kept : IsKept row.new
  pub few : length row.items ≤ 8

-- the row of an event at which this call comes up, or none does
abbrev pub EventOwes : Option ℕ → Vehicle → Heard → Row Vehicle → Type 0
EventOwes (Some c) v e row = ArrivalOwes c row
EventOwes None v e row = VehicleOwes v (came e) (seat_of v) row
