-- The table of the in-vehicle system: what it does at each event, and at a unit tick. After EN 16062 (initiation, data,
-- acknowledgements, clear-down, muting) and EN 16072 (triggers, redial, standby, callback); the numbers are this
-- project's profile. Cited by the contracts of `Ivs`, and by the world's step.
use Rattle.std.specs.Prelude.{◌≡◌, ◌≢◌, ◌<◌, ℕ, zero, suc, Bool, true, false, List, [], ◌∷◌, Option, Some, None, ◌+◌, ◌==◌, ◌&&◌, nat_lt, nat_le, min, not, unwrap_or, if◌then◌else◌}
use Rattle.callback.specs.Rest.{least_standby, longest_standby, rested}
use Rattle.link_frames.specs.declared.frame.End.TheVariants as «end»
use Rattle.link_frames.specs.declared.frame.Answer.TheVariants as answer
use Rattle.link_frames.specs.declared.frame.Frame.{Frame}
use Rattle.link_frames.specs.declared.frame.Frame.TheVariants as frame
use Rattle.link_frames.specs.declared.note.Note.{Note}
use Rattle.link_frames.specs.declared.note.Note.TheVariants as note
use Rattle.link_frames.specs.declared.note.Timer.{Timer}
use Rattle.link_frames.specs.declared.note.Timer.TheVariants as timer
use Rattle.link_frames.specs.declared.note.Why.{Why}
use Rattle.link_frames.specs.declared.note.Why.TheVariants as why
use Rattle.link_frames.specs.Frame.{lent}
use Rattle.link_frames.specs.Legs.{least_opening, muting_limit}
use Rattle.link_frames.specs.Ranks.{Deadline, first_of, left, to_next, soonest, behind}
use Rattle.link_frames.specs.Requests.{is_among}
use Rattle.link_frames.specs.Row.{Row, nothing_row, silent}
use Rattle.msd_fit.specs.Fitting.{made}
use Rattle.msd_fit.specs.declared.cause.Cause.{Cause}
use Rattle.msd_fit.specs.declared.cause.Cause.TheVariants as cause
use Rattle.redial.specs.Series.{is_dialling, under_way}
use Rattle.redial.specs.SeriesRows as series
use Rattle.redial.specs.declared.series.Next.{Next}
use Rattle.redial.specs.declared.series.Next.TheVariants as next
use Rattle.redial.specs.declared.series.Series.{Series}
use Rattle.redial.specs.declared.series.Turn.{Turn}
use Rattle.ivs_machine.specs.declared.event.VehicleEvent.{VehicleEvent}
use Rattle.ivs_machine.specs.declared.event.VehicleEvent.TheVariants as event
use Rattle.ivs_machine.specs.Vehicle.{Vehicle, first_vehicle, Phase, Idle, Standby, Arming, InSeries, InCall, Left, LeftIdle, LeftStandby, CallStage, Initiating, Awaiting, Sending, Confirming, Talking, served, octets_for, is_settled}

-- What the vehicle hears: an event whose frame is a whole one.
pub data Heard : Type 0 where
  Trigger : Cause → Heard
  Cancel : Heard
  Net : (up : Bool) → Heard
  Answered : (call : ℕ) → Heard
  Failed : Heard
  Incoming : (call : ℕ) → Heard
  Sleep : Heard
  Fault : Heard
  Hangup : Heard
  Lost : Heard
  Arrives : Frame → Heard
  Reset : Heard

abbrev pub heard : VehicleEvent → Heard
heard (event.Trigger by) = Trigger by
heard event.Cancel = Cancel
heard (event.Net up) = Net up
heard (event.Answered call) = Answered call
heard event.Failed = Failed
heard (event.Incoming call) = Incoming call
heard event.Sleep = Sleep
heard event.Fault = Fault
heard event.Hangup = Hangup
heard event.Lost = Lost
heard (event.Frame f) = Arrives (lent f)
heard event.Reset = Reset

-- The profile's numbers, in ticks of 100 ms. Those of a dial series and of a standby are those of the crates `redial`
-- and `callback`.

-- T1: in which a manual trigger may be cancelled
abbrev pub cancel_period : ℕ
cancel_period = 50

-- T2: the longest call
abbrev pub longest_call : ℕ
longest_call = 36000

-- T3: how long the initiation lasts
abbrev pub initiation : ℕ
initiation = 20

-- T5: how long the vehicle waits for a request
abbrev pub longest_awaiting : ℕ
longest_awaiting = 50

-- T6: how long it waits for the application's acknowledgement
abbrev pub longest_confirming : ℕ
longest_confirming = 50

-- T7: how long it sends a set
abbrev pub longest_sending : ℕ
longest_sending = 200

-- the ticks between two initiations, and between two attempts to send a set
abbrev pub initiates_every : ℕ
initiates_every = 5

abbrev pub sends_every : ℕ
sends_every = 13

-- where numbers of sets and of attempts to send one stay
abbrev pub most_number : ℕ
most_number = 255

-- The items of a call.

abbrev pub sends : Vehicle → Frame → Note
sends v f = note.Send «end».Vehicle v.call f

abbrev pub ends : Vehicle → Timer → Note
ends v t = note.Ended «end».Vehicle v.call t

abbrev pub down : Vehicle → Why → Note
down v w = note.Down «end».Vehicle v.call w

-- both directions are opened, or both muted
abbrev pub voices : Vehicle → (opened : Bool) → Note
voices v opened = note.Voice «end».Vehicle v.call opened opened

-- the end of a timer outside a call
abbrev pub ends_outside : Timer → Note
ends_outside t = note.Ended «end».Vehicle 0 t

-- The moves.

abbrev pub gives : List Note → Vehicle → Row Vehicle
gives items v = record { items = items; new = v }

-- the row where the guard holds
abbrev pub when : Bool → Row Vehicle → Option (Row Vehicle)
when true row = Some row
when false row = None

-- the standby begins
abbrev pub rests : Vehicle → Row Vehicle
rests v = gives (note.Standby ∷ []) (record v { phase = Standby; standby = 0 })

-- what follows in a dial series, which is then this one
abbrev pub follows : Next → Series → Vehicle → Row Vehicle
follows (next.Dial n) s v = gives (note.Dial n ∷ []) (record v { phase = InSeries s })
follows next.Pause s v = gives [] (record v { phase = InSeries s })
follows next.Seek s v = gives (note.Seeking ∷ []) (record v { phase = InSeries s })
follows next.GaveUp s v = behind (note.GaveUp ∷ []) (rests v)

-- a dial series begins
abbrev pub begins : Vehicle → Row Vehicle
begins v = follows (series.begins v.network).next (series.begins v.network).new v

-- the item for the attempt that was under way, if one was: it failed
abbrev pub failed_attempt : Option ℕ → List Note
failed_attempt None = []
failed_attempt (Some n) = note.Failed n ∷ []

-- a move of this series, if it makes one
abbrev pub moves : (old : Series) → Option Next → (new : Series) → Vehicle → Row Vehicle
moves old None new v = gives [] (record v { phase = InSeries new })
moves old (Some next) new v = behind (failed_attempt (under_way old)) (follows next new v)

-- an attempt to dial failed
abbrev pub fails : Series → Vehicle → Row Vehicle
fails s v = moves s (Some (series.fails s).next) (series.fails s).new v

-- a series is told of the network
abbrev pub told : (up : Bool) → Series → Vehicle → Row Vehicle
told up s v = moves s (series.told up s).next (series.told up s).new v

-- the item for the timer of a series that a trace names, if it names one
abbrev pub ended_items : Option Timer → List Note
ended_items None = []
ended_items (Some t) = ends_outside t ∷ []

-- what a timer of this series leads to, if one is at its end
abbrev pub turns : (old : Series) → Vehicle → Option Turn → (new : Series) → Row Vehicle
turns old v None new = moves old None new v
turns old v (Some turn) new = behind (ended_items turn.ended) (moves old (Some turn.next) new v)

-- the vehicle is idle
abbrev pub idles : Vehicle → Row Vehicle
idles v = gives (note.Idle ∷ []) (record v { phase = Idle })

-- a trigger that leads to a series
abbrev pub triggers : Cause → Vehicle → Row Vehicle
triggers by v = begins (record v { cause = by; sets = 0 })

-- the cancel period of a manual trigger begins
abbrev pub arms : Left → Vehicle → Row Vehicle
arms before v = gives (note.Arming ∷ []) (record v { phase = Arming before; in_phase = 0 })

-- back to the phase left; a standby that was over meanwhile ends
abbrev pub returns : Vehicle → Left → Row Vehicle
returns v LeftIdle = gives [] (record v { phase = Idle })
returns v LeftStandby = if v.standby == longest_standby then idles v else gives [] (record v { phase = Standby })

-- a call of this number, with nothing made, counted or sent yet
abbrev pub in_new_call : ℕ → CallStage → (marked : Bool) → Vehicle → Vehicle
in_new_call c stage marked v =
    record v {
      phase = InCall stage;
      in_phase = 0;
      call = c;
      made = [];
      counted = [];
      attempt = 0;
      in_call = 0;
      voice_for = 0;
      marked = marked;
    }

-- the point took the call that is dialled
abbrev pub answered : ℕ → Vehicle → Row Vehicle
answered c v =
    gives
    (note.Up «end».Vehicle c ∷ note.Voice «end».Vehicle c false false ∷ note.Send «end».Vehicle c frame.Init ∷ [])
    (in_new_call c Initiating false v)

-- the point calls: the voice is open from the start, and the call is settled
abbrev pub called : ℕ → Vehicle → Row Vehicle
called c v =
    gives (note.Up «end».Vehicle c ∷ note.Voice «end».Vehicle c true true ∷ []) (in_new_call c Talking true v)

-- another stage of the call, with the voice as it was
abbrev pub enters : CallStage → Vehicle → Vehicle
enters stage v = record v { phase = InCall stage; in_phase = 0 }

abbrev pub opens : Vehicle → Row Vehicle
opens v = gives (voices v true ∷ []) (record (enters Talking v) { voice_for = 0 })

-- the call is settled from now on
abbrev pub marks : Vehicle → Vehicle
marks v = record v { marked = true }

-- the set that is made now: its number is how many were made since the trigger
abbrev pub new_set : Vehicle → List ℕ
new_set v = made v.facts v.cause (min (v.sets + 1) most_number)

-- a request is obeyed: its set is made once, and sent as attempt 0
abbrev pub takes : ℕ → Vehicle → Row Vehicle
takes r v =
    gives (sends v (frame.Content r 0 (new_set v)) ∷ [])
    (record (enters (Sending r) v) { sets = v.sets + 1; attempt = 0; made = (r, new_set v) ∷ v.made })

-- the next attempt to send the set of a request
abbrev pub sends_again : ℕ → Vehicle → Row Vehicle
sends_again r v =
    let attempt = min (v.attempt + 1) most_number in
    gives (sends v (frame.Content r attempt (octets_for r v.made)) ∷ []) (record v { attempt = attempt })

-- the entry for a request that is counted
abbrev pub acked : ℕ → Vehicle → List Note
acked r v = note.Acked v.call r (octets_for r v.made) ∷ []

abbrev pub counts : ℕ → Vehicle → Vehicle
counts r v = record v { counted = r ∷ v.counted }

-- the point lets the vehicle go
abbrev pub releases : Vehicle → Row Vehicle
releases v = behind (down v why.Release ∷ []) (rests v)

-- the vehicle restarts: it is as before anything happened, and knows its facts and the network alone
abbrev pub restarts : Vehicle → Row Vehicle
restarts v = gives (note.Restart «end».Vehicle ∷ []) (record (first_vehicle v.facts) { network = v.network })

-- the network comes, or goes
abbrev pub networked : Bool → Vehicle → Vehicle
networked up v = record v { network = up }

-- The guards.

abbrev pub is_above : ℕ → Vehicle → Bool
is_above r v = nat_lt (served v.made) r

-- whether the voice was open for so long that a request may mute it
abbrev pub is_long_open : Vehicle → Bool
is_long_open v = nat_le least_opening v.voice_for

-- The table by event and phase. None: no line stands there.
abbrev pub named : Heard → Vehicle → Phase → Option (Row Vehicle)
named (Trigger cause.Auto) v Idle = Some (triggers cause.Auto v)
named (Trigger cause.Auto) v Standby = Some (triggers cause.Auto v)
named (Trigger cause.Auto) v (Arming before) = Some (triggers cause.Auto v)
named (Trigger cause.Test) v Idle = Some (triggers cause.Test v)
named (Trigger cause.Test) v Standby = Some (triggers cause.Test v)
named (Trigger cause.Manual) v Idle = Some (arms LeftIdle v)
named (Trigger cause.Manual) v Standby = Some (arms LeftStandby v)
named Cancel v (Arming before) = Some (behind (note.Cancelled ∷ []) (returns v before))
named (Net false) v (InSeries s) = when v.network (behind (note.Net false ∷ []) (told false s (networked false v)))
named (Net false) v (InCall stage) =
    when v.network (behind (note.Net false ∷ down v why.Lost ∷ []) (begins (networked false v)))
named (Net false) v _ = when v.network (gives (note.Net false ∷ []) (networked false v))
named (Net true) v (InSeries s) =
    when (not v.network) (behind (note.Net true ∷ []) (told true s (networked true v)))
named (Net true) v _ = when (not v.network) (gives (note.Net true ∷ []) (networked true v))
named (Answered c) v (InSeries s) = when (is_dialling s.phase) (answered c v)
named Failed v (InSeries s) = when (is_dialling s.phase) (fails s v)
named (Incoming c) v Standby = when v.network (called c v)
named Sleep v Standby = when (nat_le least_standby v.standby) (idles v)
named Fault v (InCall Talking) = Some (gives (note.Fault «end».Vehicle v.call ∷ []) v)
named Fault v (InCall stage) = Some (behind (note.Fault «end».Vehicle v.call ∷ []) (opens v))
named Hangup v (InCall stage) =
    Some (behind (down v why.Hangup ∷ []) (if is_settled v then rests v else begins v))
named Lost v (InCall stage) = Some (behind (down v why.Lost ∷ []) (begins v))
named (Arrives (frame.Start r)) v (InCall Talking) =
    when (is_above r v && is_long_open v) (behind (voices v false ∷ []) (takes r (record v { voice_for = 0 })))
named (Arrives (frame.Start r)) v (InCall stage) = when (is_above r v) (takes r v)
named (Arrives (frame.Nack r)) v (InCall (Sending s)) = when (r == s) (sends_again s v)
named (Arrives (frame.Ack r)) v (InCall (Sending s)) =
    when (r == s) (gives (acked s v) (enters (Confirming s) (counts s v)))
named (Arrives (frame.App r answer.Positive)) v (InCall (Sending s)) =
    when (r == s) (behind (acked s v) (opens (counts s v)))
named (Arrives (frame.App r answer.Positive)) v (InCall (Confirming s)) = when (r == s) (opens v)
named (Arrives (frame.App r answer.Clear)) v (InCall (Sending s)) =
    when (r == s) (behind (acked s v) (releases (counts s v)))
named (Arrives (frame.App r answer.Clear)) v (InCall (Confirming s)) = when (r == s) (releases v)
named (Arrives (frame.App r answer.Clear)) v (InCall Talking) = when (is_among r v.counted) (releases v)
named Reset v (InCall stage) = Some (behind (down v why.Lost ∷ []) (restarts v))
named Reset v _ = Some (restarts v)
named _ v _ = None

-- where no line stands, a frame gives no item, every other event the item `nothing`, and neither changes anything
abbrev pub unnamed : Heard → Vehicle → Row Vehicle
unnamed (Arrives f) v = silent v
unnamed _ v = nothing_row v

abbrev pub vehicle_row : Vehicle → Heard → Row Vehicle
vehicle_row v e = unwrap_or (named e v v.phase) (unnamed e v)

-- The unit tick.

-- n ticks later in each sum that runs
abbrev pub aged_in : ℕ → Vehicle → Phase → Vehicle
aged_in n v Idle = v
aged_in n v Standby = record v { standby = rested v.standby n }
aged_in n v (Arming LeftIdle) = record v { in_phase = v.in_phase + n }
aged_in n v (Arming LeftStandby) = record v { in_phase = v.in_phase + n; standby = rested v.standby n }
aged_in n v (InSeries s) = record v { phase = InSeries (series.grown n s) }
aged_in n v (InCall stage) =
    record v { in_call = v.in_call + n; in_phase = v.in_phase + n; voice_for = v.voice_for + n }

abbrev pub aged : ℕ → Vehicle → Vehicle
aged n v = aged_in n v v.phase

-- a line that acts when the elapsed ticks come to a limit
abbrev pub at : (limit elapsed : ℕ) → Row Vehicle → Deadline (Row Vehicle)
at limit elapsed row = record { left = left limit elapsed; row = row }

-- a line that acts whenever they come to a multiple of a gap
abbrev pub every : (gap elapsed : ℕ) → Row Vehicle → Deadline (Row Vehicle)
every gap elapsed row = record { left = to_next gap elapsed; row = row }

-- a wait for data ends, and the voice opens
abbrev pub times_out : Timer → Vehicle → Row Vehicle
times_out t v = behind (ends v t ∷ []) (opens v)

-- the bound on all muting
abbrev pub by_sum : Vehicle → Deadline (Row Vehicle)
by_sum v = at (muting_limit «end».Vehicle) v.voice_for (times_out timer.Sum (marks v))

-- the lines of a stage of a call, by rank
abbrev pub in_stage : Vehicle → CallStage → List (Deadline (Row Vehicle))
in_stage v Initiating =
    by_sum v
    ∷ at initiation v.in_phase (gives (ends v timer.T3 ∷ []) (enters Awaiting v))
    ∷ every initiates_every v.in_phase (gives (sends v frame.Init ∷ []) v)
    ∷ []
in_stage v Awaiting = by_sum v ∷ at longest_awaiting v.in_phase (times_out timer.T5 (marks v)) ∷ []
in_stage v (Sending r) =
    by_sum v
    ∷ at longest_sending v.in_phase (times_out timer.T7 (marks v))
    ∷ every sends_every v.in_phase (sends_again r v)
    ∷ []
in_stage v (Confirming r) = by_sum v ∷ at longest_confirming v.in_phase (times_out timer.T6 v) ∷ []
in_stage v Talking = []

-- these lines with other rows
abbrev pub with_rows : {A B : Type 0} → (A → B) → List (Deadline A) → List (Deadline B)
with_rows row [] = []
with_rows row (d ∷ ds) = record { left = d.left; row = row d.row } ∷ with_rows row ds

-- the lines of each phase, by rank; of a dial series those that it has
abbrev pub deadlines : Vehicle → Phase → List (Deadline (Row Vehicle))
deadlines v Idle = []
deadlines v Standby = at longest_standby v.standby (behind (ends_outside timer.T10 ∷ []) (idles v)) ∷ []
deadlines v (Arming before) =
    at cancel_period v.in_phase (behind (ends_outside timer.T1 ∷ []) (triggers cause.Manual v)) ∷ []
deadlines v (InSeries s) = with_rows (λ t. turns s v t.turn t.new) (series.deadlines s s.phase)
deadlines v (InCall stage) =
    at longest_call v.in_call (behind (ends v timer.T2 ∷ []) (releases v)) ∷ in_stage v stage

-- what the lines give that have no tick left
abbrev pub acts : Vehicle → Row Vehicle
acts v = first_of (silent v) (deadlines v v.phase)

-- one unit tick: each sum that runs grows by one, and then a line acts
abbrev pub unit_row : Vehicle → Row Vehicle
unit_row v = acts (aged 1 v)

-- n unit ticks
abbrev pub units : ℕ → Vehicle → Row Vehicle
units zero v = silent v
units (suc n) v = behind (unit_row v).items (units n (unit_row v).new)

-- after how many unit ticks a line acts
abbrev pub due_of : Vehicle → Option ℕ
due_of v = let next : Vehicle = aged 1 v in soonest (deadlines next next.phase)

-- The least number of unit ticks that give an item; None where no number of them does.
pub record IsDue (due : ℕ) (v : Vehicle) : Type 0 where
  pub gives : (units due v).items ≢ []
  pub quiet : (n : ℕ) → n < due → (units n v).items ≡ []

abbrev pub IsLeastDue : Option ℕ → Vehicle → Type 0
IsLeastDue None v = (n : ℕ) → (units n v).items ≡ []
IsLeastDue (Some due) v = IsDue due v
