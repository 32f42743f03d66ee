-- What each event line of a script does in the world, as a list of what the ends hear, and the trace of a script. This
-- project's profile. Cited by the contracts of `World`, by the laws of this crate and by the reply of `ecall`.
use Rattle.std.specs.Prelude.{ℕ, Bool, true, false, List, [], ◌∷◌, ◌++◌, ◌+◌, ◌-◌, Option, Some, None, length, map, slice_get, if◌then◌else◌}
use Rattle.link_frames.specs.declared.frame.End.TheVariants as «end»
use Rattle.link_frames.specs.declared.note.Note.{Note}
use Rattle.link_frames.specs.declared.note.Note.TheVariants as note
use Rattle.link_frames.specs.declared.note.Why.TheVariants as why
use Rattle.link_frames.specs.Row.{Row}
use Rattle.msd_fit.specs.declared.facts.Facts.{Facts}
use Rattle.ivs_machine.specs.Vehicle.{vehicle_call, is_dialling, is_reachable}
use Rattle.ivs_machine.specs.VehicleRows as vehicle
use Rattle.psap_machine.specs.Point.{Point}
use Rattle.psap_machine.specs.PointRows as point
use Rattle.trace_model.specs.History.{Sent, told}
use Rattle.trace_model.specs.declared.entry.Entry.{Entry}
use Rattle.trace_model.specs.declared.event.Event.{Event}
use Rattle.trace_model.specs.declared.event.Event.TheVariants as event
use Rattle.channel_sim.specs.World.{Call, World, Step, Act, Hears, InCall, Session, Due, first_world, quiet_step, and_then, call_of, vehicle_is_in, point_is_in, vehicle_did, session_did, performs, hands_up, hands_down, each, units, ends}

-- What a line has happen: an end hears something, a frame is handed over, or a call comes up at both ends.
pub data Deed : Type 0 where
  Does : Act → Deed
  HandsUp : Due → Deed
  HandsDown : Due → Deed
  Answers : Deed
  CallsBack : Deed

-- The next call's number is drawn, the vehicle does this, and then a session comes up that did that.
abbrev pub with_call : World → World
with_call w =
    record w {
      drawn = w.drawn + 1;
      calls = w.calls ++ record { number = w.drawn + 1; session = None; up = []; down = [] } ∷ [];
    }

-- a call of the next number comes up at the vehicle, by what it hears, and then at the point, by this row
abbrev pub comes_up : (ℕ → vehicle.Heard) → (ℕ → Row Point) → World → Step
comes_up e arrival w =
    let c : ℕ = w.drawn + 1 in
    and_then (vehicle_did (with_call w) (vehicle.vehicle_row w.vehicle (e c))) (λ u. session_did c u (arrival c))

abbrev pub deed : Deed → World → Step
deed (Does a) w = performs a w
deed (HandsUp d) w = hands_up d w
deed (HandsDown d) w = hands_down d w
deed Answers w = comes_up vehicle.Answered point.arriving w
deed CallsBack w = comes_up vehicle.Incoming point.called w

abbrev pub when : Bool → Deed → List Deed
when true d = d ∷ []
when false d = []

-- the vehicle hears this in the call that it is in
abbrev pub in_its_call : Option ℕ → vehicle.Heard → List Deed
in_its_call None e = []
in_its_call (Some c) e = Does (InCall c e) ∷ []

-- the session of a call hears this, where its leg is up
abbrev pub at_point : ℕ → point.Heard → World → List Deed
at_point c e w = when (point_is_in c w) (Does (Session c e))

-- the frames sent in this call and direction
abbrev pub sent_up : Option Call → List Sent
sent_up None = []
sent_up (Some k) = k.up

abbrev pub sent_down : Option Call → List Sent
sent_down None = []
sent_down (Some k) = k.down

-- the k-th frame of these, from 1, is handed over
abbrev pub hands_one : (Due → Deed) → ℕ → Option Sent → List Deed
hands_one deed c None = []
hands_one deed c (Some s) = deed (record { call = c; frame = s.frame }) ∷ []

abbrev pub hands_place : (Due → Deed) → ℕ → ℕ → List Sent → List Deed
hands_place deed c k sent = hands_one deed c (slice_get sent (k - 1))

-- What a line has happen in this world; none where it applies to nothing.
abbrev pub deeds_of : World → Event → List Deed
deeds_of w (event.Trigger cause) = Does (Hears (vehicle.Trigger cause)) ∷ []
deeds_of w event.Cancel = Does (Hears vehicle.Cancel) ∷ []
deeds_of w (event.Net up) = Does (Hears (vehicle.Net up)) ∷ []
deeds_of w event.Answer = when (is_dialling w.vehicle) Answers
deeds_of w event.Fail = Does (Hears vehicle.Failed) ∷ []
deeds_of w event.Callback = when (is_reachable w.vehicle) CallsBack
deeds_of w event.Sleep = Does (Hears vehicle.Sleep) ∷ []
deeds_of w event.FaultVehicle = Does (Hears vehicle.Fault) ∷ []
deeds_of w (event.FaultPoint c) = at_point c point.Fault w
deeds_of w (event.Damaged c) = at_point c point.Damaged w
deeds_of w (event.Request c) = at_point c point.Request w
deeds_of w (event.Clear c) = at_point c point.Clear w
deeds_of w (event.Hangup c) = at_point c point.Hangup w
deeds_of w event.DropVehicle = in_its_call (vehicle_call w.vehicle) vehicle.Lost
deeds_of w (event.DropPoint c) = at_point c (point.Ended why.Lost) w
deeds_of w (event.DropBoth c) =
    when (vehicle_is_in c w) (Does (InCall c vehicle.Lost)) ++ at_point c (point.Ended why.Lost) w
deeds_of w (event.Deliver true c k) =
    if point_is_in c w then hands_place HandsUp c k (sent_up (call_of c w.calls)) else []
deeds_of w (event.Deliver false c k) =
    if vehicle_is_in c w then hands_place HandsDown c k (sent_down (call_of c w.calls)) else []
deeds_of w (event.Flow up delay) = []
deeds_of w (event.Reset «end».Vehicle) = Does (Hears vehicle.Reset) ∷ []
deeds_of w (event.Reset «end».Point) = []
deeds_of w (event.Tick n) = []

-- an item that stands alone, and no change
abbrev pub item_step : Note → World → Step
item_step n w = record { entries = told w.tick (n ∷ []); world = w; handed = 0 }

-- a line that applies to nothing: the item `nothing`
abbrev pub nothing_step : World → Step
nothing_step w = item_step note.Nothing w

abbrev pub or_nothing : List Deed → World → Step
or_nothing [] w = nothing_step w
or_nothing (d ∷ ds) w = each deed (d ∷ ds) w

-- The point restarts: each session hears it, by call, and then its item stands, also where there is no session.
abbrev pub session_resets : ℕ → World → Step
session_resets c w = performs (Session c point.Reset) w

abbrev pub point_resets : World → Step
point_resets w =
    and_then (each session_resets (map (λ k. k.number) w.calls) w) (item_step (note.Restart «end».Point))

-- what one event line does
abbrev pub step : World → Event → Step
step w (event.Flow true delay) = quiet_step (record w { up_flow = delay })
step w (event.Flow false delay) = quiet_step (record w { down_flow = delay })
step w (event.Reset «end».Point) = point_resets w
step w (event.Tick n) = units n w
step w e = or_nothing (deeds_of w e) w

-- How often the ends are passed in a step at most: for a line of elapsed ticks once for each entry, for each frame
-- handed over and for each end that there is before; for every other line never.
abbrev pub passes_within : World → Event → ℕ
passes_within w (event.Tick n) = length (units n w).entries + (units n w).handed + ends w
passes_within w _ = 0

-- the entries of these events, from this world on
abbrev pub trace_from : World → List Event → List Entry
trace_from w [] = []
trace_from w (e ∷ es) = (step w e).entries ++ trace_from (step w e).world es

-- the world behind these events
abbrev pub world_after : World → List Event → World
world_after w [] = w
world_after w (e ∷ es) = world_after (step w e).world es

-- how often the ends are passed by these events at most
abbrev pub bound_from : World → List Event → ℕ
bound_from w [] = 0
bound_from w (e ∷ es) = passes_within w e + bound_from (step w e).world es

-- the trace of a script with these facts and events, and the bound on its passes
abbrev pub trace : Facts → List Event → List Entry
trace known events = trace_from (first_world known) events

abbrev pub bound : Facts → List Event → ℕ
bound known events = bound_from (first_world known) events
