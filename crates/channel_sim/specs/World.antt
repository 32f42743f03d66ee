-- The world of both ends and the channel between them: its state, what an end's row does in it, the consequences at the
-- other end, and the unit tick. All that was ever sent in a call may be handed over late, twice, in any order or never.
-- This project's profile. Cited by the contracts of `World`, by the laws of this crate and by the reply of `ecall`.
use Rattle.std.specs.Prelude.{ℕ, zero, suc, Bool, List, [], ◌∷◌, ◌++◌, ◌+◌, ◌==◌, ◌||◌, Option, Some, None, map, if◌then◌else◌}
use Rattle.std.specs.Option.{is_some}
use Rattle.link_frames.specs.declared.frame.End.TheVariants as «end»
use Rattle.link_frames.specs.declared.frame.Frame.{Frame}
use Rattle.link_frames.specs.declared.note.Note.{Note}
use Rattle.link_frames.specs.declared.note.Note.TheVariants as note
use Rattle.link_frames.specs.declared.note.Why.TheVariants as why
use Rattle.link_frames.specs.Row.{Row}
use Rattle.msd_fit.specs.declared.facts.Facts.{Facts}
use Rattle.ivs_machine.specs.Vehicle.{Vehicle, first_vehicle, vehicle_call}
use Rattle.ivs_machine.specs.VehicleRows as vehicle
use Rattle.psap_machine.specs.Point.{Point}
use Rattle.psap_machine.specs.PointRows as point
use Rattle.trace_model.specs.declared.entry.Entry.{Entry}
use Rattle.trace_model.specs.History.{Sent, sent_by, told}
use Rattle.trace_fit.specs.Seats.{is_number, left_by}

-- A call with a leg up: its number, the point's session, where that leg is up, and the frames sent in it, in order: up
-- by the vehicle, down by the point.
pub record Call : Type 0 where
  pub number : ℕ
  pub session : Option Point
  pub up : List Sent
  pub down : List Sent

pub record World : Type 0 where
  pub tick : ℕ
  pub vehicle : Vehicle
  -- the last call number drawn
  pub drawn : ℕ
  -- the calls with a leg up, by number
  pub calls : List Call
  -- after how many ticks each frame sent is handed over by itself, up and down; 0 is never
  pub up_flow : ℕ
  pub down_flow : ℕ

-- the world before anything happened
abbrev pub first_world : Facts → World
first_world known =
    record { tick = 0; vehicle = first_vehicle known; drawn = 0; calls = []; up_flow = 0; down_flow = 0 }

-- What a step gives: the entries of the trace, in order, the world behind it, and how many frames were handed over.
pub record Step : Type 0 where
  pub entries : List Entry
  pub world : World
  pub handed : ℕ

-- a step that gives nothing
abbrev pub quiet_step : World → Step
quiet_step w = record { entries = []; world = w; handed = 0 }

-- one step, and then another in the world that it leaves
abbrev pub and_then : Step → (World → Step) → Step
and_then first second =
    record {
      entries = first.entries ++ (second first.world).entries;
      world = (second first.world).world;
      handed = first.handed + (second first.world).handed;
    }

-- Legs.

-- whether the vehicle's leg of this call is up
abbrev pub vehicle_is_in : ℕ → World → Bool
vehicle_is_in c w = is_number c (vehicle_call w.vehicle)

-- the call of this number, if it has a leg up
abbrev pub call_of : ℕ → List Call → Option Call
call_of c [] = None
call_of c (k ∷ ks) = if k.number == c then Some k else call_of c ks

abbrev pub session_in : Option Call → Option Point
session_in None = None
session_in (Some k) = k.session

-- the point's session of this call, if its leg is up
abbrev pub session_of : ℕ → List Call → Option Point
session_of c calls = session_in (call_of c calls)

-- whether the point's leg of this call is up
abbrev pub point_is_in : ℕ → World → Bool
point_is_in c w = is_some (session_of c w.calls)

-- the calls, with this session in the call of this number
abbrev pub seated : ℕ → Option Point → List Call → List Call
seated c new [] = []
seated c new (k ∷ ks) = if k.number == c then record k { session = new } ∷ ks else k ∷ seated c new ks

-- What one end did.

-- what was sent in a call, and now what these entries send
abbrev pub carries : List Entry → Call → Call
carries entries k =
    record k {
      up = k.up ++ sent_by «end».Vehicle k.number entries;
      down = k.down ++ sent_by «end».Point k.number entries;
    }

-- A call, with its frames, is gone once both its legs are down.
abbrev pub with_legs : Option ℕ → List Call → List Call
with_legs in_call [] = []
with_legs in_call (k ∷ ks) =
    if is_number k.number in_call || is_some k.session then k ∷ with_legs in_call ks else with_legs in_call ks

-- An end did this: its items are told, and its frames sent. The vehicle is this now, and the calls are these.
abbrev pub did : World → List Note → Vehicle → List Call → Step
did w items v calls =
    record {
      entries = told w.tick items;
      world = record w { vehicle = v; calls = with_legs (vehicle_call v) (map (carries (told w.tick items)) calls) };
      handed = 0;
    }

abbrev pub vehicle_did : World → Row Vehicle → Step
vehicle_did w row = did w row.items row.new w.calls

-- the session of this call did this
abbrev pub session_did : ℕ → World → Row Point → Step
session_did c w row = did w row.items w.vehicle (seated c (left_by row.new) w.calls)

-- What one end hears. An end that isn't in the call doesn't hear what is of the call.
pub data Act : Type 0 where
  Hears : vehicle.Heard → Act
  InCall : (call : ℕ) → vehicle.Heard → Act
  Session : (call : ℕ) → point.Heard → Act

abbrev pub session_acts : ℕ → World → (Point → Row Point) → Option Point → Step
session_acts c w row None = quiet_step w
session_acts c w row (Some s) = session_did c w (row s)

abbrev pub does : Act → World → Step
does (Hears e) w = vehicle_did w (vehicle.vehicle_row w.vehicle e)
does (InCall c e) w = if vehicle_is_in c w then vehicle_did w (vehicle.vehicle_row w.vehicle e) else quiet_step w
does (Session c e) w = session_acts c w (λ s. point.point_row s e) (session_of c w.calls)

abbrev pub does_each : List Act → World → Step
does_each [] w = quiet_step w
does_each (a ∷ acts) w = and_then (does a w) (does_each acts)

-- Consequences: what an item of one end has the other end hear. The vehicle lets the session go; a session that hung
-- up, or that let the vehicle go, has the vehicle hear a hang-up.
abbrev pub consequence : Note → List Act
consequence (note.Down «end».Vehicle c why.Release) = Session c (point.Ended why.Release) ∷ []
consequence (note.Down «end».Point c why.Release) = InCall c vehicle.Hangup ∷ []
consequence (note.Down «end».Point c why.Hangup) = InCall c vehicle.Hangup ∷ []
consequence _ = []

abbrev pub consequences : List Entry → List Act
consequences [] = []
consequences (x ∷ xs) = consequence x.note ++ consequences xs

-- what one end does, and then the consequences of all that it gave
abbrev pub settled : Step → Step
settled s = and_then s (does_each (consequences s.entries))

abbrev pub performs : Act → World → Step
performs a w = settled (does a w)

-- Handing over. A frame reaches its receiver while the receiver's leg of that very call is up; it stays in flight.

pub record Due : Type 0 where
  pub call : ℕ
  pub frame : Frame

abbrev pub one_handed : Step → Step
one_handed s = record s { handed = s.handed + 1 }

abbrev pub hands_up : Due → World → Step
hands_up d w =
    if point_is_in d.call w then one_handed (performs (Session d.call (point.Arrives d.frame)) w) else quiet_step w

abbrev pub hands_down : Due → World → Step
hands_down d w =
    if vehicle_is_in d.call w then one_handed (performs (InCall d.call (vehicle.Arrives d.frame)) w) else quiet_step w

abbrev pub each : {A : Type 0} → (A → World → Step) → List A → World → Step
each step [] w = quiet_step w
each step (a ∷ more) w = and_then (step a w) (each step more)

-- The unit tick.

-- those of these frames of a call that were sent so many ticks ago
abbrev pub due_frames : (call delay now : ℕ) → List Sent → List Due
due_frames c delay now [] = []
due_frames c delay now (s ∷ ss) =
    if s.tick + delay == now then record { call = c; frame = s.frame } ∷ due_frames c delay now ss
    else due_frames c delay now ss

-- the frames that were sent so many ticks ago in this direction, by call and order of sending; none with a delay of 0
abbrev pub due_in : (Call → List Sent) → (delay now : ℕ) → List Call → List Due
due_in sent zero now calls = []
due_in sent (suc d) now [] = []
due_in sent (suc d) now (k ∷ ks) = due_frames k.number (suc d) now (sent k) ++ due_in sent (suc d) now ks

abbrev pub flows_up : World → Step
flows_up w = each hands_up (due_in (λ k. k.up) w.up_flow w.tick w.calls) w

abbrev pub flows_down : World → Step
flows_down w = each hands_down (due_in (λ k. k.down) w.down_flow w.tick w.calls) w

abbrev pub vehicle_passes : World → Step
vehicle_passes w = settled (vehicle_did w (vehicle.unit_row w.vehicle))

abbrev pub session_passes : ℕ → World → Step
session_passes c w = settled (session_acts c w point.unit_row (session_of c w.calls))

abbrev pub sessions_pass : World → Step
sessions_pass w = each session_passes (map (λ k. k.number) w.calls) w

-- The tick is one more; the vehicle's unit tick, each session's, by call; then what is due up, and what is due down.
abbrev pub unit : World → Step
unit w =
    and_then (and_then (and_then (vehicle_passes (record w { tick = w.tick + 1 })) sessions_pass) flows_up) flows_down

-- n unit ticks
abbrev pub units : ℕ → World → Step
units zero w = quiet_step w
units (suc n) w = and_then (unit w) (units n)

-- how many ends there are: the vehicle, and each session
abbrev pub session_count : List Call → ℕ
session_count [] = 0
session_count (k ∷ ks) = if is_some k.session then session_count ks + 1 else session_count ks

abbrev pub ends : World → ℕ
ends w = session_count w.calls + 1
