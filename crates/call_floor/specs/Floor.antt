-- A floor of vehicles at one point: its state, what a turn of one vehicle does in it, and the unit tick. A vehicle,
-- with the calls that were drawn for it, is a world, and does there what a vehicle alone does; what they share is the
-- tick, the flows, and the call numbers, which are drawn for the whole floor. This project's profile. Cited by the
-- contracts of `Floor`, by the laws of this crate, and by the listener `Tagged`.
use Rattle.std.specs.Prelude.{ℕ, zero, suc, List, [], ◌∷◌, ◌++◌, ◌+◌, ◌==◌, Option, Some, None, option_map, length, map, nat_lt, if◌then◌else◌}
use Rattle.msd_fit.specs.declared.facts.Facts.{Facts}
use Rattle.ivs_machine.specs.Vehicle.{Vehicle, first_vehicle}
use Rattle.trace_model.specs.History.{Sent}
use Rattle.trace_model.specs.declared.entry.Entry.{Entry}
use Rattle.channel_sim.specs.World.{Call, World, Step, Due, call_of, due_in, hands_up, hands_down, vehicle_passes, session_passes}
use Rattle.call_floor.specs.declared.entry.FloorEntry.{FloorEntry}

-- A vehicle on the floor, and those of the calls drawn for it that have a leg up, by number.
pub record Stand : Type 0 where
  pub number : ℕ
  pub vehicle : Vehicle
  pub calls : List Call

pub record Floor : Type 0 where
  pub tick : ℕ
  -- the vehicles, by number
  pub stands : List Stand
  -- for each call number drawn, from 1 on, the vehicle for which it was drawn
  pub drawn : List ℕ
  -- after how many ticks each frame sent is handed over by itself, up and down; 0 is never
  pub up_flow : ℕ
  pub down_flow : ℕ

-- the floor before anything happened, with these vehicles
abbrev pub floor_with : List Stand → Floor
floor_with stands = record { tick = 0; stands = stands; drawn = []; up_flow = 0; down_flow = 0 }

-- a vehicle of this number before anything happened, which knows these facts
abbrev pub first_stand : ℕ → Facts → Stand
first_stand v known = record { number = v; vehicle = first_vehicle known; calls = [] }

-- a vehicle takes its place among these, by number
abbrev pub joined : Stand → List Stand → List Stand
joined s [] = s ∷ []
joined s (other ∷ others) = if nat_lt s.number other.number then s ∷ other ∷ others else other ∷ joined s others

-- the vehicle of this number, if it is there
abbrev pub stand_of : ℕ → List Stand → Option Stand
stand_of v [] = None
stand_of v (s ∷ ss) = if s.number == v then Some s else stand_of v ss

abbrev pub calls_at : Option Stand → List Call
calls_at None = []
calls_at (Some s) = s.calls

-- One vehicle's own world: the floor without the other vehicles and their calls.
abbrev pub own : Floor → Stand → World
own w s =
    record {
      tick = w.tick;
      vehicle = s.vehicle;
      drawn = length w.drawn;
      calls = s.calls;
      up_flow = w.up_flow;
      down_flow = w.down_flow;
    }

abbrev pub own_of : ℕ → Floor → Option World
own_of v w = option_map (own w) (stand_of v w.stands)

-- What a step gives: the entries of the trace, in order, the floor behind it, and how many frames were handed over.
pub record FloorStep : Type 0 where
  pub entries : List FloorEntry
  pub floor : Floor
  pub handed : ℕ

abbrev pub quiet_floor : Floor → FloorStep
quiet_floor w = record { entries = []; floor = w; handed = 0 }

-- one step, and then another on the floor that it leaves
abbrev pub and_then : FloorStep → (Floor → FloorStep) → FloorStep
and_then first second =
    record {
      entries = first.entries ++ (second first.floor).entries;
      floor = (second first.floor).floor;
      handed = first.handed + (second first.floor).handed;
    }

-- Turns.

abbrev pub entry_of : ℕ → Entry → FloorEntry
entry_of v x = record { vehicle = v; entry = x }

-- the vehicles, where this one and its calls are now as in this world
abbrev pub put : ℕ → World → List Stand → List Stand
put v u [] = []
put v u (s ∷ ss) = if s.number == v then record s { vehicle = u.vehicle; calls = u.calls } ∷ ss else s ∷ put v u ss

-- the numbers drawn, where this vehicle's world has this last one
abbrev pub drawn_by : ℕ → (last : ℕ) → List ℕ → List ℕ
drawn_by v last drawn = if nat_lt (length drawn) last then drawn ++ v ∷ [] else drawn

-- a vehicle's own world did this: its entries are told as the vehicle's
abbrev pub taken : ℕ → Step → Floor → FloorStep
taken v s w =
    record {
      entries = map (entry_of v) s.entries;
      floor = record w { stands = put v s.world w.stands; drawn = drawn_by v s.world.drawn w.drawn };
      handed = s.handed;
    }

abbrev pub turn_in : ℕ → (World → Step) → Floor → Option Stand → FloorStep
turn_in v act w None = quiet_floor w
turn_in v act w (Some s) = taken v (act (own w s)) w

-- the vehicle of this number does this in its own world
abbrev pub turn : ℕ → (World → Step) → Floor → FloorStep
turn v act w = turn_in v act w (stand_of v w.stands)

pub record Turn : Type 0 where
  pub vehicle : ℕ
  pub act : World → Step

-- these turns, one behind the other
abbrev pub plays : List Turn → Floor → FloorStep
plays [] w = quiet_floor w
plays (t ∷ ts) w = and_then (turn t.vehicle t.act w) (plays ts)

-- The unit tick.

-- A call of the floor, and the vehicle for which it was drawn.
pub record Placed : Type 0 where
  pub vehicle : ℕ
  pub call : Call

abbrev pub placed : ℕ → Option Call → List Placed
placed v None = []
placed v (Some k) = record { vehicle = v; call = k } ∷ []

-- those of the calls drawn for these vehicles, from this number on, that have a leg up
abbrev pub calls_from : List Stand → ℕ → List ℕ → List Placed
calls_from stands c [] = []
calls_from stands c (v ∷ vs) =
    placed v (call_of c (calls_at (stand_of v stands))) ++ calls_from stands (suc c) vs

-- the calls with a leg up, by number
abbrev pub calls_of : Floor → List Placed
calls_of w = calls_from w.stands 1 w.drawn

abbrev pub vehicle_turns : List Stand → List Turn
vehicle_turns [] = []
vehicle_turns (s ∷ ss) = record { vehicle = s.number; act = vehicle_passes } ∷ vehicle_turns ss

abbrev pub session_turns : List Placed → List Turn
session_turns [] = []
session_turns (k ∷ ks) = record { vehicle = k.vehicle; act = session_passes k.call.number } ∷ session_turns ks

abbrev pub hand_turns : ℕ → (Due → World → Step) → List Due → List Turn
hand_turns v hands [] = []
hand_turns v hands (d ∷ ds) = record { vehicle = v; act = hands d } ∷ hand_turns v hands ds

-- the frames of each call that were sent so many ticks ago, by call and order of sending; none with a delay of 0
abbrev pub due_turns : (Due → World → Step) → (Call → List Sent) → (delay now : ℕ) → List Placed → List Turn
due_turns hands sent delay now [] = []
due_turns hands sent delay now (k ∷ ks) =
    hand_turns k.vehicle hands (due_in sent delay now (k.call ∷ [])) ++ due_turns hands sent delay now ks

abbrev pub vehicles_pass : Floor → FloorStep
vehicles_pass w = plays (vehicle_turns w.stands) w

abbrev pub sessions_pass : Floor → FloorStep
sessions_pass w = plays (session_turns (calls_of w)) w

abbrev pub flows_up : Floor → FloorStep
flows_up w = plays (due_turns hands_up (λ k. k.up) w.up_flow w.tick (calls_of w)) w

abbrev pub flows_down : Floor → FloorStep
flows_down w = plays (due_turns hands_down (λ k. k.down) w.down_flow w.tick (calls_of w)) w

-- The tick is one more; each vehicle's unit tick, by number; each session's, by call; then what is due up, and what is
-- due down, by call.
abbrev pub unit : Floor → FloorStep
unit w =
    and_then (and_then (and_then (vehicles_pass (record w { tick = w.tick + 1 })) sessions_pass) flows_up) flows_down

-- n unit ticks
abbrev pub units : ℕ → Floor → FloorStep
units zero w = quiet_floor w
units (suc n) w = and_then (unit w) (units n)
