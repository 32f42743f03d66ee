-- A `Floor` of which each vehicle that is kept stands in some relation to its own world: between lines, between the
-- ticks of a line at which something happens, or in the midst of such a tick. Cited by the private functions of
-- `Floor` alone.
use Rattle.std.specs.Prelude.{◌≡◌, ◌≤◌, ◌<◌, ◌+◌, ℕ, Bool, true, false, List, [], ◌∷◌, Option, Some, None, Result, MatchResult, length, map, get_or, if◌then◌else◌}
use Rattle.trace_model.specs.declared.event.Event.{Event}
use Rattle.trace_model.specs.declared.event.Event.TheVariants as event
use Rattle.channel_sim.specs.declared.calls.due.Due as kept_due
use Rattle.channel_sim.specs.Handing.{due_in_call, due_of, hands_way, sent_way}
use Rattle.channel_sim.specs.Lag.{level, StandsAt}
use Rattle.channel_sim.specs.Quiet.{QuietFor}
use Rattle.channel_sim.specs.Tidy.{AreAbove}
use Rattle.channel_sim.specs.World.{World, session_passes}
use Rattle.channel_sim.specs.World as world
use Rattle.channel_sim.specs.WorldStands.{WorldStandsFor, ticks_reached}
use Rattle.call_floor.specs.declared.entry.FloorEntry.{FloorEntry}
use Rattle.call_floor.specs.declared.floor.Floor as kept_floor
use Rattle.call_floor.specs.declared.seat.Seat as kept_seat
use Rattle.call_floor.specs.FloorStands.{AreLive}
use Rattle.call_floor.specs.Floor.{Floor, FloorStep, Stand, Turn, own, own_of, turn, quiet_floor, and_then, calls_of, due_turns, hand_turns, vehicle_turns, session_turns}

-- how a vehicle, as it is kept, stands to its own world
abbrev pub Relation : Type 1
Relation = (vehicle : ℕ) → kept_seat.Seat → World → Type 0

-- one vehicle that is kept
pub record SeatIs (R : Relation) (w : Floor) (kept : kept_seat.Seat) (s : Stand) : Type 0 where
  pub number : s.number ≡ kept.number
  pub world : R s.number kept (own w s)

-- these vehicles, one for one
abbrev pub SeatsAre : Relation → Floor → List kept_seat.Seat → List Stand → Type 0
SeatsAre R w [] [] = Unit {0}
SeatsAre R w [] (s ∷ ss) = ⊥
SeatsAre R w (x ∷ xs) [] = ⊥
SeatsAre R w (x ∷ xs) (s ∷ ss) = SeatIs R w x s × SeatsAre R w xs ss

abbrev pub numbers_of : List Stand → List ℕ
numbers_of ss = map (λ (s : Stand). s.number) ss

pub record FloorIs (R : Relation) (kept : List kept_seat.Seat) (w : Floor) : Type 0 where
  pub order : AreAbove 0 (numbers_of w.stands)
  pub seats : SeatsAre R w kept w.stands

-- the vehicle at this place is this one; there is none of the number 0
abbrev pub IsSeat : Floor → ℕ → ℕ → Type 0
IsSeat w place v = get_or (numbers_of w.stands) place 0 ≡ v

-- Between lines each stands for its own world.
abbrev pub Now : Relation
Now v x u = WorldStandsFor x.world u

-- Between the ticks of a line at which something happens, the vehicle that is kept stands for its own world of some
-- ticks ago, and is quiet since then, and up to its next tick.
pub record Rests (floor : ℕ) (x : kept_seat.Seat) (u : World) : Type 0 where
  pub was : World
  pub ticks : ℕ
  pub stands : StandsAt (ticks_reached x.world) (level floor floor) (λ c. ticks_reached x.world) x.world.channel was
  pub behind : u ≡ (world.units ticks was).world
  pub still : QuietFor ticks was
  pub quiet : (n : ℕ) → ticks_reached x.world + n < x.next → QuietFor n was

abbrev pub Resting : ℕ → Relation
Resting floor v x u = Rests floor x u

-- it rests, but for the tick that has just begun
pub record Sleeps (floor : ℕ) (x : kept_seat.Seat) (u : World) : Type 0 where
  pub before : World
  pub rests : Rests floor x before
  pub ticked : u ≡ record before { tick = before.tick + 1 }

-- In the midst of a tick those vehicles act whose next tick it is: each was passed up to here, with its sessions up to
-- these. The others sleep.
pub record IsAmid (acts : ℕ → Bool) (tick floor : ℕ) (ahead : ℕ → ℕ) (clock : ℕ → ℕ → ℕ) (v : ℕ) (x : kept_seat.Seat)
    (u : World) : Type 0 where
  pub due : acts v ≡ true → x.next ≤ tick
  pub later : acts v ≡ false → tick < x.next
  pub awake : acts v ≡ true → StandsAt (ahead v) (level floor floor) (clock v) x.world.channel u
  pub asleep : acts v ≡ false → Sleeps floor x u

abbrev pub Amid : (acts : ℕ → Bool) (tick floor : ℕ) (ahead : ℕ → ℕ) (clock : ℕ → ℕ → ℕ) → Relation
Amid acts tick floor ahead clock v x u = IsAmid acts tick floor ahead clock v x u

-- how often ends are passed in a step: once for each entry, and for each frame handed over
abbrev pub passes_of : FloorStep → ℕ
passes_of s = length s.entries + s.handed

-- What a part of a step came to.
abbrev pub Came :
    {Done Fault : Type 0}
    → (Grew Partly : List FloorEntry → Type 0)
    → Result Done Fault
    → Relation
    → List kept_seat.Seat
    → FloorStep
    → Type 0
Came Grew Partly result R seats s =
    MatchResult result (λ _. Grew s.entries × FloorIs R seats s.floor) (λ _. Partly s.entries)

-- between lines, with the numbers drawn and the calls that are live
pub record FloorNow (kept : kept_floor.Floor) (w : Floor) : Type 0 where
  pub tick : w.tick ≡ kept.tick
  pub are : FloorIs Now kept.seats.list.items w
  pub drawn : w.drawn ≡ kept.drawn.items
  pub last : length w.drawn ≡ kept.last
  pub live : AreLive w.stands 1 w.drawn kept.live.items

abbrev pub CameNow :
    {Done Fault : Type 0}
    → (Grew Partly : List FloorEntry → Type 0)
    → Result Done Fault
    → kept_floor.Floor
    → FloorStep
    → Type 0
CameNow Grew Partly result kept s =
    MatchResult result (λ _. Grew s.entries × FloorNow kept s.floor) (λ _. Partly s.entries)

-- the vehicle as it is kept, with this last call number
abbrev pub seat_drawn : ℕ → kept_seat.Seat → kept_seat.Seat
seat_drawn last x = record x { world = record (x.world) { channel = record (x.world.channel) { drawn = last } } }

-- a line that sets a flow, and what it does
abbrev pub IsFlow : Event → Type 0
IsFlow (event.Flow up delay) = Unit {0}
IsFlow _ = ⊥

abbrev pub flow_step : Event → Floor → FloorStep
flow_step (event.Flow true delay) w = quiet_floor (record w { up_flow = delay })
flow_step (event.Flow false delay) w = quiet_floor (record w { down_flow = delay })
flow_step _ w = quiet_floor w

-- the clocks of the calls of other vehicles stay
abbrev pub AreSameBelow : ℕ → (before after : ℕ → ℕ → ℕ) → Type 0
AreSameBelow v before after = (a : ℕ) → (a ≡ v → ⊥) → before a ≡ after a

-- Turns of those that act.

abbrev pub turn_if : (acts : ℕ → Bool) → ℕ → (World → world.Step) → Floor → FloorStep
turn_if acts v act w = if acts v then turn v act w else quiet_floor w

abbrev pub plays_if : (acts : ℕ → Bool) → List Turn → Floor → FloorStep
plays_if acts [] w = quiet_floor w
plays_if acts (t ∷ ts) w = and_then (turn_if acts t.vehicle t.act w) (plays_if acts ts)

abbrev pub vehicles_if : (acts : ℕ → Bool) → Floor → FloorStep
vehicles_if acts w = plays_if acts (vehicle_turns w.stands) w

abbrev pub sessions_if : (acts : ℕ → Bool) → Floor → FloorStep
sessions_if acts w = plays_if acts (session_turns (calls_of w)) w

abbrev pub flow_of : (up : Bool) → Floor → ℕ
flow_of true w = w.up_flow
flow_of false w = w.down_flow

-- the turns in which frames are handed over now, up or down
abbrev pub flow_turns : (up : Bool) → Floor → List Turn
flow_turns up w = due_turns (hands_way up) (sent_way up) (flow_of up w) w.tick (calls_of w)

abbrev pub flows_if : (acts : ℕ → Bool) → (up : Bool) → Floor → FloorStep
flows_if acts up w = plays_if acts (flow_turns up w) w

abbrev pub ends_if : (acts : ℕ → Bool) → Floor → FloorStep
ends_if acts w = and_then (vehicles_if acts w) (sessions_if acts)

-- one unit tick of those that act; the tick is one more already
abbrev pub unit_if : (acts : ℕ → Bool) → Floor → FloorStep
unit_if acts w = and_then (and_then (ends_if acts w) (flows_if acts true)) (flows_if acts false)

-- The frames that are listed as due, with the places of the vehicles to whose calls they belong.
abbrev pub listed_turns : (numbers : List ℕ) → (up : Bool) → (owners : List ℕ) → List kept_due.Due → List Turn
listed_turns ns up [] ds = []
listed_turns ns up (p ∷ ps) [] = []
listed_turns ns up (p ∷ ps) (d ∷ ds) =
    record { vehicle = get_or ns p 0; act = hands_way up (due_of d) } ∷ listed_turns ns up ps ds

-- those of one call, if its vehicle is there and acts
abbrev pub call_turns_in : (up : Bool) → (v c : ℕ) → Option World → List Turn
call_turns_in up v c None = []
call_turns_in up v c (Some u) = hand_turns v (hands_way up) (due_in_call up c u)

abbrev pub call_turns : (acts : ℕ → Bool) → (up : Bool) → (v c : ℕ) → Floor → List Turn
call_turns acts up v c w = if acts v then call_turns_in up v c (own_of v w) else []
