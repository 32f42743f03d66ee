-- One vehicle's part of a floor: its lines, its entries, and its world, with each of its calls numbered by its place
-- among the calls that were drawn for it. This project's profile. Cited by the contracts of `Floor`, and by the laws of
-- this crate.
use Rattle.std.specs.Prelude.{◌≡◌, ℕ, zero, suc, Bool, List, [], ◌∷◌, ◌++◌, ◌==◌, Option, Some, None, map, option_map, if◌then◌else◌}
use Rattle.trace_model.specs.declared.entry.Entry.{Entry}
use Rattle.trace_model.specs.declared.event.Event.{Event}
use Rattle.trace_model.specs.declared.event.Event.TheVariants as event
use Rattle.channel_sim.specs.World.{World, Step, quiet_step}
use Rattle.channel_sim.specs.Lines.{step}
use Rattle.call_floor.specs.declared.entry.FloorEntry.{FloorEntry}
use Rattle.call_floor.specs.declared.event.FloorEvent.{FloorEvent}
use Rattle.call_floor.specs.declared.event.FloorEvent.TheVariants as floor
use Rattle.call_floor.specs.FloorEvents.{vehicle_event, call_event}
use Rattle.call_floor.specs.Floor.{Floor, own_of}
use Rattle.call_floor.specs.FloorLines.{drawn_for, floor_step}
use Rattle.call_floor.specs.Numbers.{entry_with, world_with}

-- how many of these numbers were drawn for this vehicle
abbrev pub how_many : ℕ → List ℕ → ℕ
how_many v [] = zero
how_many v (d ∷ ds) = if d == v then suc (how_many v ds) else how_many v ds

-- The place of a call among those that were drawn for this vehicle: how many of the first c numbers were. Numbers that
-- weren't drawn yet go on as they will for this vehicle alone.
abbrev pub place : ℕ → List ℕ → ℕ → ℕ
place v [] c = c
place v (d ∷ ds) zero = zero
place v (d ∷ ds) (suc c) = if d == v then suc (place v ds c) else place v ds c

-- The number of the call with this place among those drawn for this vehicle.
abbrev pub number : ℕ → List ℕ → ℕ → ℕ
number v [] k = k
number v (d ∷ ds) zero = zero
number v (d ∷ ds) (suc k) = suc (if d == v then number v ds k else number v ds (suc k))

-- one vehicle's own world, with each call numbered by its place
abbrev pub alone : ℕ → (drawn : List ℕ) → World → World
alone v drawn u = world_with (place v drawn) (how_many v drawn) u

-- the world of one vehicle alone, if it is there
abbrev pub only : ℕ → Floor → Option World
only v w = option_map (alone v w.drawn) (own_of v w)

abbrev pub own_entries : ℕ → List FloorEntry → List Entry
own_entries v [] = []
own_entries v (x ∷ xs) = if x.vehicle == v then x.entry ∷ own_entries v xs else own_entries v xs

-- the entries of one vehicle, behind which the floor is this
abbrev pub part : Floor → List FloorEntry → ℕ → List Entry
part w entries v = map (entry_with (place v w.drawn)) (own_entries v entries)

abbrev pub kept_if : Bool → Event → Option Event
kept_if b e = if b then Some e else None

-- a line that names a call, for the vehicle for which it was drawn
abbrev pub mine_in : ℕ → Option ℕ → Event → Option Event
mine_in v None e = None
mine_in v (Some u) e = kept_if (u == v) e

-- The line as one vehicle has it on this floor, if it is of that vehicle, of a call of that vehicle, or of all. A call
-- is named by its place.
abbrev pub mine_one : ℕ → Floor → FloorEvent → Option Event
mine_one v w (floor.Vehicle u line) = kept_if (u == v) (vehicle_event line)
mine_one v w (floor.Call c line) = mine_in v (drawn_for c w.drawn) (call_event (place v w.drawn c) line)
mine_one v w (floor.Flow up delay) = Some (event.Flow up delay)
mine_one v w (floor.Tick n) = Some (event.Tick n)

abbrev pub listed : Option Event → List Event
listed None = []
listed (Some e) = e ∷ []

-- the lines of one vehicle, from this floor on
abbrev pub mine : Floor → List FloorEvent → ℕ → List Event
mine w [] v = []
mine w (e ∷ es) v = listed (mine_one v w e) ++ mine (floor_step w e).floor es v

-- what a line does in one vehicle's world, if it is kept for that vehicle
abbrev pub step_if : Option Event → World → Step
step_if None u = quiet_step u
step_if (Some e) u = step u e

-- A step of the floor is this step in one vehicle's world: that world is behind it what the floor is for that vehicle,
-- and its entries are that vehicle's part.
pub record IsPart (v : ℕ) (w : Floor) (entries : List FloorEntry) (s : Step) : Type 0 where
  pub world : only v w ≡ Some s.world
  pub told : part w entries v ≡ s.entries
