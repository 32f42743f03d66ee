-- Which floors of the definitions a `Floor` stands for: where they agree in the tick, and in the vehicle for which
-- each call number was drawn; where each vehicle that is kept stands for its own world, by number; and where all calls
-- with a leg up are among those that are kept as live. This project's profile. Cited by the contracts of `Floor`, and
-- by what stands on it.
use Rattle.std.specs.Prelude.{◌≡◌, ◌⊎◌, ℕ, suc, List, [], ◌∷◌, Some, None, Result, MatchResult, length, map, slice_get}
use Rattle.channel_sim.specs.World.{call_of}
use Rattle.channel_sim.specs.WorldStands.{WorldStandsFor}
use Rattle.call_floor.specs.declared.entry.FloorEntry.{FloorEntry}
use Rattle.call_floor.specs.declared.event.FloorEvent.{FloorEvent}
use Rattle.call_floor.specs.declared.event.FloorEvent.TheVariants as floor
use Rattle.call_floor.specs.declared.event.VehicleLine.TheVariants as line
use Rattle.call_floor.specs.declared.floor.Floor as kept_floor
use Rattle.call_floor.specs.declared.live.Live as kept_live
use Rattle.call_floor.specs.declared.seat.Seat as kept_seat
use Rattle.call_floor.specs.Floor.{Floor, FloorStep, Stand, calls_at, own, stand_of}
use Rattle.call_floor.specs.FloorKept.{IsKept}

-- a vehicle that is kept is this one, and its world stands for its own one
pub record SeatStandsFor (w : Floor) (kept : kept_seat.Seat) (s : Stand) : Type 0 where
  pub number : s.number ≡ kept.number
  pub world : WorldStandsFor kept.world (own w s)

-- these vehicles, one for one
abbrev pub SeatsStandFor : Floor → List kept_seat.Seat → List Stand → Type 0
SeatsStandFor w [] [] = Unit {0}
SeatsStandFor w [] (s ∷ ss) = ⊥
SeatsStandFor w (x ∷ xs) [] = ⊥
SeatsStandFor w (x ∷ xs) (s ∷ ss) = SeatStandsFor w x s × SeatsStandFor w xs ss

-- no leg of this call of a vehicle is up
abbrev pub IsDown : List Stand → ℕ → ℕ → Type 0
IsDown stands v c = call_of c (calls_at (stand_of v stands)) ≡ None

-- a call that is kept as live is this one, of the vehicle that stands at its place
pub record IsOf (stands : List Stand) (v c : ℕ) (l : kept_live.Live) : Type 0 where
  pub call : l.call ≡ c
  pub place : slice_get (map (λ (s : Stand). s.number) stands) l.place ≡ Some v

-- Of the calls drawn from this number on, in order, these are kept as live: all but some that have no leg up.
abbrev pub AreLive : List Stand → ℕ → List ℕ → List kept_live.Live → Type 0
AreLive stands c [] [] = Unit {0}
AreLive stands c [] (l ∷ ls) = ⊥
AreLive stands c (v ∷ vs) [] = IsDown stands v c × AreLive stands (suc c) vs []
AreLive stands c (v ∷ vs) (l ∷ ls) =
    (IsDown stands v c × AreLive stands (suc c) vs (l ∷ ls)) ⊎ (IsOf stands v c l × AreLive stands (suc c) vs ls)

pub record FloorStandsFor (kept : kept_floor.Floor) (w : Floor) : Type 0 where
  pub tick : w.tick ≡ kept.tick
  pub drawn : w.drawn ≡ kept.drawn.items
  pub last : length w.drawn ≡ kept.last
  pub seats : SeatsStandFor w kept.seats.list.items w.stands
  pub live : AreLive w.stands 1 w.drawn kept.live.items
  -- what every floor of the definitions keeps
  pub floor : IsKept w

-- lines that may draw a call number
abbrev pub NeedsNumber : FloorEvent → Type 0
NeedsNumber (floor.Vehicle v line.Answer) = Unit {0}
NeedsNumber (floor.Vehicle v line.Callback) = Unit {0}
NeedsNumber _ = ⊥

-- the last call number drawn, as it is kept
abbrev pub numbers_drawn : kept_floor.Floor → ℕ
numbers_drawn kept = kept.last

-- the ticks that elapsed so far, as they are kept
abbrev pub ticks_elapsed : kept_floor.Floor → ℕ
ticks_elapsed kept = kept.tick

-- What a step came to. Done, the listener grew by exactly the step's entries and the floor stands for the one behind
-- the step; failed, the listener is partly of these entries.
abbrev pub CameTo :
    {Fault : Type 0} → (Grew Partly : List FloorEntry → Type 0) → Result kept_floor.Floor Fault → FloorStep → Type 0
CameTo Grew Partly result s =
    MatchResult result (λ kept. Grew s.entries × FloorStandsFor kept s.floor) (λ _. Partly s.entries)

-- The same of a floor in place.
abbrev pub CameInPlace :
    {Done Fault : Type 0}
    → (Grew Partly : List FloorEntry → Type 0)
    → Result Done Fault
    → kept_floor.Floor
    → FloorStep
    → Type 0
CameInPlace Grew Partly result kept s =
    MatchResult result (λ _. Grew s.entries × FloorStandsFor kept s.floor) (λ _. Partly s.entries)
