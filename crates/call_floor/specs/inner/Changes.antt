-- What becomes of each vehicle that is kept, one for one. Cited by the private functions of `Floor` alone.
use Rattle.std.specs.Prelude.{◌≡◌, ◌≤◌, ◌<◌, ◌+◌, ℕ, List, [], ◌∷◌}
use Rattle.channel_sim.specs.declared.world.World as kept_world
use Rattle.channel_sim.specs.Lag.{level, StandsAt}
use Rattle.channel_sim.specs.Quiet.{QuietFor}
use Rattle.channel_sim.specs.World.{World}
use Rattle.channel_sim.specs.WorldStands.{ticks_reached}
use Rattle.call_floor.specs.declared.seat.Seat as kept_seat

-- these were those, one for one
abbrev pub ArePaired : (kept_seat.Seat → kept_seat.Seat → Type 0) → (old new : List kept_seat.Seat) → Type 0
ArePaired P [] [] = Unit {0}
ArePaired P [] (y ∷ ys) = ⊥
ArePaired P (x ∷ xs) [] = ⊥
ArePaired P (x ∷ xs) (y ∷ ys) = P x y × ArePaired P xs ys

-- the world as it is kept, at this tick
abbrev pub reached : ℕ → kept_world.World → kept_world.World
reached tick x = record x { channel = record (x.channel) { tick = tick } }

-- one that acts at this tick reached it
pub record IsWoken (tick : ℕ) (x y : kept_seat.Seat) : Type 0 where
  pub number : y.number ≡ x.number
  pub next : y.next ≡ x.next
  pub acts : x.next ≤ tick → y.world ≡ reached tick x.world
  pub sleeps : tick < x.next → y.world ≡ x.world

-- up to the next tick of this one its world is quiet
abbrev pub IsQuiet : kept_seat.Seat → Type 0
IsQuiet x = (floor n : ℕ) (u : World) →
    StandsAt (ticks_reached x.world) (level floor floor) (λ c. ticks_reached x.world) x.world.channel u →
    ticks_reached x.world + n < x.next → QuietFor n u

-- it knows its next tick
pub record IsAsked (x y : kept_seat.Seat) : Type 0 where
  pub number : y.number ≡ x.number
  pub world : y.world ≡ x.world
  pub quiet : IsQuiet y

-- one that acted at this tick knows its next one
pub record IsPlanned (tick : ℕ) (x y : kept_seat.Seat) : Type 0 where
  pub number : y.number ≡ x.number
  pub world : y.world ≡ x.world
  pub sleeps : tick < x.next → y.next ≡ x.next
  pub acts : x.next ≤ tick → IsQuiet y
