-- What every floor of the definitions keeps: the vehicles stand by number, and each one's calls, as far as the floor
-- still knows of them, were drawn for it. It holds at first, and each step keeps it. This project's profile. Cited by
-- the laws of this crate, and by the relation of a `Floor` to the floor.
use Rattle.std.specs.Prelude.{◌≡◌, ◌≤◌, ℕ, List, IfSome, length, map}
use Rattle.trace_model.specs.declared.entry.Entry.{Entry}
use Rattle.channel_sim.specs.Fit.{Fit}
use Rattle.channel_sim.specs.Tidy.{AreAbove}
use Rattle.channel_sim.specs.World.{World}
use Rattle.call_floor.specs.Floor.{Floor, own_of}
use Rattle.call_floor.specs.Numbers.{world_with}
use Rattle.call_floor.specs.Parts.{how_many, number, alone}

-- A vehicle's own world is the one with its calls by their places, under the numbers of these; and that one fits a
-- trace, as every world does.
pub record IsPlaced (v : ℕ) (drawn : List ℕ) (u : World) : Type 0 where
  pub numbers : u ≡ world_with (number v drawn) (length drawn) (alone v drawn u)
  pub last : (alone v drawn u).vehicle.call ≤ how_many v drawn
  pub trace : List Entry
  pub fits : Fit (alone v drawn u) trace

pub record IsKept (w : Floor) : Type 0 where
  pub order : AreAbove 0 (map (λ s. s.number) w.stands)
  pub placed : (v : ℕ) → IfSome (own_of v w) (IsPlaced v w.drawn)
