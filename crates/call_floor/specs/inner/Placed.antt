-- Calls that were drawn for a vehicle, among those of its own world. Cited by the private functions of `Floor` alone.
use Rattle.std.specs.Prelude.{◌≡◌, ◌⊎◌, ℕ, suc, List, [], ◌∷◌, Some}
use Rattle.std.specs.List.{AllByRecursion}
use Rattle.call_floor.specs.inner.Order.{AreInOrder}
use Rattle.channel_sim.specs.World.{Call, World}
use Rattle.call_floor.specs.declared.live.Live as kept_live
use Rattle.call_floor.specs.Floor.{Floor, own_of}
use Rattle.call_floor.specs.FloorStands.{AreLive}

-- A number is among those drawn for the vehicle, where these are drawn behind the first c.
abbrev pub IsDrawn : ℕ → List ℕ → (c n : ℕ) → Type 0
IsDrawn v [] c n = ⊥
IsDrawn v (d ∷ ds) c n = ((n ≡ suc c) × (d ≡ v)) ⊎ IsDrawn v ds (suc c) n

-- one vehicle's calls are in order, and were drawn for it
pub record InPlace (v : ℕ) (drawn : List ℕ) (u : World) : Type 0 where
  pub order : AreInOrder 0 u.calls
  pub numbers : AllByRecursion (λ (k : Call). IsDrawn v drawn 0 k.number) u.calls

-- Each vehicle's calls were drawn for it, and those with a leg up are among these.
pub record IsReady (w : Floor) (kept : List kept_live.Live) : Type 0 where
  pub live : AreLive w.stands 1 w.drawn kept
  pub placed : (v : ℕ) (u : World) → own_of v w ≡ Some u → InPlace v w.drawn u
