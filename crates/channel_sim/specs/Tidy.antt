-- What every world of the definitions keeps: the calls stand by number, each has a leg up, and the frames of each stand
-- in the order of their ticks. Cited by the relation of a `World` to the world, by when a trace fits a world, and by
-- the private functions of `World`.
use Rattle.std.specs.Prelude.{◌≡◌, ℕ, ◌≤◌, ◌<◌, true, List, [], ◌∷◌, ◌||◌, map, Option}
use Rattle.std.specs.Option.{is_some}
use Rattle.std.specs.List.{AllByRecursion}
use Rattle.trace_model.specs.History.{Sent}
use Rattle.ivs_machine.specs.Vehicle.{vehicle_call}
use Rattle.channel_sim.specs.World.{Call, World}
use Rattle.trace_fit.specs.Seats.{is_number}

-- each is above the one before it
abbrev pub AreAbove : ℕ → List ℕ → Type 0
AreAbove n [] = Unit {0}
AreAbove n (x ∷ xs) = (n < x) × AreAbove x xs

-- none of these is lower than the one before it
abbrev pub AreFrom : ℕ → List ℕ → Type 0
AreFrom n [] = Unit {0}
AreFrom n (x ∷ xs) = (n ≤ x) × AreFrom x xs

-- the ticks at which frames were sent
abbrev pub ticks_of : List Sent → List ℕ
ticks_of sends = map (λ s. s.tick) sends

abbrev pub numbers_of : List Call → List ℕ
numbers_of calls = map (λ k. k.number) calls

-- a call is there only while one of its legs is up
abbrev pub HasLeg : (in_call : Option ℕ) → Call → Type 0
HasLeg in_call k = (is_number k.number in_call || is_some k.session) ≡ true

-- these frames were sent in this order, and none after now
pub record InTime (now : ℕ) (sends : List Sent) : Type 0 where
  pub rise : AreFrom 0 (ticks_of sends)
  pub past : AllByRecursion (λ t. t ≤ now) (ticks_of sends)

pub record CallInTime (now : ℕ) (k : Call) : Type 0 where
  pub up : InTime now k.up
  pub down : InTime now k.down

pub record AreTidy (tick drawn : ℕ) (in_call : Option ℕ) (calls : List Call) : Type 0 where
  pub numbers : AreAbove 0 (numbers_of calls)
  pub below : AllByRecursion (λ n. n ≤ drawn) (numbers_of calls)
  pub legs : AllByRecursion (HasLeg in_call) calls
  pub frames : AllByRecursion (CallInTime tick) calls

abbrev pub IsTidy : World → Type 0
IsTidy w = AreTidy w.tick w.drawn (vehicle_call w.vehicle) w.calls
