-- Calls in order. Cited by the private functions of `Floor` alone.
use Rattle.std.specs.Prelude.{ℕ, List, map}
use Rattle.channel_sim.specs.Tidy.{AreAbove}
use Rattle.channel_sim.specs.World.{Call}

-- calls by number, each above the one before it, and the first above this
abbrev pub AreInOrder : ℕ → List Call → Type 0
AreInOrder n calls = AreAbove n (map (λ (k : Call). k.number) calls)
