-- Where among ticks that rise those from a tick on begin. This project's profile. Cited by private functions.
use Rattle.std.specs.Prelude.{ℕ, ◌<◌, ◌≤◌, List, take, drop}
use Rattle.std.specs.List.{AllByRecursion}

-- in front of a place stand those below a tick, and from it on those that are not
pub record IsFirstFrom (tick place : ℕ) (ticks : List ℕ) : Type 0 where
  pub before : AllByRecursion (λ t. t < tick) (take place ticks)
  pub behind : AllByRecursion (λ t. tick ≤ t) (drop place ticks)
