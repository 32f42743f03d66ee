-- Which line of what was kept is meant. Cited by the contract of `Seen::before`.
use Rattle.std.specs.Prelude.{◌≡◌, ◌-◌, ◌<◌, ℕ, List, Some, slice_get}
use Rattle.line_input.specs.Characters.{newline}
use Rattle.line_help.specs.Parts.{parts}

-- the line of this number, from 1, stands in what was kept, where so many lines ended in front of it
pub record IsKept (ended : ℕ) (kept : List ℕ) (number : ℕ) (line : List ℕ) : Type 0 where
  pub behind : ended < number
  pub there : slice_get (parts newline kept) (number - ended - 1) ≡ Some line
