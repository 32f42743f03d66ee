-- What is kept of an input while it is read. Cited by the contracts of `Watch`.
use Rattle.std.specs.Prelude.{◌≡◌, ◌+◌, ◌≤◌, ◌⊎◌, ◌++◌, ℕ, List, [], count_by, length, min}
use Rattle.line_input.specs.Characters.{is_newline}

-- how many lines ended, up to the last number of a count, where so many ended before these bytes
abbrev pub lines_behind : ℕ → List ℕ → ℕ
lines_behind ended bytes = min (ended + count_by is_newline bytes) 18446744073709551615

-- Behind what was kept comes a piece; the front of both is gone, unless all is kept, and its lines are counted.
pub record Keeps (old : List ℕ) (before : ℕ) (new : List ℕ) (after : ℕ) (piece : List ℕ) : Type 0 where
  pub gone : List ℕ
  pub bytes : old ++ piece ≡ gone ++ new
  pub lines : after ≡ lines_behind before gone
  pub enough : (gone ≡ []) ⊎ (16384 ≤ length new)
