-- When a count of faults rose, and how a 64-bit count goes on: this project's profile.
-- The causes of `Failed` in the contracts of `Source`, `Sink` and all that is written over them cite this file.
use Rattle.std.specs.Prelude.{◌≡◌, ℕ, ◌+◌, ◌<◌, min, ◌⊎◌}

-- the count is greater, or stands at its last value
abbrev pub Rose : ℕ → ℕ → Type 0
Rose old new = (old < new) ⊎ (new ≡ 18446744073709551615)

-- one more, up to the last value
abbrev pub count_up : ℕ → ℕ
count_up n = min (n + 1) 18446744073709551615
