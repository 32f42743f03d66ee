-- How many ticks may pass at once: at least one, and where an end does something after some number of them, at most
-- so many. This project's profile. Cited by the exports of both ends.
use Rattle.std.specs.Prelude.{◌≤◌, ℕ, Option, IfSome}

abbrev pub IsPassable : ℕ → Option ℕ → Type 0
IsPassable n due = (1 ≤ n) × IfSome due (λ most. n ≤ most)
