-- The standby of the in-vehicle system after a call, in which it may be called back, seen as the ticks that it has
-- lasted. After EN 16072 (callback); the ticks are this project's profile. Cited by the contracts of `Rest`.
use Rattle.std.specs.Prelude.{ℕ, ◌+◌, min}

-- T9: from then on the vehicle may leave it
abbrev pub least_standby : ℕ
least_standby = 36000

-- T10: then the vehicle leaves it
abbrev pub longest_standby : ℕ
longest_standby = 432000

-- the standby n ticks later: it stays at the longest one
abbrev pub rested : (elapsed n : ℕ) → ℕ
rested elapsed n = min (elapsed + n) longest_standby
