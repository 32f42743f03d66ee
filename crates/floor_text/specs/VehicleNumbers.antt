-- The number of a vehicle on a floor. This project's profile. Cited by the definition of a floor's lines, and by the
-- contracts of what reads and keeps them.
use Rattle.std.specs.Prelude.{ℕ, ◌+◌, ◌<◌, ◌≤◌, List, Option}
use Rattle.line_input.specs.Numbers.{positive_below}

-- the most vehicles on a floor
abbrev pub most_vehicles : ℕ
most_vehicles = 64

-- the number of a vehicle that a word spells, from 1 on
abbrev pub vehicle_number : List ℕ → Option ℕ
vehicle_number text = positive_below (most_vehicles + 1) text

-- a number in that range
abbrev pub IsVehicle : ℕ → Type 0
IsVehicle v = (0 < v) × (v ≤ most_vehicles)
