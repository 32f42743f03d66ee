-- The numbers of vehicles on a floor. This project's profile. Cited by the contracts of `VehicleNumber`.
use Rattle.std.specs.Prelude.{◌<◌, ◌≤◌, ℕ}

-- vehicles have the numbers 1 to 64
abbrev pub IsVehicleNumber : ℕ → Type 0
IsVehicleNumber n = (0 < n) × (n ≤ 64)
