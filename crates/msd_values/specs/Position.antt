-- What contracts see of a way from one position to another: two signed numbers. The range is that of
-- EN 15722's recent vehicle locations as this project's profile has it. Cited by the contracts of `Delta`.
use Rattle.std.specs.Prelude.{ℤ, pos, neg_ℤ, ◌≤ℤ◌}

-- how far north and how far east, in units of 100 milliarcseconds
pub record Way : Type 0 where
  pub latitude : ℤ
  pub longitude : ℤ

-- one of the numbers of a delta
abbrev pub IsDelta : ℤ → Type 0
IsDelta z = (neg_ℤ (pos 512) ≤ℤ z) × (z ≤ℤ pos 511)
