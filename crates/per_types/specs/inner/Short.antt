-- When a reader stops for too few bits. Cited by private readers alone.
use Rattle.std.specs.Prelude.{◌≡◌, ℕ, ◌<◌, length}
use Rattle.per_bits.specs.Bits.{Part}
use Rattle.per_bits.specs.declared.refusals.Refusal.{Refusal}
use Rattle.per_bits.specs.declared.refusals.Reason.TheVariants.{Short}

-- fewer bits than wanted are left
abbrev pub IsShort : Part → ℕ → Refusal → Type 0
IsShort p wanted e = (length p.bits < wanted) × (e ≡ record { place = p.start; reason = Short; value = wanted })
