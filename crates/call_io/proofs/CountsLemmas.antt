-- How a count that rose in a part of a call rose in the whole call.
use Rattle.std.proofs.Common.{ℕ, ◌<◌, ◌≤◌, inl, inr, arith}
use Rattle.call_io.specs.Counts.{Rose}

-- it stood or rose before
pub Rose-after : (old mid new : ℕ) → old ≤ mid → Rose mid new → Rose old new
Rose-after old mid new before rose = elim rose [ inl above ↦ inl (omega arith) | inr last ↦ inr last ]

-- it stood or rose afterwards
pub Rose-before : (old mid new : ℕ) → Rose old mid → mid ≤ new → new ≤ 18446744073709551615 → Rose old new
Rose-before old mid new rose after last = elim rose [ inl above ↦ inl (omega arith) | inr at ↦ inr (omega arith) ]

-- a count that stands below its last value didn't rise
pub Rose-never : (count : ℕ) → count < 18446744073709551615 → Rose count count → ⊥
Rose-never count below rose = elim rose [ inl above ↦ omega arith | inr last ↦ omega arith ]
