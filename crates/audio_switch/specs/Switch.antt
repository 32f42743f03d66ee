-- The voice at one end of a call: open or muted in both directions at once, and for how many ticks. After EN 16062,
-- which mutes the voice while data is sent; the sums are this project's profile. Cited by the contracts of `Switch`.
use Rattle.std.specs.Prelude.{ℕ, Bool, true, false, Option, Some, None, ◌+◌, ◌-◌, ◌^◌, min}
use Rattle.audio_switch.specs.declared.switch.Stretch.{Stretch}
use Rattle.audio_switch.specs.declared.switch.Stretch.TheVariants.{Muted, Open}

-- A switch: how long the voice may be muted, and the unbroken stretch of muted or open ticks that it is in.
pub record Switching : Type 0 where
  pub limit : ℕ
  pub stretch : Stretch

abbrev pub is_open : Stretch → Bool
is_open (Muted ticks) = false
is_open (Open ticks) = true

-- the ticks muted, 0 where it is open
abbrev pub muted_ticks : Stretch → ℕ
muted_ticks (Muted ticks) = ticks
muted_ticks (Open ticks) = 0

-- the ticks open, 0 where it is muted
abbrev pub open_ticks : Stretch → ℕ
open_ticks (Muted ticks) = 0
open_ticks (Open ticks) = ticks

-- how many ticks it may still be muted; None where it is open
abbrev pub room_in : (limit : ℕ) → Stretch → Option ℕ
room_in limit (Muted ticks) = Some (limit - ticks)
room_in limit (Open ticks) = None

-- the stretch n ticks later; the ticks open stay at the greatest u32
abbrev pub aged : ℕ → Stretch → Stretch
aged n (Muted ticks) = Muted (ticks + n)
aged n (Open ticks) = Open (min (ticks + n) (2 ^ 32 - 1))

-- the same where a muted voice has a limit, which it doesn't pass
abbrev pub aged_within : ℕ → (limit : ℕ) → Stretch → Stretch
aged_within n limit (Muted ticks) = Muted (ticks + min n (limit - ticks))
aged_within n limit (Open ticks) = aged n (Open ticks)

-- the stretch once the voice was opened: one that is open already goes on
abbrev pub unmuted : Stretch → Stretch
unmuted (Muted ticks) = Open 0
unmuted (Open ticks) = Open ticks
