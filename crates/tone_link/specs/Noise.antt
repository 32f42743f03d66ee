-- How far samples that were received are from those that were sent. This project's own modem. Cited by the contract of
-- `tone_read`.
use Rattle.std.specs.Prelude.{ℕ, ◌+◌, ◌*◌, ◌<◌, ℤ, ◌-ℤ◌, List, ◌∷◌, length, unsigned_abs}
use Rattle.tone_link.specs.Tones.{samples_at}

-- the sum of the absolute differences
abbrev pub distance : (sent received : List ℤ) → ℕ
distance (a ∷ sent) (b ∷ received) = unsigned_abs (b -ℤ a) + distance sent received
distance _ _ = 0

-- the noise of bit i
abbrev pub noise_of_bit : (sent received : List ℤ) → (i : ℕ) → ℕ
noise_of_bit sent received i = distance (samples_at sent i) (samples_at received i)

-- the noise of each bit of a block is such
abbrev pub EachNoise : (noise : ℕ → Type 0) → (sent received : List ℤ) → Type 0
EachNoise noise sent received = (i : ℕ) → 8 * i < length sent → noise (noise_of_bit sent received i)
