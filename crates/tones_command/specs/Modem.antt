-- A noisy line behind the modem: how far the noise moves each sample of a frame, and which frames are lost to it. This
-- project's own modem. Cited by the reply of `tones` and by the laws of this crate.
use Rattle.std.specs.Prelude.{ℕ, zero, suc, ◌+◌, ◌*◌, ◌/◌, ◌%◌, ◌^◌, ℤ, pos, negsuc, ◌+ℤ◌, ◌-ℤ◌, int_lt, Bool, false, ◌&&◌, ◌||◌, List, [], ◌∷◌, length}
use Rattle.link_frames.specs.declared.frame.Frame.{Frame}
use Rattle.link_frames.specs.FrameOctets.{frame_octets}
use Rattle.per_bits.specs.Bits.{octet_bits}
use Rattle.tone_link.specs.Tones.{frame_samples, sum_of_bit}

-- the most by which noise may move a sample
abbrev pub most_noise : ℕ
most_noise = 1499

-- Noise that moves each sample by so much at most, by draws that begin with a number.
pub record NoiseFrom : Type 0 where
  pub most : ℕ
  pub number : ℕ

-- a draw replaces x by this
unfoldable pub drawn : ℕ → ℕ
drawn x = (x * 1664525 + 1013904223) % 2 ^ 32

-- and gives this of the new x: the upper half of its 32 bits
unfoldable pub gives : ℕ → ℕ
gives x = x / 65536

-- by how much a draw moves its sample, where it left x so
abbrev pub moved_by : (most x : ℕ) → ℤ
moved_by most x = pos (gives x % (2 * most + 1)) -ℤ pos most

-- The samples as they are received: one draw moves each, in order. x stood so before.
abbrev pub received : (most x : ℕ) → (sent : List ℤ) → List ℤ
received most x [] = []
received most x (sample ∷ sent) = (sample +ℤ moved_by most (drawn x)) ∷ received most (drawn x) sent

-- x behind one draw for each of these samples
abbrev pub behind_samples : (x : ℕ) → (sent : List ℤ) → ℕ
behind_samples x [] = x
behind_samples x (sample ∷ sent) = behind_samples (drawn x) sent

-- x behind the draws of a frame
unfoldable pub behind_frame : (x : ℕ) → Frame → ℕ
behind_frame x frame = behind_samples x (frame_samples frame)

-- whether a sum lies between -4000 and 4000, and so says neither 1 nor 0
abbrev pub is_unsure : (sum : ℤ) → Bool
is_unsure sum = int_lt (negsuc 3999) sum && int_lt sum (pos 4000)

-- whether one of so many bits, from bit i on, is unsure
abbrev pub has_unsure : (samples : List ℤ) → (i bits : ℕ) → Bool
has_unsure samples i zero = false
has_unsure samples i (suc bits) = is_unsure (sum_of_bit samples i) || has_unsure samples (i + 1) bits

-- whether a frame is lost: one of its bits is unsure, as it is received. x stood so before its draws.
unfoldable pub is_lost : (most x : ℕ) → Frame → Bool
is_lost most x frame =
    has_unsure (received most x (frame_samples frame)) 0 (length (octet_bits (frame_octets frame)))
