-- How a frame goes over a voice channel: each of its bits is eight samples, and its samples are one block. This
-- project's own modem, and nothing of 3GPP TS 26.267. Cited by the contracts of `tone_write` and `bit_sum`.
use Rattle.std.specs.Prelude.{ℕ, ◌*◌, ℤ, pos, neg_ℤ, ◌+ℤ◌, Bool, true, false, List, [], ◌∷◌, map, take, drop}
use Rattle.std.specs.List.{flat_map}
use Rattle.link_frames.specs.declared.frame.Frame.{Frame}
use Rattle.link_frames.specs.FrameOctets.{frame_octets}
use Rattle.per_bits.specs.Bits.{octet_bits}

-- the signs of a bit's eight samples: + + - + - - + -
abbrev pub pattern : List Bool
pattern = true ∷ true ∷ false ∷ true ∷ false ∷ false ∷ true ∷ false ∷ []

-- a sample times a sign
abbrev pub signed : (sign : Bool) → ℤ → ℤ
signed true sample = sample
signed false sample = neg_ℤ sample

-- how far from 0 each sample is that is sent
abbrev pub loudness : ℤ
loudness = pos 1000

-- a 1 is the pattern times 1000, a 0 the pattern times -1000
abbrev pub samples_of_bit : Bool → List ℤ
samples_of_bit bit = map (λ sign. signed sign (signed bit loudness)) pattern

-- eight samples for each bit, in the order of the bits
abbrev pub samples_of : List Bool → List ℤ
samples_of bits = flat_map samples_of_bit bits

-- the bits in the order of the frame's octets, most significant first
abbrev pub frame_samples : Frame → List ℤ
frame_samples frame = samples_of (octet_bits (frame_octets frame))

-- the eight samples of bit i
abbrev pub samples_at : List ℤ → (i : ℕ) → List ℤ
samples_at samples i = take 8 (drop (8 * i) samples)

-- the sum of each sample times its sign
abbrev pub sum_by_signs : (signs : List Bool) (samples : List ℤ) → ℤ
sum_by_signs (sign ∷ signs) (sample ∷ samples) = signed sign sample +ℤ sum_by_signs signs samples
sum_by_signs _ _ = pos 0

abbrev pub sum_of_bit : List ℤ → (i : ℕ) → ℤ
sum_of_bit samples i = sum_by_signs pattern (samples_at samples i)
