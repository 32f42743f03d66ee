-- What samples are read as, and why they are no frame. This project's own modem. Cited by the contract of `tone_read`.
use Rattle.std.specs.Prelude.{◌≡◌, ℕ, ◌+◌, ◌*◌, ◌%◌, ◌<◌, ◌≤◌, min, ℤ, pos, negsuc, ◌≤ℤ◌, ◌<ℤ◌, Bool, true, false, List, [], ◌∷◌, length, Result, Ok, Err}
use Rattle.link_frames.specs.declared.frame.Frame.{Frame}
use Rattle.link_frames.specs.FrameOctets.{frame_octets, IsFrame}
use Rattle.per_bits.specs.Bits.{octet_bits}
use Rattle.per_bits.specs.Parts.{AreOctets}
use Rattle.tone_link.specs.declared.fault.ToneFault.{ToneFault}
use Rattle.tone_link.specs.declared.fault.ToneFault.TheVariants as fault
use Rattle.tone_link.specs.Tones.{sum_of_bit}

-- a sum of at least 4000 says 1, one of at most -4000 says 0
abbrev pub Says : (sum : ℤ) → Bool → Type 0
Says sum true = pos 4000 ≤ℤ sum
Says sum false = sum ≤ℤ negsuc 3999

-- one between them says neither
abbrev pub SaysNeither : (sum : ℤ) → Type 0
SaysNeither sum = (negsuc 3999 <ℤ sum) × (sum <ℤ pos 4000)

-- from bit i on, the sums say these bits, one behind the other
abbrev pub AreSaid : (samples : List ℤ) → (i : ℕ) → List Bool → Type 0
AreSaid samples i [] = Unit {0}
AreSaid samples i (bit ∷ bits) = Says (sum_of_bit samples i) bit × AreSaid samples (i + 1) bits

-- 64 samples for each octet: of at least one, and of no more than the longest frame has
pub record IsBlock (samples : List ℤ) : Type 0 where
  pub some : 0 < length samples
  pub whole : length samples % 64 ≡ 0
  pub most : length samples ≤ 9152

-- the samples say these octets, and no others
pub record SayOctets (samples : List ℤ) (octets : List ℕ) : Type 0 where
  pub each : AreOctets octets
  pub count : length samples ≡ 64 * length octets
  pub said : AreSaid samples 0 (octet_bits octets)

-- the octets aren't one whole frame
abbrev pub IsNoFrame : List ℕ → Type 0
IsNoFrame octets = (frame : Frame) → IsFrame frame → frame_octets frame ≡ octets → ⊥

-- this bit has this sum, which says neither, and each bit before it is said
pub record IsFirstUnsure (samples : List ℤ) (bit : ℕ) (sum : ℤ) : Type 0 where
  pub before : List Bool
  pub said : AreSaid samples 0 before
  pub place : bit ≡ length before
  pub within : 8 * bit < length samples
  pub is_sum : sum ≡ sum_of_bit samples bit
  pub neither : SaysNeither sum

-- What these samples are read as: a frame; or, in this order, no block, a bit that no sum says, or octets that aren't a
-- frame.
abbrev pub ReadsAs : (samples : List ℤ) → Result Frame ToneFault → Type 0
ReadsAs samples (Ok frame) = IsBlock samples × IsFrame frame × SayOctets samples (frame_octets frame)
ReadsAs samples (Err (fault.Size count)) = (IsBlock samples → ⊥) × (count ≡ min (length samples) 9153)
ReadsAs samples (Err (fault.Unsure bit sum)) = IsBlock samples × IsFirstUnsure samples bit sum
ReadsAs samples (Err (fault.NotFrame count)) =
    IsBlock samples × ((octets : List ℕ) × SayOctets samples octets × (length octets ≡ count) × IsNoFrame octets)

-- a bit was unsure
abbrev pub IsUnsure : Result Frame ToneFault → Type 0
IsUnsure (Err (fault.Unsure bit sum)) = Unit {0}
IsUnsure _ = ⊥
