-- A bit that no sum says, among those from some bit on. Cited by the contracts of private functions.
use Rattle.std.specs.Prelude.{◌≡◌, ℕ, ◌+◌, ◌*◌, ◌<◌, ℤ, Bool, List, length}
use Rattle.tone_link.specs.declared.fault.ToneFault.{ToneFault}
use Rattle.tone_link.specs.declared.fault.ToneFault.TheVariants as fault
use Rattle.tone_link.specs.Tones.{sum_of_bit}
use Rattle.tone_link.specs.ToneReading.{AreSaid, SaysNeither}

-- the fault names the first bit from this one on that no sum says
pub record NamesUnsure (samples : List ℤ) (first : ℕ) (named : ToneFault) : Type 0 where
  pub before : List Bool
  pub said : AreSaid samples first before
  pub within : 8 * (first + length before) < length samples
  pub neither : SaysNeither (sum_of_bit samples (first + length before))
  pub names : named ≡ fault.Unsure (first + length before) (sum_of_bit samples (first + length before))
