-- Samples as they are sent, of which none is further from 0 than 1000. Cited by the contracts of private functions.
use Rattle.std.specs.Prelude.{ℤ, pos, negsuc, ◌≤ℤ◌, List}
use Rattle.std.specs.List.{AllByRecursion}

abbrev pub IsSampleSent : ℤ → Type 0
IsSampleSent sample = (negsuc 999 ≤ℤ sample) × (sample ≤ℤ pos 1000)

abbrev pub AreSamplesSent : List ℤ → Type 0
AreSamplesSent samples = AllByRecursion IsSampleSent samples
