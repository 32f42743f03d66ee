-- How many bits a candidate takes as additional data, by the one definition of what is written. Cited by the private
-- functions that choose a candidate before a set is written.
use Rattle.std.specs.Prelude.{ℕ, length}
use Rattle.msd_codec.specs.Module.{additional_data}
use Rattle.msd_codec.specs.Trees.{extra_tree}
use Rattle.msd_codec.specs.Canonical.{canonical_bits}
use Rattle.msd_fit.specs.Candidates.{AdditionalData}
use Rattle.msd_fit.specs.Fitting.{extra_of}

abbrev pub data_bits : AdditionalData → ℕ
data_bits extra = length (canonical_bits additional_data (extra_tree (extra_of extra)))
