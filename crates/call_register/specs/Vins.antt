-- Whose set octets show: the vehicle identification number of the set, or none where they show no set. This project's
-- profile. It is a function of the octets, by the function that reads them; the law says that it is the number of the
-- set where they show one. Cited by the text of a register.
use Rattle.std.specs.Prelude.{ℕ, List, Option, Some, None, Result, Ok, Err}
use Rattle.per_bits.specs.declared.refusals.Refusal.{Refusal}
use Rattle.per_types.specs.Types.{Tree}
use Rattle.msd_codec.specs.Reading.{reading_of}
use Rattle.trace_text.specs.Summary.{component, joined, structure_in}

abbrev pub vin_in : Result Tree Refusal → Option (List ℕ)
vin_in (Ok value) = Some (joined (component 2 (structure_in value)))
vin_in (Err refusal) = None

-- the vehicle identification number of the set that octets show
abbrev pub vin_of : List ℕ → Option (List ℕ)
vin_of octets = vin_in (reading_of octets)
