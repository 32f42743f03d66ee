-- The summary of a set of data that the line of a shown set ends with: what the octets show, or why they show none.
-- This project's profile. It is a function of the octets, by the function that reads them; the law says that it is the
-- summary of the set where they show one, and else that of the refusal. Cited by the definition of an entry's line.
use Rattle.std.specs.Prelude.{ℕ, zero, suc, ℤ, pos, List, [], ◌∷◌, ◌++◌, codes, decimal, Result, Ok, Err}
use Rattle.std.specs.Fmt.{signed_decimal}
use Rattle.per_bits.specs.Reasons.{code_of}
use Rattle.per_bits.specs.declared.refusals.Refusal.{Refusal}
use Rattle.per_types.specs.Types.{Tree, number, text, record_of, Fields, no_fields, field, absent}
use Rattle.msd_values.specs.declared.msd.Msd.{Msd}
use Rattle.msd_codec.specs.Reading.{reading_of}

-- the summary of a set
abbrev pub ok_words : Msd → List (List ℕ)
ok_words msd =
    codes "ok" ∷ decimal msd.message ∷ msd.vin ∷ decimal msd.time ∷ signed_decimal msd.latitude
    ∷ signed_decimal msd.longitude ∷ []

-- the summary of a refusal
abbrev pub refused_words : Refusal → List (List ℕ)
refused_words refusal =
    codes "refused" ∷ decimal refusal.place ∷ decimal (code_of refusal.reason) ∷ decimal refusal.value ∷ []

-- the component at this index, from 0; where there is none, the number 0
abbrev pub field_at : ℕ → Fields → Tree
field_at n no_fields = number (pos 0)
field_at zero (field value rest) = value
field_at (suc n) (field value rest) = field_at n rest
field_at zero (absent rest) = number (pos 0)
field_at (suc n) (absent rest) = field_at n rest

-- a component of a record
abbrev pub component : ℕ → Tree → Tree
component n (record_of components more) = field_at n components
component n _ = number (pos 0)

abbrev pub number_in : Tree → ℤ
number_in (number z) = z
number_in _ = pos 0

abbrev pub text_in : Tree → List ℕ
text_in (text characters) = characters
text_in _ = []

-- the structure of the set that the value of a module stands for
abbrev pub structure_in : Tree → Tree
structure_in value = component 0 (component 1 value)

-- the parts of an identification number, one behind the other
abbrev pub joined : Tree → List ℕ
joined vin =
    text_in (component 0 vin)
    ++ (text_in (component 1 vin) ++ (text_in (component 2 vin) ++ text_in (component 3 vin)))

-- the summary of a structure: its message, identification number, timestamp, latitude and longitude
abbrev pub structure_words : Tree → List (List ℕ)
structure_words structure =
    codes "ok" ∷ signed_decimal (number_in (component 0 structure)) ∷ joined (component 2 structure)
    ∷ signed_decimal (number_in (component 4 structure))
    ∷ signed_decimal (number_in (component 0 (component 5 structure)))
    ∷ signed_decimal (number_in (component 1 (component 5 structure))) ∷ []

abbrev pub words_of_reading : Result Tree Refusal → List (List ℕ)
words_of_reading (Ok value) = structure_words (structure_in value)
words_of_reading (Err refusal) = refused_words refusal

-- the summary of the set that octets show, or of their refusal
abbrev pub summary_words : List ℕ → List (List ℕ)
summary_words octets = words_of_reading (reading_of octets)
