-- The object of a line whose octets are no set: one line of JSON, with the place in bits, and the number, the name and
-- the value of the reason. This project's profile. Cited by what is told of a line.
use Rattle.std.specs.Prelude.{ℕ, List, [], ◌∷◌, codes, decimal}
use Rattle.std.specs.List.{concat}
use Rattle.per_bits.specs.Reasons.{code_of}
use Rattle.per_bits.specs.declared.refusals.Reason.TheVariants as set
use Rattle.per_bits.specs.declared.refusals.Reason.{Reason as SetReason}
use Rattle.per_bits.specs.declared.refusals.Refusal.{Refusal}

-- the name of why a set is refused
abbrev pub set_reason_name : SetReason → List ℕ
set_reason_name set.Short = codes "Short"
set_reason_name set.OutOfRange = codes "OutOfRange"
set_reason_name set.LongLength = codes "LongLength"
set_reason_name set.SmallLarge = codes "SmallLarge"
set_reason_name set.NoAddition = codes "NoAddition"
set_reason_name set.EmptyOpen = codes "EmptyOpen"
set_reason_name set.BadOid = codes "BadOid"
set_reason_name set.Version = codes "Version"
set_reason_name set.PadBits = codes "PadBits"
set_reason_name set.Trailing = codes "Trailing"
set_reason_name set.Size = codes "Size"

abbrev pub set_refusal_object : ℕ → Refusal → List ℕ
set_refusal_object number refusal =
    concat (
    codes "{\"line\":" ∷ decimal number
    ∷ codes ",\"refused\":{\"place\":" ∷ decimal refusal.place
    ∷ codes ",\"reason\":" ∷ decimal (code_of refusal.reason)
    ∷ codes ",\"name\":\"" ∷ set_reason_name refusal.reason
    ∷ codes "\",\"value\":" ∷ decimal refusal.value
    ∷ codes "}}\n" ∷ []
    )
