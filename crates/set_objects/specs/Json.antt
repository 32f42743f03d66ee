-- How values are written in JSON, RFC 8259: this project's profile. No text here needs an escape: they are hexadecimal
-- digits, identification numbers, instants and fixed words. Cited by the object of a set and that of a refused line.
use Rattle.std.specs.Prelude.{ℕ, Bool, true, false, List, codes, Option, Some, None}

-- what is present as the function says, and else `null`
abbrev pub or_null : {X : Type 0} → (X → List ℕ) → Option X → List ℕ
or_null text None = codes "null"
or_null text (Some value) = text value

abbrev pub boolean_text : Bool → List ℕ
boolean_text true = codes "true"
boolean_text false = codes "false"
