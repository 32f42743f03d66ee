-- A field with a number that may be absent. This project's profile. Cited by the objects and the sentences of a report.
use Rattle.std.specs.Prelude.{ℕ, List, [], ◌∷◌, decimal, Option, Some, None}
use Rattle.std.specs.List.{concat}

-- a number, or what stands where there is none
abbrev pub number_or : (absent : List ℕ) → Option ℕ → List ℕ
number_or absent None = absent
number_or absent (Some number) = decimal number

-- it behind a name, which stands with all that is between them
unfoldable pub number_field : (name absent : List ℕ) → Option ℕ → List ℕ
number_field name absent number = concat (name ∷ number_or absent number ∷ [])
