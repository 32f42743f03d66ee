-- The parts of a text round each byte of one value: this project's profile. Cited by the contracts of those that cut
-- a text.
use Rattle.std.specs.Prelude.{◌≡◌, ℕ, List, [], ◌∷◌, Option, Some, None}
use Rattle.std.specs.List.{slice_split}
use Rattle.memchr.specs.Find.{is_byte}

-- the parts of a text, cut at each such byte
abbrev pub parts : ℕ → List ℕ → List (List ℕ)
parts separator text = slice_split (is_byte separator) text

-- the parts behind the first one, where such a byte stands behind it
abbrev pub parts_behind : ℕ → Option (List ℕ) → List (List ℕ)
parts_behind separator None = []
parts_behind separator (Some text) = parts separator text

-- there is just one part
abbrev pub IsOnePart : List (List ℕ) → Type 0
IsOnePart all = (first : List ℕ) × (all ≡ first ∷ [])

-- these parts stand behind the first one
abbrev pub HasBehind : List (List ℕ) → List (List ℕ) → Type 0
HasBehind all behind = (first : List ℕ) × (all ≡ first ∷ behind)
