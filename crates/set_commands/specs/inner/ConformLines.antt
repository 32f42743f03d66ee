-- The text that `conform` writes as a function, by the function that reads octets. This project's profile. Cited by the
-- contracts of the functions that write it.
use Rattle.std.specs.Prelude.{ℕ, ◌+◌, List, [], ◌∷◌, ◌++◌, Result, Ok, Err}
use Rattle.hex.specs.Hex.{encode_lower}
use Rattle.per_bits.specs.declared.refusals.Refusal.{Refusal}
use Rattle.per_types.specs.Types.{Tree}
use Rattle.msd_codec.specs.Canonical.{canonical_octets}
use Rattle.msd_codec.specs.Reading.{reading_of}
use Rattle.trace_text.specs.Summary.{refused_words}
use Rattle.set_commands.specs.Conform.{octets_of_text, numbered_line}

-- what a vector is told to be, by how it reads
abbrev pub answer_words : Result Tree Refusal → List (List ℕ)
answer_words (Ok value) = encode_lower (canonical_octets value) ∷ []
answer_words (Err refusal) = refused_words refusal

-- the line of the vector with these octets
unfoldable pub vector_line : ℕ → List ℕ → List ℕ
vector_line number octets = numbered_line number (answer_words (reading_of octets))

-- the lines of the vectors that these texts have in hexadecimal, numbered on from a number
abbrev pub lines_from : ℕ → List (List ℕ) → List ℕ
lines_from number [] = []
lines_from number (text ∷ texts) = vector_line number (octets_of_text text) ++ lines_from (number + 1) texts
