-- The words of a line behind its first one. This project's profile. Cited by the readers of words.
use Rattle.std.specs.Prelude.{ℕ, List, [], ◌∷◌, Option, Some, None}
use Rattle.line_input.specs.Words.{words}

-- the words behind the first one, where a space stands behind it
abbrev pub words_behind : Option (List ℕ) → List (List ℕ)
words_behind None = []
words_behind (Some text) = words text

-- the two words, where there are just two
abbrev pub two_words_of : List (List ℕ) → Option (List ℕ × List ℕ)
two_words_of (a ∷ b ∷ []) = Some (a, b)
two_words_of _ = None

-- the three words, where there are just three
abbrev pub three_words_of : List (List ℕ) → Option (List ℕ × List ℕ × List ℕ)
three_words_of (a ∷ b ∷ c ∷ []) = Some (a, b, c)
three_words_of _ = None
