-- The words of a line: this project's profile. Cited by the definition of a script, and by the contracts of the
-- functions that cut a line into words.
use Rattle.std.specs.Prelude.{ℕ, List, [], ◌∷◌, Option, Some, None}
use Rattle.std.specs.List.{slice_split}
use Rattle.line_input.specs.Characters.{is_space}

-- The words of a line, cut at each single space: two spaces in a row, or one at an end, make an empty word.
abbrev pub words : List ℕ → List (List ℕ)
words text = slice_split is_space text

-- the one word, where there is just one
abbrev pub only_word_of : List (List ℕ) → Option (List ℕ)
only_word_of (word ∷ []) = Some word
only_word_of _ = None
