-- The words of a call from a page. This project's profile. Cited by the export.
use Rattle.std.specs.Prelude.{ℕ, List, [], ◌∷◌, ◌++◌}
use Rattle.std.specs.Str.Lossy.{utf8_lossy}

-- a word as text, with U+FFFD for what is no UTF-8; of no bytes none
abbrev pub word_of : List ℕ → List (List ℕ)
word_of [] = []
word_of word = utf8_lossy word ∷ []

-- the words, of which the last ones may be none
abbrev pub words_of : (word first second : List ℕ) → List (List ℕ)
words_of word first second = word_of word ++ word_of first ++ word_of second
