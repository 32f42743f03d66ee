-- The words of a line of a trace that are still to be judged, and what taking one gives. This project's profile.
-- Scaffolding: cited by the contracts of private functions alone.
use Rattle.std.specs.Prelude.{ℕ, List, [], ◌∷◌, Result, Ok, Err}
use Rattle.std.specs.Borrow.{Bor}
use Rattle.trace_text.specs.EntryLines.{Taken}
use Rattle.line_input.specs.declared.reason.Reason.{Reason}
use Rattle.line_input.specs.declared.reason.Reason.TheVariants as reason

-- an answer, and the words that are left behind it
abbrev pub told : {A : Type 0} → Result A Reason → List (List ℕ) → Taken A
told (Ok value) rest = Ok (value, rest)
told (Err why) rest = Err why

-- the same of an answer that lends a word
abbrev pub word_told : Result (Bor (List ℕ)) Reason → List (List ℕ) → Taken (List ℕ)
word_told (Ok word) rest = Ok (word.now, rest)
word_told (Err why) rest = Err why

-- the next word, whatever it says
abbrev pub next_word : List (List ℕ) → Taken (List ℕ)
next_word [] = Err reason.Count
next_word (word ∷ rest) = Ok (word, rest)
