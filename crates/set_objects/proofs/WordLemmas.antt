-- How long the one word of a line is.
use Rattle.std.specs.Prelude.{◌≡◌, ℕ, ◌+◌, ◌-◌, ◌≤◌, nat_lt, Bool, true, false, List, ◌∷◌, length, take, drop, position, Option, Some, None}
use Rattle.std.proofs.Common.{sym, ◌∙◌, ap, refl, subst}
use Rattle.std.proofs.lemmas.Bool.{ltb-false}
use Rattle.line_input.proofs.WordsLemmas.{words-found, words-one, words-some}
use Rattle.line_input.specs.Lines.{line_fault, most_in_line}
use Rattle.line_input.specs.Characters.{is_space}
use Rattle.line_input.specs.Words.{only_word_of, words}
use Rattle.line_input.specs.declared.reason.Reason.TheVariants as reason

-- which is all of it
word_is_line : (text word : List ℕ) → Some word ≡ only_word_of (words text) → word ≡ text
word_is_line text word only = by_space (position is_space text) refl
  where
    by_space : (at : Option ℕ) → position is_space text ≡ at → word ≡ text
    by_space None h =
        let same : Some word ≡ Some text = only ∙ ap only_word_of (words-one text h) in
        cc same
    by_space (Some i) h =
        let others : List ℕ = take (length text - (i + 1)) (drop (i + 1) text) in
        let more : (other : List ℕ) × (rest : List (List ℕ)) × (words others ≡ other ∷ rest) = words-some others in
        let none : Some word ≡ None =
        only ∙ ap only_word_of (words-found text i h ∙ ap (λ ws. take i text ∷ ws) more.2) in
        absurd (cc none)

short_line : (text : List ℕ) → line_fault text ≡ None → length text ≤ most_in_line
short_line text sound = by_test (nat_lt most_in_line (length text)) refl
  where
    by_test : (b : Bool) → nat_lt most_in_line (length text) ≡ b → length text ≤ most_in_line
    by_test false h = ltb-false most_in_line (length text) h
    by_test true h =
        let long : line_fault text ≡ Some reason.LineLong = rw (line_fault, h) refl in
        let none : Some reason.LineLong ≡ None = sym long ∙ sound in
        absurd (cc none)

-- and as short as a line is
pub short_word : (text word : List ℕ) → line_fault text ≡ None → Some word ≡ only_word_of (words text)
    → length word ≤ most_in_line
short_word text word sound only =
    subst (λ (t : List ℕ). length t ≤ most_in_line) (sym (word_is_line text word only)) (short_line text sound)
