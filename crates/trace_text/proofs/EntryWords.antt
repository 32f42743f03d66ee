-- The words of an entry's line, each behind a space, and back.
use Rattle.std.proofs.Common.{◌≡◌, ℕ, not, Bool, true, false, List, [], ◌∷◌, ◌++◌, refl, sym, ap, ◌∙◌}
use Rattle.std.specs.List.{list_all, onto_first}
use Rattle.std.proofs.lemmas.Bool.{eqb-true}
use Rattle.std.proofs.lemmas.List.Splits.{slice_split-cons_no, slice_split-cons_yes}
use Rattle.line_input.specs.Characters.{is_space}
use Rattle.trace_text.specs.EntryLine.{spaced}
use Rattle.line_input.specs.Words.{words}
use Rattle.line_input.proofs.NumberLemmas.{first_true, second_true}

spaced-onto : (x : ℕ) (parts : List (List ℕ)) (xs : List ℕ) → spaced parts ≡ 32 ∷ xs → spaced (onto_first x parts) ≡ 32 ∷ x ∷ xs
spaced-onto x [] xs e = let never : ⊥ = cc in absurd never
spaced-onto x (part ∷ parts) xs e = let rest : part ++ spaced parts ≡ xs = cc in ap (λ (l : List ℕ). 32 ∷ x ∷ l) rest

-- the words of a text, each behind a space, are a space and the text
pub spaced-words : (text : List ℕ) → spaced (words text) ≡ 32 ∷ text
spaced-words [] = refl
spaced-words (x ∷ xs) = by_test (is_space x) refl (spaced-words xs)
  where
    by_test : (t : Bool) → is_space x ≡ t → spaced (words xs) ≡ 32 ∷ xs → spaced (words (x ∷ xs)) ≡ 32 ∷ x ∷ xs
    by_test true e more =
        ap spaced (slice_split-cons_yes is_space x xs e)
        ∙ ap (λ (l : List ℕ). 32 ∷ l) (more ∙ ap (λ (y : ℕ). y ∷ xs) (sym (eqb-true x 32 e)))
    by_test false e more = ap spaced (slice_split-cons_no is_space x xs e) ∙ spaced-onto x (words xs) xs more

-- a text is its first word, and the others each behind a space
pub text-words : (text word : List ℕ) (rest : List (List ℕ)) → words text ≡ word ∷ rest → text ≡ word ++ spaced rest
text-words text word rest e =
    let both : 32 ∷ text ≡ 32 ∷ (word ++ spaced rest) = sym (spaced-words text) ∙ ap spaced e in cc

-- a word has no space
abbrev pub IsWord : List ℕ → Type 0
IsWord word = list_all (λ b. not (is_space b)) word ≡ true

abbrev pub AreWords : List (List ℕ) → Type 0
AreWords [] = Unit {0}
AreWords (word ∷ rest) = IsWord word × AreWords rest

-- what a line is read as behind a word, where these stand there each behind a space
abbrev pub behind : List (List ℕ) → List (List ℕ)
behind [] = []
behind (word ∷ rest) = words (word ++ spaced rest)

not-true : (b : Bool) → not b ≡ true → b ≡ false
not-true false e = refl
not-true true e = let never : ⊥ = cc in absurd never

-- a line that begins with a word
pub words-front : (word : List ℕ) (rest : List (List ℕ)) → IsWord word → words (word ++ spaced rest) ≡ word ∷ behind rest
words-front [] [] h = refl
words-front [] (next ∷ rest) h = refl
words-front (x ∷ xs) rest h =
    slice_split-cons_no is_space x (xs ++ spaced rest) (not-true (is_space x) (first_true (not (is_space x)) (list_all (λ b. not (is_space b)) xs) h))
    ∙ ap (onto_first x) (words-front xs rest (second_true (not (is_space x)) (list_all (λ b. not (is_space b)) xs) h))

-- words in front are read as they are
pub behind-words : (front rest : List (List ℕ)) → AreWords front → behind (front ++ rest) ≡ front ++ behind rest
behind-words [] rest h = refl
behind-words (word ∷ front) rest h =
    words-front word (front ++ rest) h.0 ∙ ap (λ (l : List (List ℕ)). word ∷ l) (behind-words front rest h.1)

-- whatever the words, each behind a space they are the same text
pub spaced-behind : (rest : List (List ℕ)) → spaced (behind rest) ≡ spaced rest
spaced-behind [] = refl
spaced-behind (word ∷ rest) = spaced-words (word ++ spaced rest)
