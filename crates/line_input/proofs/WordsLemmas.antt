-- Where the first word of a line ends.
use Rattle.std.proofs.Common.{◌≡◌, ℕ, ◌+◌, ◌-◌, ◌<◌, ◌≤◌, not, Bool, true, false, cond, ltb, List, [], ◌∷◌, length, take, drop, get_or, Option, Some, None, refl, sym, ap, ◌∙◌, inl, inr, arith}
use Rattle.std.specs.List.{position, position_or_len, prefix_len, onto_first}
use Rattle.std.specs.Prelude.{nat_lt}
use Rattle.std.proofs.lemmas.Bool.{ltb-true, ltb-false, lt-ltb, false_from_ne_true}
use Rattle.std.proofs.lemmas.Bool.Decides.{eqb_tells}
use Rattle.std.proofs.lemmas.Option.{cond_some}
use Rattle.std.proofs.lemmas.Slice.{between_to_end}
use Rattle.std.proofs.lemmas.List.Sums.{prefix_len-le-length, position_or_len_is}
use Rattle.std.proofs.lemmas.List.Splits.{slice_split_first, slice_split-cons_no, slice_split-cons_yes}
use Rattle.memchr.specs.Find.{IsFirstByte, is_byte}
use Rattle.line_input.specs.Characters.{space, is_space}
use Rattle.line_input.specs.Words.{words, only_word_of}

not_below_itself : (n : ℕ) → nat_lt n n ≡ false
not_below_itself n = false_from_ne_true (nat_lt n n) (λ e. let below : n < n = ltb-true n n e in absurd (omega arith))

-- where the first space stands, as a search of bytes finds it
pub first_space : (xs : List ℕ) (r : Option ℕ) → IsFirstByte (is_byte space) xs r → r ≡ position is_space xs
first_space xs None nowhere =
    let none : position_or_len is_space xs ≡ length xs =
    position_or_len_is is_space xs (length xs) 0 (omega arith)
    (λ k inside. false_from_ne_true (is_space (get_or xs k 0)) (λ e. nowhere k (omega arith) inside e))
    (λ beyond. absurd (omega arith)) in
    sym (ap (λ n. cond (nat_lt n (length xs)) (Some n) None) none ∙ ap (λ t. cond t (Some (length xs)) None) (not_below_itself (length xs)))
first_space xs (Some at) first =
    let there : position_or_len is_space xs ≡ at =
    position_or_len_is is_space xs at 0 (let inside = first.0.high in omega arith)
    (λ k before. false_from_ne_true (is_space (get_or xs k 0)) (λ e. first.0.before k (omega arith) before e))
    (λ inside. first.1) in
    sym (ap (λ n. cond (nat_lt n (length xs)) (Some n) None) there ∙ ap (λ t. cond t (Some at) None) (lt-ltb at (length xs) first.0.high))

-- the first word ends at the first space
pub words-found : (text : List ℕ) (i : ℕ) → position is_space text ≡ Some i
    → words text ≡ take i text ∷ words (take (length text - (i + 1)) (drop (i + 1) text))
words-found text i found =
    let at = cond_some (ltb (position_or_len is_space text) (length text)) (position_or_len is_space text) i found in
    let inside : position_or_len is_space text < length text = ltb-true _ _ at.0 in
    slice_split_first is_space text 0 inside
    ∙ ap (λ n. take n text ∷ words (drop (n + 1) text)) at.1
    ∙ ap (λ (r : List ℕ). take i text ∷ words r) (sym (between_to_end text (i + 1) (length text) (omega arith)))

cond_none : (b : Bool) (n : ℕ) → cond b (Some n) None ≡ None → b ≡ false
cond_none true n e = let never : ⊥ = cc in absurd never
cond_none false n e = refl

whole_word : (text : List ℕ) → prefix_len (λ b. not (is_space b)) text ≡ length text → words text ≡ text ∷ []
whole_word [] all = refl
whole_word (x ∷ xs) all = elim (eqb_tells x space) [
  | inl space ↦ let none : 0 ≡ length (x ∷ xs) = rw space.0 at all in absurd (omega arith)
  | inr other ↦ let more : 1 + prefix_len (λ b. not (is_space b)) xs ≡ length (x ∷ xs) = rw other.0 at all in
      slice_split-cons_no is_space x xs other.0 ∙ ap (onto_first x) (whole_word xs (omega arith))
]

-- without a space the line is one word
pub words-one : (text : List ℕ) → position is_space text ≡ None → words text ≡ text ∷ []
words-one text none = whole_word text (omega (arith, prefix_len-le-length (λ b. not (is_space b)) text, past))
  where
    past : length text ≤ position_or_len is_space text
    past = ltb-false _ _ (cond_none (ltb (position_or_len is_space text) (length text)) (position_or_len is_space text) none)

onto_first-some : (x : ℕ) (parts : List (List ℕ)) → (word : List ℕ) × (rest : List (List ℕ)) × (onto_first x parts ≡ word ∷ rest)
onto_first-some x [] = (x ∷ [], [], refl)
onto_first-some x (part ∷ parts) = (x ∷ part, parts, refl)

-- a line has at least one word
pub words-some : (text : List ℕ) → (word : List ℕ) × (rest : List (List ℕ)) × (words text ≡ word ∷ rest)
words-some [] = ([], [], refl)
words-some (x ∷ xs) = by_test (is_space x) refl
  where
    by_test : (t : Bool) → is_space x ≡ t → (word : List ℕ) × (rest : List (List ℕ)) × (words (x ∷ xs) ≡ word ∷ rest)
    by_test true e = ([], words xs, slice_split-cons_yes is_space x xs e)
    by_test false e = let front = onto_first-some x (words xs) in (front.0, front.1, slice_split-cons_no is_space x xs e ∙ front.2)

-- where there is just one word, the line's words are that one
pub only_word_is : (parts : List (List ℕ)) (word : List ℕ) → only_word_of parts ≡ Some word → parts ≡ word ∷ []
only_word_is [] word e = let never : ⊥ = cc in absurd never
only_word_is (part ∷ []) word e = let same : part ≡ word = cc in ap (λ w. w ∷ []) same
only_word_is (part ∷ other ∷ parts) word e = let never : ⊥ = cc in absurd never
