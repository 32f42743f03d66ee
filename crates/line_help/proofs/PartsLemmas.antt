-- Where the first part of a text ends, and the parts behind it.
use Rattle.std.proofs.Common.{◌≡◌, ℕ, zero, suc, ◌+◌, ◌-◌, ◌<◌, ◌≤◌, not, Bool, true, false, cond, ltb, List, [], ◌∷◌, length, take, drop, get_or, Option, Some, None, refl, sym, ap, ◌∙◌, inl, inr, arith}
use Rattle.std.specs.List.{position, position_or_len, prefix_len, onto_first}
use Rattle.std.specs.Prelude.{nat_lt, slice_get}
use Rattle.std.proofs.lemmas.Bool.{ltb-true, ltb-false, lt-ltb, false_from_ne_true}
use Rattle.std.proofs.lemmas.Bool.Decides.{eqb_tells}
use Rattle.std.proofs.lemmas.Option.{cond_some}
use Rattle.std.proofs.lemmas.Slice.{between_to_end}
use Rattle.std.proofs.lemmas.List.Sums.{prefix_len-le-length, position_or_len_is}
use Rattle.std.proofs.lemmas.List.Splits.{slice_split_first, slice_split-cons_no}
use Rattle.memchr.specs.Find.{IsFirstByte, is_byte}
use Rattle.line_help.specs.Parts.{parts, IsOnePart, HasBehind}

not_below_itself : (n : ℕ) → nat_lt n n ≡ false
not_below_itself n = false_from_ne_true (nat_lt n n) (λ e. let below : n < n = ltb-true n n e in absurd (omega arith))

-- where the first separator stands, as a search of bytes finds it
pub first_place : (sep : ℕ) (xs : List ℕ) (r : Option ℕ) → IsFirstByte (is_byte sep) xs r → r ≡ position (is_byte sep) xs
first_place sep xs None nowhere =
    let none : position_or_len (is_byte sep) xs ≡ length xs =
    position_or_len_is (is_byte sep) xs (length xs) 0 (omega arith)
    (λ k inside. false_from_ne_true (is_byte sep (get_or xs k 0)) (λ e. nowhere k (omega arith) inside e))
    (λ beyond. absurd (omega arith)) in
    sym (ap (λ n. cond (nat_lt n (length xs)) (Some n) None) none ∙ ap (λ t. cond t (Some (length xs)) None) (not_below_itself (length xs)))
first_place sep xs (Some at) first =
    let there : position_or_len (is_byte sep) xs ≡ at =
    position_or_len_is (is_byte sep) xs at 0 (let inside = first.0.high in omega arith)
    (λ k before. false_from_ne_true (is_byte sep (get_or xs k 0)) (λ e. first.0.before k (omega arith) before e))
    (λ inside. first.1) in
    sym (ap (λ n. cond (nat_lt n (length xs)) (Some n) None) there ∙ ap (λ t. cond t (Some at) None) (lt-ltb at (length xs) first.0.high))

-- the first part ends at the first separator
pub parts-found : (sep : ℕ) (text : List ℕ) (i : ℕ) → position (is_byte sep) text ≡ Some i
    → parts sep text ≡ take i text ∷ parts sep (take (length text - (i + 1)) (drop (i + 1) text))
parts-found sep text i found =
    let at = cond_some (ltb (position_or_len (is_byte sep) text) (length text)) (position_or_len (is_byte sep) text) i found in
    let inside : position_or_len (is_byte sep) text < length text = ltb-true _ _ at.0 in
    slice_split_first (is_byte sep) text 0 inside
    ∙ ap (λ n. take n text ∷ parts sep (drop (n + 1) text)) at.1
    ∙ ap (λ (r : List ℕ). take i text ∷ parts sep r) (sym (between_to_end text (i + 1) (length text) (omega arith)))

cond_none : (b : Bool) (n : ℕ) → cond b (Some n) None ≡ None → b ≡ false
cond_none true n e = let never : ⊥ = cc in absurd never
cond_none false n e = refl

whole_part : (sep : ℕ) (text : List ℕ) → prefix_len (λ b. not ((is_byte sep) b)) text ≡ length text → parts sep text ≡ text ∷ []
whole_part sep [] all = refl
whole_part sep (x ∷ xs) all = elim (eqb_tells x sep) [
  | inl same ↦ let none : 0 ≡ length (x ∷ xs) = rw same.0 at all in absurd (omega arith)
  | inr other ↦ let more : 1 + prefix_len (λ b. not ((is_byte sep) b)) xs ≡ length (x ∷ xs) = rw other.0 at all in
      slice_split-cons_no (is_byte sep) x xs other.0 ∙ ap (onto_first x) (whole_part sep xs (omega arith))
]

-- without a separator the text is one part
pub parts-one : (sep : ℕ) (text : List ℕ) → position (is_byte sep) text ≡ None → parts sep text ≡ text ∷ []
parts-one sep text none = whole_part sep text (omega (arith, prefix_len-le-length (λ b. not ((is_byte sep) b)) text, past))
  where
    past : length text ≤ position_or_len (is_byte sep) text
    past = ltb-false _ _ (cond_none (ltb (position_or_len (is_byte sep) text) (length text)) (position_or_len (is_byte sep) text) none)

-- behind the first part, each place is one less
pub behind_first : (all rest more : List (List ℕ)) (left place : ℕ) → HasBehind rest more → 0 < left
    → slice_get rest left ≡ slice_get all place → slice_get more (left - 1) ≡ slice_get all place
behind_first all rest more zero place behind some standing = absurd (omega arith)
behind_first all rest more (suc left) place behind some standing =
    ap (slice_get more) (omega arith) ∙ (ap (λ l. slice_get l (suc left)) (sym behind.1) ∙ standing)

-- behind the only part there is none
pub behind_last : (all rest : List (List ℕ)) (left place : ℕ) → IsOnePart rest → 0 < left
    → slice_get rest left ≡ slice_get all place → None ≡ slice_get all place
behind_last all rest zero place one some standing = absurd (omega arith)
behind_last all rest (suc left) place one some standing = ap (λ l. slice_get l (suc left)) (sym one.1) ∙ standing

-- the first part is the one of the place 0
pub at_first : (all rest more : List (List ℕ)) (first : List ℕ) (left place : ℕ) → rest ≡ first ∷ more → left ≡ 0
    → slice_get rest left ≡ slice_get all place → Some first ≡ slice_get all place
at_first all rest more first left place is none standing =
    ap (λ l. slice_get l 0) (sym is) ∙ (ap (slice_get rest) (sym none) ∙ standing)
