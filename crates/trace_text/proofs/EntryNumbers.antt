-- The number that decimal digits spell is the one whose decimal digits they are.
use Rattle.std.proofs.Common.{◌≡◌, ℕ, ◌<◌, ◌≤◌, ◌^◌, not, Bool, true, false, ◌&&◌, ◌||◌, ltb, inl, inr, List, [], ◌∷◌, length, get_or, decimal, codes, Some, refl, sym, ap, ◌∙◌, arith}
use Rattle.std.specs.List.{list_all}
use Rattle.std.specs.Str.{bytes_eq}
use Rattle.std.proofs.lemmas.Bool.{ltb-true, lt-ltb, cases_eq}
use Rattle.std.proofs.lemmas.Fmt.{decimal_digit, digits_decimal, digits_value-decimal, decimal-digits_value, first_decimal}
use Rattle.std.proofs.lemmas.Option.{cond_some}
use Rattle.std.proofs.lemmas.Slice.Eq.{bytes_eq-Decides}
use Rattle.line_input.specs.Characters.{is_space}
use Rattle.line_input.specs.Numbers.{is_digit, number_of, is_plain_number, is_natural, natural_below, positive_below}
use Rattle.trace_text.proofs.EntryWords.{IsWord}
use Rattle.line_input.proofs.NumberLemmas.{digits_model, first_true, second_true, number_of-plain}

pub plain-decimal : (n : ℕ) → 0 < n → n < 2 ^ 64 → is_plain_number (decimal n) ≡ true
plain-decimal n some fits =
    let all : list_all is_digit (decimal n) ≡ true = digits_decimal digits_model n fits in
    let first : ltb 48 (get_or (decimal n) 0 0) ≡ true = lt-ltb _ _ (first_decimal n some fits) in
    rw (all, first) refl

natural-plain : (text : List ℕ) → is_plain_number text ≡ true → is_natural text ≡ true
natural-plain text plain = rw plain refl

pub natural-decimal : (n : ℕ) → n < 2 ^ 64 → is_natural (decimal n) ≡ true
natural-decimal n fits =
    elim (cases_eq n 0) [
      | inl zero ↦ let is : decimal n ≡ 48 ∷ [] = ap decimal zero ∙ decimal_digit 0 (omega arith) in rw is refl
      | inr other ↦ natural-plain (decimal n) (plain-decimal n (omega (arith, other)) fits)
    ]

pub value-decimal : (n : ℕ) → n < 2 ^ 64 → number_of (decimal n) ≡ n
value-decimal n fits = digits_value-decimal digits_model n fits

-- what is read of a number as it is written
pub natural_below-decimal : (limit n : ℕ) → limit ≤ 2 ^ 64 → n < limit → natural_below limit (decimal n) ≡ Some n
natural_below-decimal limit n most below =
    let is = natural-decimal n (omega arith) in
    let value = value-decimal n (omega arith) in
    let test : ltb n limit ≡ true = lt-ltb n limit below in
    rw (is, value, test) refl

pub positive_below-decimal : (limit n : ℕ) → limit ≤ 2 ^ 64 → 0 < n → n < limit → positive_below limit (decimal n) ≡ Some n
positive_below-decimal limit n most some below =
    let is = plain-decimal n some (omega arith) in
    let value = value-decimal n (omega arith) in
    let test : ltb n limit ≡ true = lt-ltb n limit below in
    rw (is, value, test) refl

plain-back : (text : List ℕ) → is_plain_number text ≡ true → number_of text < 2 ^ 64 → text ≡ decimal (number_of text)
plain-back text plain fits =
    let all = first_true (list_all is_digit text) (ltb 48 (get_or text 0 0)) plain in
    let first : 48 < get_or text 0 0 = ltb-true _ _ (second_true (list_all is_digit text) (ltb 48 (get_or text 0 0)) plain) in
    sym (decimal-digits_value digits_model text all (some text first) (λ zero. absurd (omega (arith, zero, first))) fits)
  where
    some : (ds : List ℕ) → 48 < get_or ds 0 0 → 0 < length ds
    some [] first = absurd (omega arith)
    some (d ∷ ds) first = omega arith

-- what was read of a number is written so
pub positive_below-back : (limit : ℕ) (text : List ℕ) (n : ℕ) → limit ≤ 2 ^ 64 → positive_below limit text ≡ Some n
    → (text ≡ decimal n) × (0 < n) × (n < limit)
positive_below-back limit text n most e =
    let read = cond_some (is_plain_number text && ltb (number_of text) limit) (number_of text) n e in
    let plain = first_true (is_plain_number text) (ltb (number_of text) limit) read.0 in
    let below : number_of text < limit = ltb-true _ _ (second_true (is_plain_number text) (ltb (number_of text) limit) read.0) in
    let some = number_of-plain text plain in
    (plain-back text plain (omega arith) ∙ ap decimal read.1, omega (arith, read.1, some), omega (arith, read.1, below))

zero-back : (text : List ℕ) → text ≡ 48 ∷ [] → text ≡ decimal (number_of text)
zero-back text e = rw e (sym (decimal_digit 0 (omega arith)))

natural-back : (text : List ℕ) (plain zero : Bool) → is_plain_number text ≡ plain → bytes_eq text (codes "0") ≡ zero → (plain || zero) ≡ true
    → number_of text < 2 ^ 64 → text ≡ decimal (number_of text)
natural-back text true zero p z either fits = plain-back text p fits
natural-back text false true p z either fits = zero-back text ((bytes_eq-Decides text (codes "0")).0 z)
natural-back text false false p z either fits = let never : ⊥ = cc in absurd never

pub natural_below-back : (limit : ℕ) (text : List ℕ) (n : ℕ) → limit ≤ 2 ^ 64 → natural_below limit text ≡ Some n
    → (text ≡ decimal n) × (n < limit)
natural_below-back limit text n most e =
    let read = cond_some (is_natural text && ltb (number_of text) limit) (number_of text) n e in
    let natural = first_true (is_natural text) (ltb (number_of text) limit) read.0 in
    let below : number_of text < limit = ltb-true _ _ (second_true (is_natural text) (ltb (number_of text) limit) read.0) in
    (natural-back text (is_plain_number text) (bytes_eq text (codes "0")) refl refl natural (omega arith) ∙ ap decimal read.1, omega (arith, read.1, below))

-- digits are a word
digit-word : (c : ℕ) → is_digit c ≡ true → not (is_space c) ≡ true
digit-word c digit = grind arith

pub word-digits : (text : List ℕ) → list_all is_digit text ≡ true → IsWord text
word-digits [] all = refl
word-digits (c ∷ cs) all =
    rw (digit-word c (first_true (is_digit c) (list_all is_digit cs) all)) (word-digits cs (second_true (is_digit c) (list_all is_digit cs) all))

pub word-decimal : (n : ℕ) → n < 2 ^ 64 → IsWord (decimal n)
word-decimal n fits = word-digits (decimal n) (digits_decimal digits_model n fits)
