-- The numbers that decimal digits spell.
use Rattle.std.proofs.Common.{◌≡◌, ℕ, ◌+◌, ◌-◌, ◌*◌, ◌<◌, ◌≤◌, Bool, true, false, List, [], ◌∷◌, length, get_or, refl, arith, rules, zero, suc, ◌&&◌, ◌^◌, Result, Ok, Err, Some, None, ltb, leb, IfSome, if◌then◌else◌, ap, sym, ◌∙◌}
use Rattle.std.specs.List.{list_all}
use Rattle.std.specs.Str.{IsAscii}
use Rattle.std.proofs.lemmas.Bool.{ltb-true, lt-ltb}
use Rattle.std.proofs.lemmas.Grind.{common_steps}
use Rattle.std.proofs.lemmas.Str.Parse.{IsNumeralModel, numerals_by_fold, parse_plain}
use Rattle.std.specs.Str.Parse.{ParsesUnsigned}
use Rattle.std.specs.Result.{OkIff, result_ok}
use Rattle.line_input.specs.Numbers.{is_digit, number_after, number_of, is_plain_number, positive_below}
use Rattle.line_input.specs.inner.Plain.{begins_plain_number}

-- the digits and the numbers of a script are those that std parses
pub digits_model : IsNumeralModel (λ ds. list_all is_digit ds ≡ true) number_of
digits_model = numerals_by_fold _ (search rules) number_after (search rules)

number_after-ge : (n : ℕ) (cs : List ℕ) → n ≤ number_after n cs
number_after-ge n [] = omega arith
number_after-ge n (c ∷ cs) = let more = number_after-ge (10 * n + (c - 48)) cs in omega (arith, more)

-- without a zero in front the number is at least 1
pub number_of-some : (digits : List ℕ) → 48 < get_or digits 0 0 → 0 < number_of digits
number_of-some [] first = absurd (omega arith)
number_of-some (c ∷ cs) first = let more = number_after-ge (10 * 0 + (c - 48)) cs in omega (arith, more)

pub first_true : (a b : Bool) → (a && b) ≡ true → a ≡ true
first_true true b both = refl
first_true false b both = both

pub second_true : (a b : Bool) → (a && b) ≡ true → b ≡ true
second_true true b both = both
second_true false b both = let no : ⊥ = cc in absurd no

digit_below : (c : ℕ) → is_digit c ≡ true → c < 128
digit_below c digit = grind (arith, common_steps)

-- digits are text
pub IsAscii-digits : (digits : List ℕ) → list_all is_digit digits ≡ true → IsAscii digits
IsAscii-digits [] all i = omega arith
IsAscii-digits (c ∷ cs) all zero = digit_below c (first_true (is_digit c) (list_all is_digit cs) all)
IsAscii-digits (c ∷ cs) all (suc i) = IsAscii-digits cs (second_true (is_digit c) (list_all is_digit cs) all) i

-- no number from 1 on is one without digits, or one that is too large
none-if_not : (a b c : Bool) (n : ℕ) → (a ≡ true → c ≡ true → ⊥) → (if (a && b) && c then Some n else None) ≡ None
none-if_not true true true n never = absurd (never refl refl)
none-if_not true true false n never = refl
none-if_not true false c n never = refl
none-if_not false b c n never = refl

some_bytes : (text : List ℕ) → 48 < get_or text 0 0 → 0 < length text
some_bytes [] first = absurd (omega arith)
some_bytes (c ∷ cs) first = omega arith

-- what parsing gives where the first byte is a digit from 1 to 9, and so no sign
pub positive-from_parse : {E : Type 0} (bits : ℕ) (text : List ℕ) (r : Result ℕ E) → begins_plain_number text ≡ true
    → ParsesUnsigned bits 10 text r → result_ok r ≡ positive_below (2 ^ bits) text
positive-from_parse {E = E} bits text r begins parses =
    let over : ltb 48 (get_or text 0 0) ≡ true = first_true (ltb 48 (get_or text 0 0)) (leb (get_or text 0 0) 57) begins in
    let first : 48 < get_or text 0 0 = ltb-true _ _ over in
    by_answer r over (some_bytes text first) (parse_plain digits_model bits text r parses (λ plus. omega (arith, first, plus)))
  where
    by_answer : (r : Result ℕ E) → ltb 48 (get_or text 0 0) ≡ true → 0 < length text
        → OkIff r ((list_all is_digit text ≡ true) × (0 < length text) × (number_of text < 2 ^ bits)) (number_of text)
        → result_ok r ≡ positive_below (2 ^ bits) text
    by_answer (Ok n) over some is =
        let fits : ltb (number_of text) (2 ^ bits) ≡ true = lt-ltb _ _ is.0.2 in
        let whole : positive_below (2 ^ bits) text ≡ Some (number_of text) = rw (is.0.0, over, fits) refl in
        ap Some is.1 ∙ sym whole
    by_answer (Err e) over some fails = sym (none-if_not (list_all is_digit text) (ltb 48 (get_or text 0 0)) (ltb (number_of text) (2 ^ bits)) (number_of text)
        (λ digits fits. fails (digits, some, ltb-true _ _ fits)))

pub number_of-plain : (text : List ℕ) → is_plain_number text ≡ true → 0 < number_of text
number_of-plain text plain = number_of-some text (ltb-true _ _ (second_true (list_all is_digit text) (ltb 48 (get_or text 0 0)) plain))

-- a number from 1 on is one
pub positive_below-some : (limit : ℕ) (text : List ℕ) → IfSome (positive_below limit text) (λ n. 0 < n)
positive_below-some limit text = by_test (is_plain_number text) _ (number_of-plain text)
  where
    by_test : (plain fits : Bool) → (plain ≡ true → 0 < number_of text)
        → IfSome (if plain && fits then Some (number_of text) else None) (λ n. 0 < n)
    by_test true true some = some refl
    by_test true false some = tt
    by_test false fits some = tt
