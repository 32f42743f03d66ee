-- The place of a call among calls whose numbers rise.
use Rattle.std.proofs.Common.{◌≡◌, ℕ, zero, suc, ◌<◌, ◌≤◌, ◌==◌, if◌then◌else◌, true, false, Option, Some, None, List, [], ◌∷◌, length, get_or, take, drop, IfSome, Result, Ok, Err, refl, ap, sym, ◌∙◌, arith}
use Rattle.std.specs.List.{AllByRecursion}
use Rattle.std.specs.List.Sorted.{IsBinarySearchResult, IsNonDecreasingBy, IsSearchInRange}
use Rattle.std.specs.Ordering.{nat_cmp, ordering_index}
use Rattle.std.specs.declared.cmp.Ordering.TheVariants.{Less, Equal, Greater}
use Rattle.std.specs.Result.{result_ok}
use Rattle.std.proofs.lemmas.Cmp.{ranked}
use Rattle.std.proofs.lemmas.Bool.{eq-eqb}
use Rattle.std.proofs.lemmas.Bool.Decides.{nat_tests}
use Rattle.channel_sim.specs.declared.calls.call.Call.{Call}
use Rattle.channel_sim.specs.inner.Beside.{numbers}
use Rattle.channel_sim.specs.inner.Places.{next_place, place_of}
use Rattle.channel_sim.specs.Tidy.{AreAbove}

pub above_other : (a c : ℕ) → c < a → (a == c) ≡ false
above_other a c h = grind (arith, nat_tests)

pub below_other : (a c : ℕ) → a < c → (a == c) ≡ false
below_other a c h = grind (arith, nat_tests)

-- where the numbers are above one, it has no place
pub above_nowhere : (n c : ℕ) (ns : List ℕ) → AreAbove n ns → c ≤ n → place_of c ns ≡ None
above_nowhere n c [] h low = refl
above_nowhere n c (x ∷ ns) h low =
    let above : c < x = omega (arith, h.0) in
    ap (λ b. if b then Some 0 else next_place (place_of c ns)) (above_other x c above)
    ∙ ap next_place (above_nowhere x c ns h.1 (omega arith))

pub above_less : (n m : ℕ) (ns : List ℕ) → AreAbove n ns → m ≤ n → AreAbove m ns
above_less n m [] h low = tt
above_less n m (x ∷ ns) h low = let least : n < x = h.0 in (omega arith, h.1)

-- each is above what the first is above
pub above_at : (n : ℕ) (xs : List Call) (i : ℕ) (d : Call) → AreAbove n (numbers xs) → i < length xs → n < (get_or xs i d).number
above_at n [] i d h inside = absurd (omega arith)
above_at n (x ∷ xs) zero d h inside = h.0
above_at n (x ∷ xs) (suc i) d h inside =
    let further : x.number < (get_or xs i d).number = above_at x.number xs i d h.1 (omega arith) in omega (arith, h.0)

pub all_above : (n c : ℕ) (ns : List ℕ) → AreAbove n ns → c ≤ n → AllByRecursion (λ x. c < x) ns
all_above n c [] h low = tt
all_above n c (x ∷ ns) h low = let least : n < x = h.0 in (omega arith, all_above x c ns h.1 (omega arith))

pub low_numbers : (n c : ℕ) (xs : List Call) (i : ℕ) (d : Call) → AreAbove n (numbers xs) → i < length xs → (get_or xs i d).number < c → AllByRecursion (λ x. x < c) (take (suc i) (numbers xs))
low_numbers n c [] i d h inside low = absurd (omega arith)
low_numbers n c (x ∷ xs) zero d h inside low = (low, tt)
low_numbers n c (x ∷ xs) (suc i) d h inside low =
    let least : x.number < (get_or xs i d).number = above_at x.number xs i d h.1 (omega arith) in
    (omega arith, low_numbers x.number c xs i d h.1 (omega arith) low)

pub high_numbers : (n c : ℕ) (xs : List Call) (i : ℕ) (d : Call) → AreAbove n (numbers xs) → i < length xs → c < (get_or xs i d).number → AllByRecursion (λ x. c < x) (drop i (numbers xs))
high_numbers n c [] i d h inside high = absurd (omega arith)
high_numbers n c (x ∷ xs) zero d h inside high = (high, all_above x.number c (numbers xs) h.1 (omega arith))
high_numbers n c (x ∷ xs) (suc i) d h inside high = high_numbers x.number c xs i d h.1 (omega arith) high

-- the call at i has this number
pub found_place : (n c : ℕ) (xs : List Call) (i : ℕ) (d : Call) → AreAbove n (numbers xs) → i < length xs → (get_or xs i d).number ≡ c → place_of c (numbers xs) ≡ Some i
found_place n c [] i d h inside here = absurd (omega arith)
found_place n c (x ∷ xs) zero d h inside here =
    ap (λ b. if b then Some 0 else next_place (place_of c (numbers xs))) (eq-eqb x.number c here)
found_place n c (x ∷ xs) (suc i) d h inside here =
    let least : x.number < (get_or xs i d).number = above_at x.number xs i d h.1 (omega arith) in
    let below : x.number < c = omega arith in
    ap (λ b. if b then Some 0 else next_place (place_of c (numbers xs))) (below_other x.number c below)
    ∙ ap next_place (found_place x.number c xs i d h.1 (omega arith) here)

pub none_place : (c m : ℕ) (ns : List ℕ) → AllByRecursion (λ x. x < c) (take m ns) → AllByRecursion (λ x. c < x) (drop m ns) → place_of c ns ≡ None
none_place c m [] low high = refl
none_place c zero (x ∷ ns) low high =
    let above : c < x = high.0 in
    ap (λ b. if b then Some 0 else next_place (place_of c ns)) (above_other x c above)
    ∙ ap next_place (none_place c zero ns tt high.1)
none_place c (suc m) (x ∷ ns) low high =
    let below : x < c = low.0 in
    ap (λ b. if b then Some 0 else next_place (place_of c ns)) (below_other x c below)
    ∙ ap next_place (none_place c m ns low.1 high)

pub drop_numbers : (xs : List Call) → drop (length xs) (numbers xs) ≡ []
drop_numbers [] = refl
drop_numbers (x ∷ xs) = drop_numbers xs

-- the next place is one where there is a place
pub next_place-some : (o : Option ℕ) (i : ℕ) → next_place o ≡ Some i → (j : ℕ) × (o ≡ Some j) × (i ≡ suc j)
next_place-some None i e = cc
next_place-some (Some j) i e = (j, refl, (let f : suc j ≡ i = cc in sym f))

pub next_place-none : (o : Option ℕ) → next_place o ≡ None → o ≡ None
next_place-none None e = refl
next_place-none (Some j) e = cc

pub place_first : (c n : ℕ) (ns : List ℕ) → (n == c) ≡ true → place_of c (n ∷ ns) ≡ Some 0
place_first c n ns same = ap (λ b. if b then Some 0 else next_place (place_of c ns)) same

pub place_behind : (c n : ℕ) (ns : List ℕ) → (n == c) ≡ false → place_of c (n ∷ ns) ≡ next_place (place_of c ns)
place_behind c n ns other = ap (λ b. if b then Some 0 else next_place (place_of c ns)) other

-- a number that rises compares higher
compares : (c : ℕ) (n : ℕ) (xs : List Call) → AreAbove n (numbers xs) → IsNonDecreasingBy (λ (x : Call). ordering_index (nat_cmp x.number c)) xs
compares c n [] h i j d le inside = absurd (omega arith)
compares c n (x ∷ xs) h zero zero d le inside = omega arith
compares c n (x ∷ xs) h zero (suc j) d le inside =
    let higher : x.number < (get_or xs j d).number = above_at x.number xs j d h.1 (omega arith) in grind (arith, nat_tests)
compares c n (x ∷ xs) h (suc i) zero d le inside = absurd (omega arith)
compares c n (x ∷ xs) h (suc i) (suc j) d le inside = compares c x.number xs h.1 i j d (omega arith) (omega arith)

low_all : (c i : ℕ) (xs : List Call) → ((j : ℕ) (d : Call) → 0 ≤ j → j < i → nat_cmp (get_or xs j d).number c ≡ Less) → AllByRecursion (λ x. x < c) (take i (numbers xs))
low_all c zero [] h = tt
low_all c (suc i) [] h = tt
low_all c zero (x ∷ xs) h = tt
low_all c (suc i) (x ∷ xs) h = (ranked x.number c Less (sym (h 0 x (omega arith) (omega arith))), low_all c i xs (λ j d low up. h (suc j) d (omega arith) (omega arith)))

high_all : (c i : ℕ) (xs : List Call) → ((j : ℕ) (d : Call) → i ≤ j → j < length xs → nat_cmp (get_or xs j d).number c ≡ Greater) → AllByRecursion (λ x. c < x) (drop i (numbers xs))
high_all c zero [] h = tt
high_all c (suc i) [] h = tt
high_all c zero (x ∷ xs) h = (ranked x.number c Greater (sym (h 0 x (omega arith) (omega arith))), high_all c zero xs (λ j d low up. h (suc j) d (omega arith) (omega arith)))
high_all c (suc i) (x ∷ xs) h = high_all c i xs (λ j d low up. h (suc j) d (omega arith) (omega arith))

-- what a search by number finds
pub searched_place : (c : ℕ) (xs : List Call) (r : Result ℕ ℕ) → AreAbove 0 (numbers xs) → IsSearchInRange r (length xs) → IsBinarySearchResult (λ (x : Call). nat_cmp x.number c) xs r → result_ok r ≡ place_of c (numbers xs)
searched_place c [] (Ok i) above inside here = absurd (omega arith)
searched_place c (x ∷ xs) (Ok i) above inside here = sym (found_place 0 c (x ∷ xs) i x above inside (ranked (get_or (x ∷ xs) i x).number c Equal (sym (here x))))
searched_place c xs (Err i) above inside parts =
    let both = parts (compares c 0 xs above) in
    sym (none_place c i (numbers xs) (low_all c i xs both.0) (high_all c i xs both.1))

pub searched_within : (n : ℕ) (r : Result ℕ ℕ) → IsSearchInRange r n → IfSome (result_ok r) (λ i. i < n)
searched_within n (Ok i) inside = inside
searched_within n (Err i) inside = tt
