-- Where the newlines of a block stand.
use Rattle.std.proofs.Common.{◌≡◌, ℕ, zero, suc, ◌+◌, ◌-◌, ◌<◌, ◌≤◌, Bool, true, false, List, [], ◌∷◌, length, take, drop, get_or, Option, Some, None, refl, sym, ap, ◌∙◌, inl, inr, arith, length-take}
use Rattle.std.specs.Prelude.{nat_lt, ◌||◌, ◌&&◌}
use Rattle.std.specs.List.{list_any, slice_range, position_or_len}
use Rattle.std.specs.Option.{unwrap_or}
use Rattle.std.proofs.lemmas.Bool.{lt-ltb, ltb-true, cases_lt, false_from_ne_true}
use Rattle.std.proofs.lemmas.List.{drop-take}
use Rattle.std.proofs.lemmas.List.Folds.{list_any_at}
use Rattle.std.proofs.lemmas.List.Sums.{position_or_len_is}
use Rattle.memchr.specs.Find.{IsFirstByte, IsLastByte, is_byte}
use Rattle.line_input.specs.Characters.{newline, is_newline}
use Rattle.line_input.specs.Reading.{may_begin_line, begins_line, begins_with_line}
use Rattle.line_input.specs.inner.Lending.{EndsLines}
use Rattle.line_input.proofs.FeedLemmas.{slice_range-cons, slice_range-empty}

-- no newline stands from a place on
none_behind : (xs : List ℕ) (k : ℕ) → ((j : ℕ) → k ≤ j → j < length xs → is_newline (get_or xs j 0) ≡ true → ⊥) → list_any is_newline (drop k xs) ≡ false
none_behind [] zero none = refl
none_behind [] (suc k) none = refl
none_behind (x ∷ xs) zero none = by_first (is_newline x) refl (λ first. none_behind xs zero (λ j low inside at. none (suc j) (omega arith) (omega (arith, inside)) at))
  where
    by_first : (t : Bool) → is_newline x ≡ t → (is_newline x ≡ false → list_any is_newline (drop zero xs) ≡ false) → (is_newline x || list_any is_newline xs) ≡ false
    by_first true e rest = absurd (none zero (omega arith) (omega arith) e)
    by_first false e rest = rw e (rest e)
none_behind (x ∷ xs) (suc k) none = none_behind xs k (λ j low inside at. none (suc j) (omega (arith, low)) (omega (arith, inside)) at)

-- one does
some_behind : (xs : List ℕ) (k j : ℕ) → k ≤ j → j < length xs → is_newline (get_or xs j 0) ≡ true → list_any is_newline (drop k xs) ≡ true
some_behind xs zero j low inside at = list_any_at is_newline xs j 0 inside at
some_behind [] (suc k) j low inside at = absurd (omega arith)
some_behind (x ∷ xs) (suc k) zero low inside at = absurd (omega arith)
some_behind (x ∷ xs) (suc k) (suc j) low inside at = some_behind xs k j (omega arith) (omega arith) at

not_below : (m n : ℕ) → n ≤ m → nat_lt m n ≡ false
not_below m n past = false_from_ne_true (nat_lt m n) (λ e. let below : m < n = ltb-true m n e in absurd (omega arith))

-- the place behind the last newline
pub behind_last : (xs : List ℕ) (at : ℕ) → IsLastByte (is_byte newline) xs (Some at) → (k : ℕ) → k ≤ length xs → nat_lt k (at + 1) ≡ list_any is_newline (drop k xs)
behind_last xs at last k most = elim (cases_lt k (at + 1)) as (λ _. nat_lt k (at + 1) ≡ list_any is_newline (drop k xs)) [
  | inl below ↦ lt-ltb k (at + 1) below ∙ sym (some_behind xs k at (omega (arith, below)) last.0.high last.1)
  | inr past ↦ not_below k (at + 1) past ∙ sym (none_behind xs k (λ j low inside is. last.0.after j (omega (arith, past, low)) inside is))
]

pub behind_none : (xs : List ℕ) → IsLastByte (is_byte newline) xs None → (k : ℕ) → k ≤ length xs → nat_lt k 0 ≡ list_any is_newline (drop k xs)
behind_none xs nowhere k most = not_below k 0 (omega arith) ∙ sym (none_behind xs k (λ j low inside is. nowhere j (omega arith) inside is))

-- the first newline
pub first_or_end : (xs : List ℕ) (r : Option ℕ) → IsFirstByte (is_byte newline) xs r → unwrap_or r (length xs) ≡ position_or_len is_newline xs
first_or_end xs None nowhere =
    sym (position_or_len_is is_newline xs (length xs) 0 (omega arith)
    (λ k inside. false_from_ne_true (is_newline (get_or xs k 0)) (λ e. nowhere k (omega arith) inside e))
    (λ beyond. absurd (omega arith)))
first_or_end xs (Some at) first =
    sym (position_or_len_is is_newline xs at 0 (let inside = first.0.high in omega arith)
    (λ k before. false_from_ne_true (is_newline (get_or xs k 0)) (λ e. first.0.before k (omega arith) before e))
    (λ inside. first.1))

-- a block that was read
pub EndsLines-read : (block : List ℕ) (count here : ℕ) → count ≤ length block
    → ((k : ℕ) → k ≤ length (take count block) → nat_lt k here ≡ list_any is_newline (drop k (take count block))) → EndsLines block 0 count here
EndsLines-read block count here within last k low most =
    let long : k ≤ length (take count block) = omega (arith, length-take count block, within, most) in
    let whole : count ≡ k + (count - k) = omega (arith, most) in
    last k long ∙ ap (list_any is_newline) (ap (λ n. drop k (take n block)) whole ∙ drop-take k (count - k) block)

-- where no byte is at hand, whatever the block has
pub EndsLines-none : (block : List ℕ) (at end here : ℕ) → end ≤ at → here ≤ end → EndsLines block at end here
EndsLines-none block at end here past few k low most =
    not_below k here (omega (arith, past, few, low)) ∙ sym (ap (list_any is_newline) (slice_range-empty block k end (omega (arith, past, low))))

-- whether a line is at hand
pub line_at : (block : List ℕ) (at end here : ℕ) → EndsLines block at end here → at ≤ end → end ≤ length block → here ≤ end → at < here
    → may_begin_line (get_or block at 0) ≡ begins_with_line (slice_range block at end)
line_at block at end here lines order within most before =
    let some : list_any is_newline (slice_range block at end) ≡ true = sym (lines at (omega arith) order) ∙ lt-ltb at here before in
    sym (ap (λ t. t && begins_line (slice_range block at end)) some ∙ ap begins_line (slice_range-cons block at end (omega arith) within))

pub no_line_at : (block : List ℕ) (at end here : ℕ) → EndsLines block at end here → at ≤ end → here ≤ at → false ≡ begins_with_line (slice_range block at end)
no_line_at block at end here lines order past =
    let none : list_any is_newline (slice_range block at end) ≡ false = sym (lines at (omega arith) order) ∙ not_below at here past in
    sym (ap (λ t. t && begins_line (slice_range block at end)) none)
