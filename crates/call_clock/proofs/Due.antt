-- What `due_of` says of timers, and how a walk over the ranks finds it.
use Rattle.std.proofs.Common.{◌≡◌, ◌≤◌, ◌<◌, ℕ, Bool, true, false, cond, List, [], ◌∷◌, ◌++◌, Option, Some, None, ◌+◌, ◌-◌, refl, ap, ◌∙◌, arith, length, get_or, take, min, IfSome, IsSome, IsNone, replicate, nat_le, subst}
use Rattle.std.specs.List.{AllByRecursion, position_from}
use Rattle.std.proofs.lemmas.List.{take_more, map-append}
use Rattle.std.proofs.lemmas.Bool.{lt-leb, le-leb, leb-false}
use Rattle.call_clock.specs.Timers.{Place, all_aged, is_at_end, first_at_end, left_at, sooner, due_of, none_running}
use Rattle.call_clock.specs.declared.timers.Timer.{Timer}
use Rattle.call_clock.specs.Clock.{seen, all_seen}
use Rattle.call_clock.proofs.Clock.{Leaves}

sooner-None : (a : Option ℕ) → sooner a None ≡ a
sooner-None None = refl
sooner-None (Some a) = refl

sooner_assoc : (a b c : Option ℕ) → sooner a (sooner b c) ≡ sooner (sooner a b) c
sooner_assoc None b c = refl
sooner_assoc (Some a) None c = refl
sooner_assoc (Some a) (Some b) None = refl
sooner_assoc (Some a) (Some b) (Some c) = ap (λ n. Some n) (omega arith)

due_of_push : (places : List Place) (place : Place) → due_of (places ++ place ∷ []) ≡ sooner (due_of places) (left_at place)
due_of_push [] place = sooner-None (left_at place)
due_of_push (p ∷ places) place =
    ap (sooner (left_at p)) (due_of_push places place) ∙ sooner_assoc (left_at p) (due_of places) (left_at place)

-- one rank more
pub due_of_more : (now : ℕ) (places : List (Option Timer)) (i : ℕ) (d : Option Timer) → i < length places
    → due_of (all_seen now (take (i + 1) places)) ≡ sooner (due_of (all_seen now (take i places))) (left_at (seen now (get_or places i d)))
due_of_more now places i d h =
    rw (take_more places i d h, map-append (seen now)) (due_of_push (all_seen now (take i places)) (seen now (get_or places i d)))

-- No place has fewer ticks left than the soonest.
sooner_left : (n : ℕ) (a b : Option ℕ) → IfSome (sooner a b) (λ due. n ≤ due) → IfSome a (λ due. n ≤ due)
sooner_left n None b h = _
sooner_left n (Some a) None h = h
sooner_left n (Some a) (Some b) h = omega arith

sooner_right : (n : ℕ) (a b : Option ℕ) → IfSome (sooner a b) (λ due. n ≤ due) → IfSome b (λ due. n ≤ due)
sooner_right n None b h = h
sooner_right n (Some a) None h = _
sooner_right n (Some a) (Some b) h = omega arith

pub due_leaves : (n : ℕ) (places : List Place) → IfSome (due_of places) (λ due. n ≤ due) → AllByRecursion (Leaves n) places
due_leaves n [] h = tt
due_leaves n (place ∷ places) h =
    (sooner_left n (left_at place) (due_of places) h, due_leaves n places (sooner_right n (left_at place) (due_of places) h))

-- Before no ticks are left, a timer is not at its end.
not_at_end : (lasts elapsed n k : ℕ) → n ≤ lasts - elapsed → k < n → nat_le lasts (elapsed + k) ≡ false
not_at_end lasts elapsed n k h lt = lt-leb lasts (elapsed + k) (omega arith)

none_at_end : (n k rank : ℕ) (places : List Place) → AllByRecursion (Leaves n) places → k < n
    → position_from is_at_end rank (all_aged k places) ≡ None
none_at_end n k rank [] h lt = refl
none_at_end n k rank (None ∷ places) h lt = none_at_end n k (rank + 1) places h.1 lt
none_at_end n k rank (Some timer ∷ places) h lt =
    rw (not_at_end timer.lasts timer.elapsed n k h.0 lt) (none_at_end n k (rank + 1) places h.1 lt)

before_at : (places : List Place) (due : Option ℕ) → due ≡ due_of places
    → IfSome due (λ n. (k : ℕ) → k < n → first_at_end (all_aged k places) ≡ None)
before_at places None is = _
before_at places (Some n) is =
    λ k lt. none_at_end n k 0 places (due_leaves n places (subst (λ (due : Option ℕ). IfSome due (λ d. n ≤ d)) is (omega arith))) lt

pub before_due : (places : List Place) → IfSome (due_of places) (λ n. (k : ℕ) → k < n → first_at_end (all_aged k places) ≡ None)
before_due places = before_at places (due_of places) refl

-- Once no ticks are left, it is.
some_unless : (b : Bool) (rank : ℕ) (next : Option ℕ) → (b ≡ false → IsSome next) → IsSome (cond b (Some rank) next)
some_unless true rank next h = refl
some_unless false rank next h = h refl

at_end : (lasts elapsed n rank : ℕ) (next : Option ℕ) → lasts ≤ elapsed + n → IsSome (cond (nat_le lasts (elapsed + n)) (Some rank) next)
at_end lasts elapsed n rank next h = rw (le-leb lasts (elapsed + n) h)

-- where it is not, another timer has fewer ticks left
later : (lasts elapsed m : ℕ) → nat_le lasts (elapsed + min (lasts - elapsed) m) ≡ false → min (lasts - elapsed) m ≡ m
later lasts elapsed m early = omega (arith, leb-false lasts (elapsed + min (lasts - elapsed) m) early)

at_sooner : (lasts elapsed rank : ℕ) (places : List Place) (due : Option ℕ)
    → IfSome due (λ n. IsSome (position_from is_at_end (rank + 1) (all_aged n places)))
    → IfSome (sooner (Some (lasts - elapsed)) due) (λ n. IsSome (cond (nat_le lasts (elapsed + n)) (Some rank) (position_from is_at_end (rank + 1) (all_aged n places))))
at_sooner lasts elapsed rank places None h = at_end lasts elapsed (lasts - elapsed) rank _ (omega arith)
at_sooner lasts elapsed rank places (Some m) h =
    some_unless (nat_le lasts (elapsed + min (lasts - elapsed) m)) rank _ (λ early. rw (later lasts elapsed m early) h)

at_due_from : (rank : ℕ) (places : List Place) → IfSome (due_of places) (λ n. IsSome (position_from is_at_end rank (all_aged n places)))
at_due_from rank [] = _
at_due_from rank (None ∷ places) = at_due_from (rank + 1) places
at_due_from rank (Some timer ∷ places) =
    at_sooner timer.lasts timer.elapsed rank places (due_of places) (at_due_from (rank + 1) places)

pub at_due : (places : List Place) → IfSome (due_of places) (λ n. IsSome (first_at_end (all_aged n places)))
at_due places = at_due_from 0 places

-- Where nothing is due, no timer runs.
some_sooner : (a : ℕ) (b : Option ℕ) → IsNone (sooner (Some a) b) → ⊥
some_sooner a None h = cc
some_sooner a (Some b) h = cc

pub none_due : (places : List Place) → IsNone (due_of places) → places ≡ replicate (length places) None
none_due [] h = refl
none_due (None ∷ places) h = ap (λ (ps : List Place). None ∷ ps) (none_due places h)
none_due (Some timer ∷ places) h = absurd (some_sooner (timer.lasts - timer.elapsed) (due_of places) h)

pub none_due_is : (places : List Place) → length places ≡ 8
    → (IsNone (due_of places) → places ≡ none_running) × (places ≡ none_running → IsNone (due_of places))
none_due_is places eight =
    (λ h. subst (λ (n : ℕ). places ≡ replicate n None) eight (none_due places h), λ e. rw e refl)
