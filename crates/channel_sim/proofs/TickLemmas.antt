-- Ticks that rise, and where among them those from a tick on begin.
use Rattle.std.proofs.Common.{◌≡◌, ℕ, zero, suc, ◌<◌, ◌≤◌, List, [], ◌∷◌, length, get_or, ltb, leb, true, false, ◌≡◌, ◌+◌, take, drop, map, subst, arith}
use Rattle.std.specs.List.{AllByRecursion}
use Rattle.std.specs.List.Sorted.{IsNonDecreasingBy, IsPartitionPoint}
use Rattle.std.proofs.lemmas.Bool.{ltb-true, ltb-false, leb-true, leb-false}
use Rattle.channel_sim.specs.Tidy.{AreFrom}
use Rattle.channel_sim.specs.inner.Sends.{IsFirstFrom}
use Rattle.channel_sim.specs.inner.Sendings.{IsPlaceBehind}

-- the least comes first
pub from_below : {A : Type 0} (tick : A → ℕ) (n : ℕ) (fs : List A) (i : ℕ) (d : A) → AreFrom n (map tick fs) → i < length fs → n ≤ tick (get_or fs i d)
from_below tick n [] i d h inside = absurd (omega arith)
from_below tick n (x ∷ fs) zero d h inside = h.0
from_below tick n (x ∷ fs) (suc i) d h inside =
    let least : n ≤ tick x = h.0 in
    let further : tick x ≤ tick (get_or fs i d) = from_below tick (tick x) fs i d h.1 (omega arith) in omega arith

pub all_from : (n t : ℕ) (xs : List ℕ) → AreFrom n xs → t ≤ n → AllByRecursion (λ x. t ≤ x) xs
all_from n t [] h below = tt
all_from n t (x ∷ xs) h below =
    let least : n ≤ x = h.0 in (omega arith, all_from x t xs h.1 (omega arith))

-- all up to one below a tick are below it
pub low_part : {A : Type 0} (tick : A → ℕ) (n t : ℕ) (fs : List A) (i : ℕ) (d : A) → AreFrom n (map tick fs) → i < length fs → tick (get_or fs i d) < t → AllByRecursion (λ x. x < t) (take (suc i) (map tick fs))
low_part tick n t [] i d h inside low = absurd (omega arith)
low_part tick n t (x ∷ fs) zero d h inside low = (low, tt)
low_part tick n t (x ∷ fs) (suc i) d h inside low =
    let least : tick x ≤ tick (get_or fs i d) = from_below tick (tick x) fs i d h.1 (omega arith) in
    (omega arith, low_part tick (tick x) t fs i d h.1 (omega arith) low)

-- all from one on that is not below a tick are not below it
pub high_part : {A : Type 0} (tick : A → ℕ) (n t : ℕ) (fs : List A) (i : ℕ) (d : A) → AreFrom n (map tick fs) → i < length fs → t ≤ tick (get_or fs i d) → AllByRecursion (λ x. t ≤ x) (drop i (map tick fs))
high_part tick n t [] i d h inside high = absurd (omega arith)
high_part tick n t (x ∷ fs) zero d h inside high = (high, all_from (tick x) t (map tick fs) h.1 high)
high_part tick n t (x ∷ fs) (suc i) d h inside high = high_part tick (tick x) t fs i d h.1 (omega arith) high

-- none is later than the last
pub up_to_last : {A : Type 0} (tick : A → ℕ) (n t : ℕ) (fs : List A) (i : ℕ) (d : A) → AreFrom n (map tick fs) → length fs ≡ suc i → tick (get_or fs i d) ≤ t → AllByRecursion (λ x. x ≤ t) (map tick fs)
up_to_last tick n t [] i d h count low = tt
up_to_last tick n t (x ∷ []) zero d h count low = (low, tt)
up_to_last tick n t (x ∷ y ∷ fs) zero d h count low = absurd (omega arith)
up_to_last tick n t (x ∷ fs) (suc i) d h count low =
    let least : tick x ≤ tick (get_or fs i d) = from_below tick (tick x) fs i d h.1 (omega arith) in
    (omega arith, up_to_last tick (tick x) t fs i d h.1 (omega arith) low)

-- behind the last there is none
pub past_part : {A : Type 0} (tick : A → ℕ) (t : ℕ) (fs : List A) (i : ℕ) → length fs ≤ i → AllByRecursion (λ x. t ≤ x) (drop i (map tick fs))
past_part tick t [] zero past = tt
past_part tick t [] (suc i) past = tt
past_part tick t (x ∷ fs) zero past = absurd (omega arith)
past_part tick t (x ∷ fs) (suc i) past = past_part tick t fs i (omega arith)

pub never_fall : {A : Type 0} (tick : A → ℕ) (n : ℕ) (fs : List A) → AreFrom n (map tick fs) → IsNonDecreasingBy tick fs
never_fall tick n [] h i j d le inside = absurd (omega arith)
never_fall tick n (x ∷ fs) h zero zero d le inside = omega arith
never_fall tick n (x ∷ fs) h zero (suc j) d le inside = from_below tick (tick x) fs j d h.1 (omega arith)
never_fall tick n (x ∷ fs) h (suc i) zero d le inside = absurd (omega arith)
never_fall tick n (x ∷ fs) h (suc i) (suc j) d le inside = never_fall tick (tick x) fs h.1 i j d (omega arith) (omega arith)

-- no place among none
none_first : (t i : ℕ) → IsFirstFrom t i []
none_first t zero = record { before = tt; behind = tt }
none_first t (suc i) = record { before = tt; behind = tt }

-- up to a place all are below a tick, and from it on none is
pub split : {A : Type 0} (tick : A → ℕ) (t i : ℕ) (fs : List A) → IsPartitionPoint (λ s. ltb (tick s) t ≡ true) (λ s. ltb (tick s) t ≡ false) fs i → IsFirstFrom t i (map tick fs)
split tick t i [] h = none_first t i
split tick t zero (x ∷ fs) h =
    let rest = split tick t zero fs (λ j d low up. absurd (omega arith), λ j d low up. h.1 (suc j) d (omega arith) (omega arith)) in
    record { before = tt; behind = (ltb-false (tick x) t (h.1 0 x (omega arith) (omega arith)), rest.behind) }
split tick t (suc i) (x ∷ fs) h =
    let rest = split tick t i fs (λ j d low up. h.0 (suc j) d (omega arith) (omega arith), λ j d low up. h.1 (suc j) d (omega arith) (omega arith)) in
    record { before = (ltb-true (tick x) t (h.0 0 x (omega arith) (omega arith)), rest.before); behind = rest.behind }

-- the same behind a place in front of which all are below
pub parted : {A : Type 0} (tick : A → ℕ) (t begin i : ℕ) (fs : List A) → AllByRecursion (λ x. x < t) (take begin (map tick fs)) → IsPartitionPoint (λ s. ltb (tick s) t ≡ true) (λ s. ltb (tick s) t ≡ false) (drop begin fs) i → IsFirstFrom t (begin + i) (map tick fs)
parted tick t zero i fs front h =
    let e : i ≡ 0 + i = omega arith in
    subst (λ n. IsFirstFrom t n (map tick fs)) e (split tick t i fs h)
parted tick t (suc begin) i [] front h = none_first t (suc begin + i)
parted tick t (suc begin) i (x ∷ fs) front h =
    let rest = parted tick t begin i fs front.1 h in
    let e : suc (begin + i) ≡ suc begin + i = omega arith in
    subst (λ n. IsFirstFrom t n (map tick (x ∷ fs))) e (record { before = (front.0, rest.before); behind = rest.behind })

-- no place among none, behind those up to a tick
none_behind : (t i : ℕ) → IsPlaceBehind t i []
none_behind t zero = record { before = tt; behind = tt }
none_behind t (suc i) = record { before = tt; behind = tt }

-- up to a place all came by a tick, and from it on all are later
pub split_behind : {A : Type 0} (tick : A → ℕ) (t i : ℕ) (fs : List A) → IsPartitionPoint (λ s. leb (tick s) t ≡ true) (λ s. leb (tick s) t ≡ false) fs i → IsPlaceBehind t i (map tick fs)
split_behind tick t i [] h = none_behind t i
split_behind tick t zero (x ∷ fs) h =
    let rest = split_behind tick t zero fs (λ j d low up. absurd (omega arith), λ j d low up. h.1 (suc j) d (omega arith) (omega arith)) in
    record { before = tt; behind = (leb-false (tick x) t (h.1 0 x (omega arith) (omega arith)), rest.behind) }
split_behind tick t (suc i) (x ∷ fs) h =
    let rest = split_behind tick t i fs (λ j d low up. h.0 (suc j) d (omega arith) (omega arith), λ j d low up. h.1 (suc j) d (omega arith) (omega arith)) in
    record { before = (leb-true (tick x) t (h.0 0 x (omega arith) (omega arith)), rest.before); behind = rest.behind }

-- all came by this tick: the place is behind them
pub behind_all : {A : Type 0} (tick : A → ℕ) (t : ℕ) (fs : List A) → AllByRecursion (λ x. x ≤ t) (map tick fs) → IsPlaceBehind t (length fs) (map tick fs)
behind_all tick t [] h = none_behind t 0
behind_all tick t (x ∷ fs) h =
    let rest = behind_all tick t fs h.1 in
    record { before = (h.0, rest.before); behind = rest.behind }
