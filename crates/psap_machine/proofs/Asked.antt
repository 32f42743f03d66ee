-- Lemmas on the requests that were asked and on the sets that were shown.
use Rattle.std.proofs.Common.{◌≡◌, ◌+◌, ℕ, Bool, true, false, List, [], ◌∷◌, length, nat_le, nat_lt, refl, ap, arith}
use Rattle.std.specs.Prelude.{◌||◌, ◌&&◌, ◌==◌, Option, Some, None}
use Rattle.std.proofs.lemmas.Bool.{false≢true}
use Rattle.std.proofs.lemmas.Bool.Decides.{nat_tests}
use Rattle.link_frames.specs.Legs.{Kept}
use Rattle.link_frames.specs.Owes.{HasSet, set_for, or_else}
use Rattle.link_frames.specs.Requests.{is_among}
use Rattle.psap_machine.specs.Point.{greatest, requests_of}
use Rattle.psap_machine.specs.PointKept.{AreInTurn, AreShown, IsLast}

-- a request is among those that it heads
pub head_among : (r : ℕ) (rs : List ℕ) → is_among r (r ∷ rs) ≡ true
head_among r rs = grind (arith, nat_tests)

-- what was asked is still asked
pub still_among : (q r : ℕ) (rs : List ℕ) → is_among r rs ≡ true → is_among r (q ∷ rs) ≡ true
still_among q r rs h = grind (arith, nat_tests)

pub last_among : (r : ℕ) (rs : List ℕ) → IsLast r rs → is_among r rs ≡ true
last_among r [] h = absurd h
last_among r (q ∷ qs) h = grind (arith, nat_tests)

-- of requests asked in turn the greatest is their number
pub greatest_is : (rs : List ℕ) → AreInTurn rs → greatest rs ≡ length rs
greatest_is [] h = refl
greatest_is (r ∷ rs) h = grind (arith, greatest_is rs h.2)

-- and exactly those up to the greatest were asked
pub asked_up_to : (rs : List ℕ) (r : ℕ) → AreInTurn rs → is_among r rs ≡ (nat_lt 0 r && nat_le r (greatest rs))
asked_up_to [] r h = grind (arith, nat_tests)
asked_up_to (q ∷ rs) r h = grind (arith, nat_tests, asked_up_to rs r h.2, greatest_is rs h.2)

-- a set was shown for each request that is among those shown
pub has_set : (r : ℕ) (sets : List Kept) → is_among r (requests_of sets) ≡ true → HasSet r sets
has_set r [] h = absurd (false≢true h)
has_set r (set ∷ sets) h = by (set_for r sets) (set.0 == r) (λ n. has_set r sets n) h
  where
    by : (x : Option (List ℕ)) (b : Bool)
        → (is_among r (requests_of sets) ≡ true → (o : List ℕ) × (x ≡ Some o))
        → (b || is_among r (requests_of sets)) ≡ true
        → (o : List ℕ) × (or_else x b set.1 ≡ Some o)
    by (Some o) b rec h = (o, refl)
    by None true rec h = (set.1, refl)
    by None false rec h = let x : (o : List ℕ) × (None ≡ Some o) = rec h in cc

-- a set that was shown is so also once another request was asked
pub still_shown : (q : ℕ) (asked : List ℕ) (sets : List Kept) → AreShown asked sets → AreShown (q ∷ asked) sets
still_shown q asked [] h = tt
still_shown q asked (set ∷ sets) h = (still_among q set.0 asked h.0, h.1, still_shown q asked sets h.2)

-- the next request was not asked yet
pub next_new : (asked : List ℕ) → AreInTurn asked → is_among (greatest asked + 1) asked ≡ false
next_new asked h = grind (arith, nat_tests, asked_up_to asked (greatest asked + 1) h)

pub next_in_turn : (asked : List ℕ)
    → AreInTurn asked
    → nat_lt (greatest asked) 255 ≡ true
    → AreInTurn ((greatest asked + 1) ∷ asked)
next_in_turn asked h below = (ap (λ n. n + 1) (greatest_is asked h), grind (arith, nat_tests), h)
