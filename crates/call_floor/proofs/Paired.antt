-- Vehicles that are kept, one for one, in one relation before a change and in another one behind it.
use Rattle.std.proofs.Common.{◌≡◌, ℕ, zero, suc, List, [], ◌∷◌, ◌<◌, ◌≤◌, Some, length, get_or, set, if◌then◌else◌, refl, ap, sym, ◌∙◌, subst, arith, eq-eqb, ne_eqb}
use Rattle.std.specs.List.{AllByRecursion}
use Rattle.channel_sim.specs.Tidy.{AreAbove}
use Rattle.call_floor.specs.declared.seat.Seat as kept_seat
use Rattle.call_floor.specs.Floor.{Floor, Stand, stand_of, own}
use Rattle.call_floor.specs.inner.Changes.{ArePaired}
use Rattle.call_floor.specs.inner.FloorAt.{Relation, SeatIs, SeatsAre, FloorIs, numbers_of}

-- Each vehicle is found by its number.

abbrev pub FoundIn : List Stand → List Stand → Type 0
FoundIn all ss = AllByRecursion (λ (s : Stand). stand_of s.number all ≡ Some s) ss

found_behind : (first : Stand) (all : List Stand) (n : ℕ) (ss : List Stand) → first.number ≤ n → AreAbove n (numbers_of ss) → FoundIn all ss → FoundIn (first ∷ all) ss
found_behind first all n [] low order h = tt
found_behind first all n (s ∷ ss) low order h =
    let up : n < s.number = order.0 in
    (ap (λ b. if b then Some first else stand_of s.number all) (ne_eqb first.number s.number (λ e. omega (arith, e))) ∙ h.0, found_behind first all s.number ss (omega arith) order.1 h.1)

pub found_all : (n : ℕ) (ss : List Stand) → AreAbove n (numbers_of ss) → FoundIn ss ss
found_all n [] order = tt
found_all n (s ∷ ss) order =
    (ap (λ b. if b then Some s else stand_of s.number ss) (eq-eqb s.number s.number refl), found_behind s ss s.number ss (omega arith) order.1 (found_all s.number ss order.1))

-- what becomes of each, of the same numbers, on another floor
module _ (P : kept_seat.Seat → kept_seat.Seat → Type 0) (R Q : Relation) (w u : Floor) (named : (x y : kept_seat.Seat) → P x y → y.number ≡ x.number) (one : (x y : kept_seat.Seat) (s t : Stand) → P x y → s.number ≡ x.number → s.number ≡ t.number → stand_of s.number w.stands ≡ Some s → stand_of t.number u.stands ≡ Some t → R s.number x (own w s) → Q t.number y (own u t)) where
  lift : (xs ys : List kept_seat.Seat) (ss ts : List Stand) → ArePaired P xs ys → numbers_of ts ≡ numbers_of ss → FoundIn w.stands ss → FoundIn u.stands ts → SeatsAre R w xs ss → SeatsAre Q u ys ts
  lift [] [] [] [] p same a b h = tt
  lift [] [] [] (t ∷ ts) p same a b h = cc
  lift [] [] (s ∷ ss) ts p same a b h = absurd h
  lift [] (y ∷ ys) ss ts p same a b h = absurd p
  lift (x ∷ xs) [] ss ts p same a b h = absurd p
  lift (x ∷ xs) (y ∷ ys) [] ts p same a b h = absurd h
  lift (x ∷ xs) (y ∷ ys) (s ∷ ss) [] p same a b h = cc
  lift (x ∷ xs) (y ∷ ys) (s ∷ ss) (t ∷ ts) p same a b h =
      let first : SeatIs R w x s = h.0 in
      let number : t.number ≡ s.number = cc in
      let others : numbers_of ts ≡ numbers_of ss = cc in
      (record { number = number ∙ first.number ∙ sym (named x y p.0); world = one x y s t p.0 first.number (sym number) a.0 b.0 first.world }, lift xs ys ss ts p.1 others a.1 b.1 h.1)

  pub paired : (xs ys : List kept_seat.Seat) → ArePaired P xs ys → numbers_of u.stands ≡ numbers_of w.stands → FloorIs R xs w → FloorIs Q ys u
  paired xs ys p same h =
      let order : AreAbove 0 (numbers_of u.stands) = subst (AreAbove 0) (sym same) h.order in
      record { order = order; seats = lift xs ys w.stands u.stands p same (found_all 0 w.stands h.order) (found_all 0 u.stands order) h.seats }

-- each is as it was
abbrev pub IsSame : kept_seat.Seat → kept_seat.Seat → Type 0
IsSame x y = y ≡ x

pub same_paired : (xs : List kept_seat.Seat) → ArePaired IsSame xs xs
same_paired [] = tt
same_paired (x ∷ xs) = (refl, same_paired xs)

-- The first ones, so many, are changed, and the others are as they were.

abbrev pub Changed : (kept_seat.Seat → kept_seat.Seat → Type 0) → ℕ → (old new : List kept_seat.Seat) → Type 0
Changed P zero xs ys = ys ≡ xs
Changed P (suc i) [] ys = ys ≡ []
Changed P (suc i) (x ∷ xs) [] = ⊥
Changed P (suc i) (x ∷ xs) (y ∷ ys) = P x y × Changed P i xs ys

nil_change : (P : kept_seat.Seat → kept_seat.Seat → Type 0) (i : ℕ) (ys : List kept_seat.Seat) → Changed P i [] ys → ys ≡ []
nil_change P zero ys h = h
nil_change P (suc i) ys h = h

pub change_more : (P : kept_seat.Seat → kept_seat.Seat → Type 0) (i : ℕ) (xs ys : List kept_seat.Seat) (x y : kept_seat.Seat) → Changed P i xs ys → i < length ys → x ≡ get_or ys i x → P x y → Changed P (suc i) xs (set ys i y)
change_more P i xs [] x y h low at p = absurd (omega arith)
change_more P zero [] (z ∷ zs) x y h low at p = cc
change_more P zero (q ∷ qs) (z ∷ zs) x y h low at p =
    let first : z ≡ q = cc in
    let rest : zs ≡ qs = cc in
    (subst (λ (a : kept_seat.Seat). P a y) (at ∙ first) p, rest)
change_more P (suc i) [] (z ∷ zs) x y h low at p = cc
change_more P (suc i) (q ∷ qs) (z ∷ zs) x y h low at p = (h.0, change_more P i qs zs x y h.1 (omega arith) at p)

pub change_all : (P : kept_seat.Seat → kept_seat.Seat → Type 0) (i : ℕ) (xs ys : List kept_seat.Seat) → length ys ≤ i → Changed P i xs ys → ArePaired P xs ys
change_all P i [] [] low h = tt
change_all P i [] (y ∷ ys) low h = let none = nil_change P i (y ∷ ys) h in cc
change_all P zero (x ∷ xs) [] low h = cc
change_all P zero (x ∷ xs) (y ∷ ys) low h = absurd (omega arith)
change_all P (suc i) (x ∷ xs) [] low h = absurd h
change_all P (suc i) (x ∷ xs) (y ∷ ys) low h = (h.0, change_all P i xs ys (omega arith) h.1)

pub change_length : (P : kept_seat.Seat → kept_seat.Seat → Type 0) (i : ℕ) (xs ys : List kept_seat.Seat) → Changed P i xs ys → length ys ≡ length xs
change_length P zero xs ys h = ap length h
change_length P (suc i) [] ys h = ap length h
change_length P (suc i) (x ∷ xs) [] h = absurd h
change_length P (suc i) (x ∷ xs) (y ∷ ys) h = ap suc (change_length P i xs ys h.1)
