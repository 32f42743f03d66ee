-- A vehicle takes its place among those that are kept.
use Rattle.std.proofs.Common.{ℕ, zero, suc, List, [], ◌∷◌, ◌++◌, ◌<◌, ◌≤◌, IfSome, length, slice_get, take, drop, if◌then◌else◌, sym, subst, arith}
use Rattle.std.proofs.lemmas.Bool.{lt-ltb, le-ltb}
use Rattle.std.specs.List.{AllByRecursion}
use Rattle.call_floor.specs.declared.seat.Seat as kept_seat
use Rattle.call_floor.specs.Floor.{Stand, floor_with, joined}
use Rattle.call_floor.specs.FloorStands.{SeatStandsFor, SeatsStandFor}

-- the others' own worlds don't change
others_stand : (all more : List Stand) (xs : List kept_seat.Seat) (ss : List Stand) → SeatsStandFor (floor_with all) xs ss → SeatsStandFor (floor_with more) xs ss
others_stand all more [] [] h = tt
others_stand all more [] (s ∷ ss) h = absurd h
others_stand all more (x ∷ xs) [] h = absurd h
others_stand all more (x ∷ xs) (s ∷ ss) h =
    let one : SeatStandsFor (floor_with all) x s = h.0 in
    (record { number = one.number; world = one.world }, others_stand all more xs ss h.1)

pub joined_all : (all more : List Stand) (s : Stand) (y : kept_seat.Seat) (i : ℕ) (xs : List kept_seat.Seat) (ss : List Stand) → SeatStandsFor (floor_with more) y s → SeatsStandFor (floor_with all) xs ss → AllByRecursion (λ x. x.number ≤ s.number) (take i xs) → IfSome (slice_get xs i) (λ x. s.number < x.number) → i ≤ length xs → SeatsStandFor (floor_with more) (take i xs ++ y ∷ drop i xs) (joined s ss)
joined_all all more s y zero [] [] one h front next low = (one, tt)
joined_all all more s y (suc i) [] [] one h front next low = absurd (omega arith)
joined_all all more s y i [] (t ∷ ts) one h front next low = absurd h
joined_all all more s y i (x ∷ xs) [] one h front next low = absurd h
joined_all all more s y zero (x ∷ xs) (t ∷ ts) one h front next low =
    let first : SeatStandsFor (floor_with all) x t = h.0 in
    let lower : s.number < t.number = omega (arith, next, first.number) in
    subst (λ b. SeatsStandFor (floor_with more) (y ∷ x ∷ xs) (if b then s ∷ t ∷ ts else t ∷ joined s ts)) (sym (lt-ltb s.number t.number lower))
    (one, others_stand all more (x ∷ xs) (t ∷ ts) h)
joined_all all more s y (suc i) (x ∷ xs) (t ∷ ts) one h front next low =
    let first : SeatStandsFor (floor_with all) x t = h.0 in
    let higher : t.number ≤ s.number = omega (arith, front.0, first.number) in
    subst (λ b. SeatsStandFor (floor_with more) (x ∷ (take i xs ++ y ∷ drop i xs)) (if b then s ∷ t ∷ ts else t ∷ joined s ts)) (sym (le-ltb s.number t.number higher))
    (record { number = first.number; world = first.world }, joined_all all more s y i xs ts one h.1 front.1 next (omega arith))
