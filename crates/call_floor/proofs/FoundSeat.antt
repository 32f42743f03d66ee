-- Which vehicle stands at the place that a search of its number gives, and for which one a call number was drawn.
use Rattle.std.proofs.Common.{◌≡◌, ◌≢◌, ℕ, zero, suc, List, [], ◌∷◌, ◌<◌, ◌≤◌, Some, None, IfSome, length, get_or, slice_get, if◌then◌else◌, refl, ap, sym, ◌∙◌, arith, ne_eqb}
use Rattle.std.specs.List.{AllByRecursion}
use Rattle.channel_sim.specs.World.{World, Step}
use Rattle.channel_sim.specs.WorldStands.{NeedsCall}
use Rattle.call_floor.specs.declared.event.CallLine.{CallLine}
use Rattle.call_floor.specs.declared.event.CallLine.TheVariants as call_line
use Rattle.call_floor.specs.declared.seat.Seat as kept_seat
use Rattle.call_floor.specs.Floor.{Floor, Stand, quiet_floor, stand_of, turn, turn_in}
use Rattle.call_floor.specs.FloorEvents.{call_event}
use Rattle.call_floor.specs.FloorLines.{drawn_for}
use Rattle.call_floor.specs.inner.FloorAt.{Relation, SeatIs, SeatsAre, numbers_of}
use Rattle.call_floor.specs.inner.Subjects.{IsTurn, subject}

pub is_seat : (R : Relation) (w : Floor) (xs : List kept_seat.Seat) (ss : List Stand) (i v : ℕ) → SeatsAre R w xs ss → IfSome (slice_get xs i) (λ x. x.number ≡ v) → i < length xs → get_or (numbers_of ss) i 0 ≡ v
is_seat R w [] ss i v h at low = absurd (omega arith)
is_seat R w (x ∷ xs) [] i v h at low = absurd h
is_seat R w (x ∷ xs) (s ∷ ss) zero v h at low = let one : SeatIs R w x s = h.0 in one.number ∙ at
is_seat R w (x ∷ xs) (s ∷ ss) (suc i) v h at low = is_seat R w xs ss i v h.1 at (omega arith)

pub no_seat : (R : Relation) (w : Floor) (xs : List kept_seat.Seat) (ss : List Stand) (v : ℕ) → SeatsAre R w xs ss → AllByRecursion (λ x. x.number ≢ v) xs → stand_of v ss ≡ None
no_seat R w [] [] v h all = refl
no_seat R w [] (s ∷ ss) v h all = absurd h
no_seat R w (x ∷ xs) [] v h all = absurd h
no_seat R w (x ∷ xs) (s ∷ ss) v h all =
    let one : SeatIs R w x s = h.0 in
    ap (λ b. if b then Some s else stand_of v ss) (ne_eqb s.number v (λ e. all.0 (sym one.number ∙ e)))
    ∙ no_seat R w xs ss v h.1 all.1

-- a turn of one that isn't there
pub nobody : (v : ℕ) (act : World → Step) (w : Floor) → stand_of v w.stands ≡ None → turn v act w ≡ quiet_floor w
nobody v act w none = ap (turn_in v act w) none

none_at : (ds : List ℕ) (i : ℕ) → length ds ≤ i → slice_get ds i ≡ None
none_at [] i past = refl
none_at (d ∷ ds) zero past = absurd (omega arith)
none_at (d ∷ ds) (suc i) past = none_at ds i (omega arith)

some_at : (ds : List ℕ) (i v : ℕ) → i < length ds → v ≡ get_or ds i v → slice_get ds i ≡ Some v
some_at [] i v low at = absurd (omega arith)
some_at (d ∷ ds) zero v low at = ap Some (sym at)
some_at (d ∷ ds) (suc i) v low at = some_at ds i v (omega arith) at

pub not_drawn : (c i : ℕ) (ds : List ℕ) → c ≡ suc i → length ds ≤ i → drawn_for c ds ≡ None
not_drawn c i ds is past = ap (λ n. drawn_for n ds) is ∙ none_at ds i past

pub was_drawn : (c i v : ℕ) (ds : List ℕ) → c ≡ suc i → i < length ds → v ≡ get_or ds i v → drawn_for c ds ≡ Some v
was_drawn c i v ds is low at = ap (λ n. drawn_for n ds) is ∙ some_at ds i v low at

-- A line that names a call is one of a call, and draws no number.

pub call_turn : (c : ℕ) (l : CallLine) → IsTurn (subject (call_event c l))
call_turn c call_line.Fault = tt
call_turn c _ = tt

pub call_needs : (c : ℕ) (l : CallLine) → NeedsCall (call_event c l) → ⊥
call_needs c call_line.Fault needs = needs
call_needs c _ needs = needs
