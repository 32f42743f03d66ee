-- A turn of one vehicle that is kept: the others are kept as they are.
use Rattle.std.proofs.Common.{◌≡◌, ℕ, zero, suc, true, false, List, [], ◌∷◌, ◌==◌, ◌<◌, ◌≤◌, Option, Some, None, map, length, get_or, set, option_map, if◌then◌else◌, refl, ap, sym, ◌∙◌, subst, arith, eq-eqb, ne_eqb}
use Rattle.channel_sim.specs.Tidy.{AreAbove}
use Rattle.channel_sim.specs.World.{World, Step}
use Rattle.call_floor.specs.declared.entry.FloorEntry.{FloorEntry}
use Rattle.call_floor.specs.declared.seat.Seat as kept_seat
use Rattle.call_floor.specs.declared.listener.Tagged.{Tagged}
use Rattle.call_floor.specs.Floor.{own_of, Floor, Stand, stand_of, own, put, entry_of, turn_in, turn}
use Rattle.call_floor.specs.Tagged.{heard, TaggedGrew, FloorGrew}
use Rattle.call_floor.specs.inner.FloorAt.{Relation, SeatIs, SeatsAre, FloorIs, IsSeat, numbers_of}
use Rattle.call_floor.proofs.Apart.{Still, put_same, none_drawn, turn_same}
use Rattle.call_floor.proofs.EventApart.{turn_numbers}
use Rattle.call_floor.proofs.TurnWorlds.{any}

-- the vehicle that is kept at a place
pub record SeatFound (R : Relation) (w : Floor) (n : ℕ) (ss : List Stand) (i : ℕ) (x : kept_seat.Seat) : Type 0 where
  pub stand : Stand
  pub found : stand_of x.number ss ≡ Some stand
  pub at : R x.number x (own w stand)
  pub above : n < x.number
  pub place : get_or (numbers_of ss) i 0 ≡ x.number

pub seat_found : (R : Relation) (w : Floor) (n : ℕ) (xs : List kept_seat.Seat) (ss : List Stand) (i : ℕ) (x : kept_seat.Seat) → SeatsAre R w xs ss → AreAbove n (numbers_of ss) → i < length xs → x ≡ get_or xs i x → SeatFound R w n ss i x
seat_found R w n [] ss i x h order low at = absurd (omega arith)
seat_found R w n (y ∷ ys) [] i x h order low at = absurd h
seat_found R w n (y ∷ ys) (s ∷ ss) zero x h order low at =
    let one : SeatIs R w y s = h.0 in
    let same : s.number ≡ x.number = one.number ∙ ap (λ (z : kept_seat.Seat). z.number) (sym at) in
    record {
      stand = s;
      found = ap (λ b. if b then Some s else stand_of x.number ss) (eq-eqb s.number x.number same);
      at = subst (λ m. R m x (own w s)) same (subst (λ (z : kept_seat.Seat). R s.number z (own w s)) (sym at) one.world);
      above = let up : n < s.number = order.0 in omega (arith, same);
      place = same;
    }
seat_found R w n (y ∷ ys) (s ∷ ss) (suc i) x h order low at =
    let rest : SeatFound R w s.number ss i x = seat_found R w s.number ys ss i x h.1 order.1 (omega arith) at in
    let up : n < s.number = order.0 in
    record {
      stand = rest.stand;
      found = ap (λ b. if b then Some s else stand_of x.number ss) (ne_eqb s.number x.number (λ e. omega (arith, e, rest.above))) ∙ rest.found;
      at = rest.at;
      above = omega (arith, rest.above);
      place = rest.place;
    }

-- the others stand in the relation behind the turn in which they stood before it
abbrev pub OthersStay : ℕ → Relation → Relation → Floor → Floor → Type 0
OthersStay v R Q w u = (x : kept_seat.Seat) (s : Stand) → (s.number ≡ v → ⊥) → R s.number x (own w s) → Q s.number x (own u s)

module _ (v : ℕ) (R Q : Relation) (w u : Floor) (others : OthersStay v R Q w u) where
  seats_stay : (n : ℕ) → v ≤ n → (xs : List kept_seat.Seat) (ss : List Stand) → AreAbove n (numbers_of ss) → SeatsAre R w xs ss → SeatsAre Q u xs ss
  seats_stay n low [] [] order h = tt
  seats_stay n low [] (s ∷ ss) order h = absurd h
  seats_stay n low (x ∷ xs) [] order h = absurd h
  seats_stay n low (x ∷ xs) (s ∷ ss) order h =
      let up : n < s.number = order.0 in
      let one : SeatIs R w x s = h.0 in
      (record { number = one.number; world = others x s (λ e. omega (arith, e)) one.world }, seats_stay s.number (omega arith) xs ss order.1 h.1)

  pub seats_set : (n : ℕ) (xs : List kept_seat.Seat) (ss : List Stand) (i : ℕ) (x y : kept_seat.Seat) (t : World) → SeatsAre R w xs ss → AreAbove n (numbers_of ss) → n < v → i < length xs → x ≡ get_or xs i x → x.number ≡ v → y.number ≡ v → ((s : Stand) → stand_of v ss ≡ Some s → Q v y (own u (record s { vehicle = t.vehicle; calls = t.calls }))) → SeatsAre Q u (set xs i y) (put v t ss)
  seats_set n [] ss i x y t h order below low at is_v y_v its = absurd (omega arith)
  seats_set n (z ∷ zs) [] i x y t h order below low at is_v y_v its = absurd h
  seats_set n (z ∷ zs) (s ∷ ss) zero x y t h order below low at is_v y_v its =
      let one : SeatIs R w z s = h.0 in
      let same : s.number ≡ v = one.number ∙ ap (λ (q : kept_seat.Seat). q.number) (sym at) ∙ is_v in
      let here : (s.number == v) ≡ true = eq-eqb s.number v same in
      subst (λ b. SeatsAre Q u (y ∷ zs) (if b then record s { vehicle = t.vehicle; calls = t.calls } ∷ ss else s ∷ put v t ss)) (sym here) (
        record {
          number = same ∙ sym y_v;
          world = subst (λ m. Q m y (own u (record s { vehicle = t.vehicle; calls = t.calls }))) (sym same) (its s (ap (λ b. if b then Some s else stand_of v ss) here));
        },
        seats_stay s.number (omega (arith, same)) zs ss order.1 h.1,
      )
  seats_set n (z ∷ zs) (s ∷ ss) (suc i) x y t h order below low at is_v y_v its =
      let one : SeatIs R w z s = h.0 in
      let rest : SeatFound R w s.number ss i x = seat_found R w s.number zs ss i x h.1 order.1 (omega arith) at in
      let apart : (s.number == v) ≡ false = ne_eqb s.number v (λ e. omega (arith, e, rest.above, is_v)) in
      subst (λ b. SeatsAre Q u (z ∷ set zs i y) (if b then record s { vehicle = t.vehicle; calls = t.calls } ∷ ss else s ∷ put v t ss)) (sym apart) (
        record { number = one.number; world = others z s (λ e. omega (arith, e, rest.above, is_v)) one.world },
        seats_set s.number zs ss i x y t h.1 order.1 (omega (arith, rest.above, is_v)) (omega arith) at is_v y_v
            (λ q found. its q (ap (λ b. if b then Some s else stand_of v ss) apart ∙ found)),
      )

some_world : (a b : World) → Some a ≡ Some b → a ≡ b
some_world a b e = cc

some_stand : (a b : Stand) → Some a ≡ Some b → a ≡ b
some_stand a b e = cc

-- what a turn tells
pub turn_says : (v : ℕ) (act : World → Step) (w : Floor) (s : Stand) → stand_of v w.stands ≡ Some s → (turn v act w).entries ≡ map (entry_of v) (act (own w s)).entries
turn_says v act w s found = ap (λ o. (turn_in v act w o).entries) found

pub turn_hands : (v : ℕ) (act : World → Step) (w : Floor) (s : Stand) → stand_of v w.stands ≡ Some s → (turn v act w).handed ≡ (act (own w s)).handed
turn_hands v act w s found = ap (λ o. (turn_in v act w o).handed) found

-- The vehicle that is kept at a place, as one of the floor.
pub record SeatHere (R : Relation) (w : Floor) (v : ℕ) (x : kept_seat.Seat) : Type 0 where
  pub same : v ≡ x.number
  pub above : 0 < v
  pub stand : Stand
  pub found : stand_of v w.stands ≡ Some stand
  pub stands : R v x (own w stand)

pub seat_here : (R : Relation) (xs : List kept_seat.Seat) (w : Floor) (v i : ℕ) (x : kept_seat.Seat) → FloorIs R xs w → IsSeat w i v → i < length xs → x ≡ get_or xs i x → SeatHere R w v x
seat_here R xs w v i x h is_v low at =
    let found : SeatFound R w 0 w.stands i x = seat_found R w 0 xs w.stands i x h.seats h.order low at in
    let same : v ≡ x.number = sym is_v ∙ found.place in
    record {
      same = same;
      above = omega (arith, same, found.above);
      stand = found.stand;
      found = subst (λ n. stand_of n w.stands ≡ Some found.stand) (sym same) found.found;
      stands = subst (λ n. R n x (own w found.stand)) (sym same) found.at;
    }

-- What its world did is the floor's turn: what it told, and the floor behind it.
module _ {H : Type 0} (Told : H → H → List FloorEntry → Type 0) (R : Relation) (w : Floor) (v : ℕ) (x : kept_seat.Seat) (here : SeatHere R w v x) (act : World → Step) where
  pub turn_told_at : (to its new : Tagged H) → its ≡ record to { vehicle = x.number } → TaggedGrew Told its new (act (own w here.stand)).entries → FloorGrew Told to new (turn v act w).entries
  turn_told_at to its new spoke grew =
      let said : (turn v act w).entries ≡ map (entry_of x.number) (act (own w here.stand)).entries =
      turn_says v act w here.stand here.found ∙ ap (λ n. map (entry_of n) (act (own w here.stand)).entries) here.same in
      let its_own = subst (λ (t : Tagged H). TaggedGrew Told t new (act (own w here.stand)).entries) spoke grew in
      (its_own.0, subst (Told (heard to) (heard new)) (sym said) its_own.2)

module _ (R Q : Relation) (xs : List kept_seat.Seat) (w : Floor) (v i : ℕ) (x : kept_seat.Seat) (h : FloorIs R xs w) (low : i < length xs) (at : x ≡ get_or xs i x) (here : SeatHere R w v x) (act : World → Step) where
  -- the floor behind a turn, where the own world behind it is known
  pub turn_kept : (y : kept_seat.Seat) (later : World) → y.number ≡ x.number → own_of v (turn v act w).floor ≡ Some later → OthersStay v R Q w (turn v act w).floor → Q v y later → FloorIs Q (set xs i y) (turn v act w).floor
  turn_kept y later number there others stands =
      record {
        order = subst (AreAbove 0) (sym (turn_numbers v act w)) h.order;
        seats = subst (λ ss. SeatsAre Q (turn v act w).floor (set xs i y) ss) (sym stands_are)
            (seats_set v R Q w (turn v act w).floor others 0 xs w.stands i x y t h.seats h.order here.above low at (sym here.same) (number ∙ sym here.same) its);
      }
    where
      t : World
      t = (act (own w here.stand)).world

      stands_are : (turn v act w).floor.stands ≡ put v t w.stands
      stands_are = ap (λ o. (turn_in v act w o).floor.stands) here.found

      its : (s : Stand) → stand_of v w.stands ≡ Some s → Q v y (own (turn v act w).floor (record s { vehicle = t.vehicle; calls = t.calls }))
      its s found =
          let same : s ≡ here.stand = some_stand s here.stand (sym found ∙ here.found) in
          let seen : own_of v (turn v act w).floor ≡ Some (own (turn v act w).floor (record (here.stand) { vehicle = t.vehicle; calls = t.calls })) =
          ap (λ ss. option_map (own (turn v act w).floor) (stand_of v ss)) stands_are ∙ ap (option_map (own (turn v act w).floor)) (put_same v t w.stands here.stand here.found) in
          subst (λ (z : Stand). Q v y (own (turn v act w).floor (record z { vehicle = t.vehicle; calls = t.calls }))) (sym same)
          (subst (Q v y) (some_world later (own (turn v act w).floor (record (here.stand) { vehicle = t.vehicle; calls = t.calls })) (sym there ∙ seen)) stands)

-- A turn within a line leaves the others' own worlds.
pub still_line : (v : ℕ) (act : World → Step) → Still any act → (w : Floor) (s : Stand) → own (turn v act w).floor s ≡ own w s
still_line v act still w s = by (stand_of v w.stands)
  where
    by : (o : Option Stand) → own (turn_in v act w o).floor s ≡ own w s
    by None = refl
    by (Some q) = ap (λ ds. own (record w { drawn = ds }) s) (none_drawn v (act (own w q)).world.drawn w.drawn (still (own w q)).drawn)

-- a turn within a line, in the own world
pub own_behind : (v : ℕ) (act : World → Step) → Still any act → (w : Floor) (s : Stand) → stand_of v w.stands ≡ Some s → own_of v (turn v act w).floor ≡ Some (act (own w s)).world
own_behind v act still w s found =
    (turn_same any v act still w (stand_of v w.stands) (own w s) refl (ap (option_map (own w)) found)).there
