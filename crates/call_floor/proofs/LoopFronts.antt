-- Loops over the vehicles, the live calls and the frames that are due: how far each of them has come.
use Rattle.std.proofs.Common.{◌≡◌, ℕ, zero, suc, Bool, true, false, List, [], ◌∷◌, ◌==◌, ◌||◌, ◌+◌, ◌<◌, ◌≤◌, Option, Some, length, get_or, map, if◌then◌else◌, refl, ap, sym, ◌∙◌, subst, arith, eq-eqb}
use Rattle.std.specs.List.{AllByRecursion}
use Rattle.channel_sim.specs.Lag.{level, StandsAt, waits, clock_of}
use Rattle.call_floor.specs.declared.live.Live as kept_live
use Rattle.call_floor.specs.declared.seat.Seat as kept_seat
use Rattle.call_floor.specs.Floor.{Floor, Stand, Turn, own, quiet_floor, stand_of, turn}
use Rattle.call_floor.specs.inner.FloorAt.{Amid, FloorIs, IsAmid, Relation, SeatIs, SeatsAre, numbers_of, plays_if, turn_if}
use Rattle.call_floor.specs.inner.Placed.{IsReady}
use Rattle.call_floor.proofs.Gone.{Named}
use Rattle.call_floor.proofs.LiveCalls.{clock_left, live_named, none_passed}
use Rattle.call_floor.proofs.Paired.{FoundIn, found_all}
use Rattle.call_floor.proofs.Sleeping.{turn_tick}

pub same_length : (R : Relation) (w : Floor) (xs : List kept_seat.Seat) (ss : List Stand) → SeatsAre R w xs ss → length xs ≡ length ss
same_length R w [] [] h = refl
same_length R w [] (s ∷ ss) h = absurd h
same_length R w (x ∷ xs) [] h = absurd h
same_length R w (x ∷ xs) (s ∷ ss) h = ap suc (same_length R w xs ss h.1)

pub numbers_length : (ss : List Stand) → length (numbers_of ss) ≡ length ss
numbers_length [] = refl
numbers_length (s ∷ ss) = ap suc (numbers_length ss)

-- turns leave the tick
pub tick_if : (acts : ℕ → Bool) (ts : List Turn) (w : Floor) → (plays_if acts ts w).floor.tick ≡ w.tick
tick_if acts [] w = refl
tick_if acts (t ∷ ts) w = tick_if acts ts (turn_if acts t.vehicle t.act w).floor ∙ by (acts t.vehicle)
  where
    by : (b : Bool) → (if b then turn t.vehicle t.act w else quiet_floor w).floor.tick ≡ w.tick
    by true = turn_tick t.vehicle t.act w
    by false = refl

-- each vehicle in another relation to the same world
each_seat : (R Q : Relation) (w : Floor) → ((x : kept_seat.Seat) (s : Stand) → stand_of s.number w.stands ≡ Some s → R s.number x (own w s) → Q s.number x (own w s)) → (xs : List kept_seat.Seat) (ss : List Stand) → FoundIn w.stands ss → SeatsAre R w xs ss → SeatsAre Q w xs ss
each_seat R Q w one [] [] found h = tt
each_seat R Q w one [] (s ∷ ss) found h = absurd h
each_seat R Q w one (x ∷ xs) [] found h = absurd h
each_seat R Q w one (x ∷ xs) (s ∷ ss) found h =
    let first : SeatIs R w x s = h.0 in
    (record { number = first.number; world = one x s found.0 first.world }, each_seat R Q w one xs ss found.1 h.1)

-- Before the first vehicle's turn none was passed yet.

or_true : (b : Bool) → (b || true) ≡ true
or_true true = refl
or_true false = refl

more_wait : (n : ℕ) (ns : List ℕ) (ss : List Stand) → AllByRecursion (λ (s : Stand). waits s.number ns ≡ true) ss → AllByRecursion (λ (s : Stand). waits s.number (n ∷ ns) ≡ true) ss
more_wait n ns [] h = tt
more_wait n ns (s ∷ ss) h = (ap (λ b. (n == s.number) || b) h.0 ∙ or_true (n == s.number), more_wait n ns ss h.1)

all_wait : (ss : List Stand) → AllByRecursion (λ (s : Stand). waits s.number (numbers_of ss) ≡ true) ss
all_wait [] = tt
all_wait (s ∷ ss) = (ap (λ b. b || waits s.number (numbers_of ss)) (eq-eqb s.number s.number refl), more_wait s.number (numbers_of ss) ss (all_wait ss))

module _ (acts : ℕ → Bool) (tick floor before : ℕ) (clock : ℕ → ℕ → ℕ) (w : Floor) (ns : List ℕ) where
  not_yet : (xs : List kept_seat.Seat) (ss : List Stand) → AllByRecursion (λ (s : Stand). waits s.number ns ≡ true) ss → SeatsAre (Amid acts tick floor (λ v. before) clock) w xs ss → SeatsAre (Amid acts tick floor (clock_of before ns) clock) w xs ss
  not_yet [] [] wait h = tt
  not_yet [] (s ∷ ss) wait h = absurd h
  not_yet (x ∷ xs) [] wait h = absurd h
  not_yet (x ∷ xs) (s ∷ ss) wait h =
      let first : SeatIs (Amid acts tick floor (λ v. before) clock) w x s = h.0 in
      let its : IsAmid acts tick floor (λ v. before) clock s.number x (own w s) = first.world in
      let same : before ≡ clock_of before ns s.number = sym (ap (λ b. if b then before else before + 1) wait.0) in (
        record {
          number = first.number;
          world = record {
            due = its.due;
            later = its.later;
            awake = λ on. subst (λ a. StandsAt a (level floor floor) (clock s.number) x.world.channel (own w s)) same (its.awake on);
            asleep = its.asleep;
          };
        },
        not_yet xs ss wait.1 h.1,
      )

pub none_turned : (acts : ℕ → Bool) (tick floor before : ℕ) (clock : ℕ → ℕ → ℕ) (xs : List kept_seat.Seat) (w : Floor) → FloorIs (Amid acts tick floor (λ v. before) clock) xs w → FloorIs (Amid acts tick floor (clock_of before (numbers_of w.stands)) clock) xs w
none_turned acts tick floor before clock xs w h =
    record { order = h.order; seats = not_yet acts tick floor before clock w (numbers_of w.stands) xs w.stands (all_wait w.stands) h.seats }

-- Before the first session's turn none was passed yet.

pub none_sat : (acts : ℕ → Bool) (tick floor before : ℕ) (ls : List kept_live.Live) (xs : List kept_seat.Seat) (w : Floor) → IsReady w ls → FloorIs (Amid acts tick floor (λ v. tick) (λ v c. before)) xs w → FloorIs (Amid acts tick floor (λ v. tick) (clock_left before (live_named (numbers_of w.stands) ls))) xs w
none_sat acts tick floor before ls xs w ready h =
    record {
      order = h.order;
      seats = each_seat (Amid acts tick floor (λ v. tick) (λ v c. before)) (Amid acts tick floor (λ v. tick) (clock_left before (live_named (numbers_of w.stands) ls))) w one xs w.stands (found_all 0 w.stands h.order) h.seats;
    }
  where
    one : (x : kept_seat.Seat) (s : Stand) → stand_of s.number w.stands ≡ Some s → IsAmid acts tick floor (λ v. tick) (λ v c. before) s.number x (own w s) → IsAmid acts tick floor (λ v. tick) (clock_left before (live_named (numbers_of w.stands) ls)) s.number x (own w s)
    one x s found its =
        record {
          due = its.due;
          later = its.later;
          awake = λ on. none_passed w s.number ls tick floor before x (own w s) ready (ap (Rattle.std.proofs.Common.option_map (own w)) found) (its.awake on);
          asleep = its.asleep;
        }

pub no_name : Named
no_name = record { vehicle = 0; number = 0 }

abbrev pub no_live : kept_live.Live
no_live = record { call = 0; place = 0 }

pub at_self : {A : Type 0} (xs : List A) (i : ℕ) (d : A) → i < length xs → get_or xs i d ≡ get_or xs i (get_or xs i d)
at_self [] i d low = absurd (omega arith)
at_self (x ∷ xs) zero d low = refl
at_self (x ∷ xs) (suc i) d low = at_self xs i d (omega arith)
