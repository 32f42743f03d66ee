-- From one tick at which something happens to the next: vehicles that rest, those of them that are woken, and those that
-- sleep on.
use Rattle.std.proofs.Common.{◌≡◌, ℕ, Bool, true, false, List, [], ◌∷◌, ◌++◌, ◌==◌, ◌+◌, ◌-◌, ◌<◌, ◌≤◌, ◌⊎◌, inl, inr, Option, Some, None, nat_le, option_map, if◌then◌else◌, refl, ap, sym, ◌∙◌, subst, arith, eq-eqb, ne_eqb, eqb-true}
use Rattle.std.proofs.lemmas.Bool.{leb-true, leb-false}
use Rattle.std.specs.List.{AllByRecursion}
use Rattle.channel_sim.specs.Lag.{level, StandsAt, StandsNow}
use Rattle.channel_sim.specs.Quiet.{QuietFor, aged_world}
use Rattle.channel_sim.specs.Tidy.{AreAbove}
use Rattle.channel_sim.specs.World.{World, Step, quiet_step}
use Rattle.channel_sim.specs.World as world
use Rattle.channel_sim.specs.WorldStands.{WorldStandsFor, ticks_reached}
use Rattle.channel_sim.proofs.Jump.{units_add, units_one}
use Rattle.channel_sim.proofs.Standing.{now_stands}
use Rattle.channel_sim.proofs.MomentLemmas.{jumped, quiet_end, moment_quiet}
use Rattle.call_floor.specs.declared.seat.Seat as kept_seat
use Rattle.call_floor.specs.Floor.{Floor, Stand, Turn, stand_of, own, own_of, calls_of, turn, unit, units, quiet_floor, session_turns, vehicle_turns}
use Rattle.call_floor.specs.inner.Changes.{ArePaired, IsAsked, IsPlanned, IsQuiet, IsWoken, reached}
use Rattle.call_floor.specs.inner.FloorAt.{Amid, FloorIs, IsAmid, Now, Resting, Rests, SeatIs, SeatsAre, Sleeps, flow_turns, flows_if, numbers_of, plays_if, sessions_if, unit_if, vehicles_if}
use Rattle.call_floor.specs.inner.Placed.{InPlace}
use Rattle.call_floor.proofs.Paired.{IsSame, paired, same_paired}
use Rattle.call_floor.proofs.QuietFloor.{quiet_units}
use Rattle.call_floor.proofs.Apart.{AllStill}
use Rattle.call_floor.proofs.LiveCalls.{flow_still}
use Rattle.call_floor.proofs.Sleeping.{Alike, turn_own}
use Rattle.call_floor.proofs.TurnWorlds.{any}
use Rattle.call_floor.proofs.UnitApart.{UnitsOwn, UnitOwn, unit_own, units_own, units_numbers, one_later, vehicles_still, session_turns_still}

pub some_world : (x y : World) → Some x ≡ Some y → x ≡ y
some_world x y e = cc

pub tick_of : (v : ℕ) (w : Floor) (u : World) → own_of v w ≡ Some u → u.tick ≡ w.tick
tick_of v w u h = by (stand_of v w.stands) h
  where
    by : (o : Option Stand) → option_map (own w) o ≡ Some u → u.tick ≡ w.tick
    by None f = cc
    by (Some s) f = ap (λ (z : World). z.tick) (sym (some_world (own w s) u f))

none_later : (v : ℕ) (w : Floor) → own_of v w ≡ None → own_of v (record w { tick = w.tick + 1 }) ≡ None
none_later v w h = by (stand_of v w.stands) h
  where
    by : (o : Option Stand) → option_map (own w) o ≡ None → option_map (own (record w { tick = w.tick + 1 })) o ≡ None
    by None f = refl
    by (Some s) f = cc

back_nil : {A : Type 0} (xs ys : List A) → xs ++ ys ≡ [] → ys ≡ []
back_nil [] ys e = e
back_nil (x ∷ xs) ys e = cc

-- One vehicle that rests.

module _ (floor : ℕ) (x : kept_seat.Seat) (u : World) (r : Rests floor x u) where
  -- quiet ticks give nothing
  rested : (n : ℕ) → QuietFor n r.was → world.units n r.was ≡ quiet_step (aged_world n r.was)
  rested n quiet = (quiet_end (level floor floor) n (ticks_reached x.world + n) x.world.channel r.was r.stands quiet refl).0

  pub rest_tick : ticks_reached x.world + r.ticks ≡ u.tick
  rest_tick =
      ap (λ t. t + r.ticks) (sym r.stands.tick)
      ∙ ap (λ (s : Step). s.world.tick) (sym (rested r.ticks r.still))
      ∙ ap (λ (z : World). z.tick) (sym r.behind)

  -- n further ticks
  further : (n : ℕ) → world.units (r.ticks + n) r.was ≡ world.and_then (world.units r.ticks r.was) (world.units n)
  further n = units_add r.ticks n r.was

  pub rests_on : (n : ℕ) → QuietFor (r.ticks + n) r.was → Rests floor x (world.units n u).world
  rests_on n quiet =
      record {
        was = r.was;
        ticks = r.ticks + n;
        stands = r.stands;
        behind = ap (λ z. (world.units n z).world) r.behind ∙ ap (λ (s : Step). s.world) (sym (further n));
        still = quiet;
        quiet = r.quiet;
      }

  pub rests_silent : (n : ℕ) → QuietFor (r.ticks + n) r.was → (world.units n u).entries ≡ []
  rests_silent n quiet =
      ap (λ z. (world.units n z).entries) r.behind
      ∙ back_nil (world.units r.ticks r.was).entries (world.units n (world.units r.ticks r.was).world).entries
      (ap (λ (s : Step). s.entries) (sym (further n) ∙ rested (r.ticks + n) quiet))

  -- up to the tick before its next one, or where no tick elapses
  pub quiet_to : (n tick : ℕ) → u.tick + n + 1 ≡ tick → (n ≡ 0) ⊎ (tick ≤ x.next) → QuietFor (r.ticks + n) r.was
  quiet_to n tick next (inl e) = let same : r.ticks ≡ r.ticks + n = omega (arith, e) in subst (λ m. QuietFor m r.was) same r.still
  quiet_to n tick next (inr low) =
      let now = rest_tick in
      r.quiet (r.ticks + n) (omega (arith, now, next, low))

  -- the tick after it, at which it sleeps
  pub quiet_past : (tick : ℕ) → u.tick + 1 ≡ tick → tick < x.next → QuietFor (r.ticks + 1) r.was
  quiet_past tick next late = let now = rest_tick in r.quiet (r.ticks + 1) (omega (arith, now, next, late))

  -- it is woken at the next tick
  pub woken : (tick before : ℕ) (y : kept_seat.Seat) → u.tick + 1 ≡ tick → before + 1 ≡ tick → y.world ≡ reached tick x.world → StandsAt before (level floor floor) (λ c. before) y.world.channel (record u { tick = u.tick + 1 })
  woken tick before y next last is =
      let now = rest_tick in
      let here : ticks_reached x.world + r.ticks ≡ before = omega (arith, now, next, last) in
      let at = jumped (level floor floor) r.ticks tick x.world.channel r.was r.stands r.still (omega (arith, now, next)) in
      let same : u ≡ aged_world r.ticks r.was = r.behind ∙ ap (λ (s : Step). s.world) (rested r.ticks r.still) in
      subst (λ (z : World). StandsAt before (level floor floor) (λ c. before) y.world.channel (record z { tick = z.tick + 1 })) (sym same)
      (subst (λ k. StandsAt before (level floor floor) (λ c. before) k.channel (record (aged_world r.ticks r.was) { tick = (aged_world r.ticks r.was).tick + 1 })) (sym is)
      (subst (λ t. StandsAt t (level floor floor) (λ c. t) (record (x.world.channel) { tick = tick }) (record (aged_world r.ticks r.was) { tick = (aged_world r.ticks r.was).tick + 1 })) here at))

  -- it is passed up to now
  pub caught : (tick : ℕ) → u.tick ≡ tick → StandsAt tick (level floor floor) (λ c. tick) (record (x.world.channel) { tick = tick }) u
  caught tick now =
      let last = rest_tick in
      let at = quiet_end (level floor floor) r.ticks tick x.world.channel r.was r.stands r.still (omega (arith, last, now)) in
      let same : u ≡ aged_world r.ticks r.was = r.behind ∙ ap (λ (s : Step). s.world) (rested r.ticks r.still) in
      subst (StandsAt tick (level floor floor) (λ c. tick) (record (x.world.channel) { tick = tick })) (sym same) at.1

-- nothing happens in no tick
pub still_now : (floor t : ℕ) (x : kept_seat.Seat) (u : World) → StandsAt t (level floor floor) (λ c. t) x.world.channel u → QuietFor 0 u
still_now floor t x u h =
    let none = moment_quiet (level floor floor) t 0 x.world.channel u h (λ n low. absurd (omega (arith, low))) in
    let zero_ticks : none.0 ≡ 0 = omega (arith, none.1) in
    subst (λ n. QuietFor n u) zero_ticks none.2

-- one that is asked rests
pub starts_rest : (floor : ℕ) (x : kept_seat.Seat) (u : World) → StandsAt (ticks_reached x.world) (level floor floor) (λ c. ticks_reached x.world) x.world.channel u → IsQuiet x → Rests floor x u
starts_rest floor x u h quiet =
    record {
      was = u;
      ticks = 0;
      stands = h;
      behind = refl;
      still = still_now floor (ticks_reached x.world) x u h;
      quiet = λ n low. quiet floor n u h low;
    }

-- Which vehicles act at a tick.

abbrev pub acts_at : ℕ → List kept_seat.Seat → ℕ → Bool
acts_at tick [] v = false
acts_at tick (x ∷ xs) v = if x.number == v then nat_le x.next tick else acts_at tick xs v

abbrev pub IsMarked : ℕ → List kept_seat.Seat → kept_seat.Seat → Type 0
IsMarked tick xs x = acts_at tick xs x.number ≡ nat_le x.next tick

abbrev numbers_kept : List kept_seat.Seat → List ℕ
numbers_kept [] = []
numbers_kept (x ∷ xs) = x.number ∷ numbers_kept xs

marked_behind : (tick : ℕ) (first : kept_seat.Seat) (all : List kept_seat.Seat) (n : ℕ) (xs : List kept_seat.Seat) → first.number ≤ n → AreAbove n (numbers_kept xs) → AllByRecursion (IsMarked tick all) xs → AllByRecursion (IsMarked tick (first ∷ all)) xs
marked_behind tick first all n [] low order h = tt
marked_behind tick first all n (x ∷ xs) low order h =
    let up : n < x.number = order.0 in
    (ap (λ b. if b then nat_le first.next tick else acts_at tick all x.number) (ne_eqb first.number x.number (λ e. omega (arith, e))) ∙ h.0, marked_behind tick first all x.number xs (omega arith) order.1 h.1)

marked_all : (tick n : ℕ) (xs : List kept_seat.Seat) → AreAbove n (numbers_kept xs) → AllByRecursion (IsMarked tick xs) xs
marked_all tick n [] order = tt
marked_all tick n (x ∷ xs) order =
    (ap (λ b. if b then nat_le x.next tick else acts_at tick xs x.number) (eq-eqb x.number x.number refl), marked_behind tick x xs x.number xs (omega arith) order.1 (marked_all tick x.number xs order.1))

same_numbers : (floor : ℕ) (w : Floor) (xs : List kept_seat.Seat) (ss : List Stand) → SeatsAre (Resting floor) w xs ss → numbers_of ss ≡ numbers_kept xs
same_numbers floor w [] [] h = refl
same_numbers floor w [] (s ∷ ss) h = absurd h
same_numbers floor w (x ∷ xs) [] h = absurd h
same_numbers floor w (x ∷ xs) (s ∷ ss) h =
    let one : SeatIs (Resting floor) w x s = h.0 in
    ap (λ n. n ∷ numbers_of ss) one.number ∙ ap (λ l. x.number ∷ l) (same_numbers floor w xs ss h.1)

pub marked : (tick floor : ℕ) (w : Floor) (xs : List kept_seat.Seat) → FloorIs (Resting floor) xs w → AllByRecursion (IsMarked tick xs) xs
marked tick floor w xs h = marked_all tick 0 xs (subst (AreAbove 0) (same_numbers floor w xs w.stands h.seats) h.order)

with_all : (P : kept_seat.Seat → kept_seat.Seat → Type 0) (C : kept_seat.Seat → Type 0) (xs ys : List kept_seat.Seat) → ArePaired P xs ys → AllByRecursion C xs → ArePaired (λ x y. P x y × C x) xs ys
with_all P C [] [] p c = tt
with_all P C [] (y ∷ ys) p c = absurd p
with_all P C (x ∷ xs) [] p c = absurd p
with_all P C (x ∷ xs) (y ∷ ys) p c = ((p.0, c.0), with_all P C xs ys p.1 c.1)

-- Quiet ticks.

pub record Jumped (floor n : ℕ) (xs : List kept_seat.Seat) (w : Floor) : Type 0 where
  pub told : (units n w).entries ≡ []
  pub stands : FloorIs (Resting floor) xs (units n w).floor

-- what a vehicle's own world is, of one that is there
pub there : (v : ℕ) (w : Floor) (s : Stand) → stand_of v w.stands ≡ Some s → own_of v w ≡ Some (own w s)
there v w s found = ap (option_map (own w)) found

-- a seat of a floor, by its number
pub seat_own : (floor : ℕ) (w : Floor) (v : ℕ) (C : kept_seat.Seat → Type 0) (xs : List kept_seat.Seat) (ss : List Stand) (s : Stand) → SeatsAre (Resting floor) w xs ss → AllByRecursion C xs → stand_of v ss ≡ Some s → (x : kept_seat.Seat) × Rests floor x (own w s) × C x × (x.number ≡ v)
seat_own floor w v C [] [] s h all found = cc
seat_own floor w v C [] (t ∷ ts) s h all found = absurd h
seat_own floor w v C (x ∷ xs) [] s h all found = cc
seat_own floor w v C (x ∷ xs) (t ∷ ts) s h all found = by (t.number == v) refl (seat_own floor w v C xs ts s h.1 all.1)
  where
    some_stand : (a b : Stand) → Some a ≡ Some b → a ≡ b
    some_stand a b e = cc

    by : (b : Bool) → (t.number == v) ≡ b → (stand_of v ts ≡ Some s → (y : kept_seat.Seat) × Rests floor y (own w s) × C y × (y.number ≡ v)) → (y : kept_seat.Seat) × Rests floor y (own w s) × C y × (y.number ≡ v)
    by true e rest =
        let here : t ≡ s = some_stand t s (ap (λ b. if b then Some t else stand_of v ts) (sym e) ∙ found) in
        let first : SeatIs (Resting floor) w x t = h.0 in
        (x, subst (λ (z : Stand). Rests floor x (own w z)) here first.world, all.0, sym first.number ∙ eqb-true t.number v e)
    by false e rest = rest (ap (λ b. if b then Some t else stand_of v ts) (sym e) ∙ found)

pub quiet_jump : (floor n tick : ℕ) (xs : List kept_seat.Seat) (w : Floor) → FloorIs (Resting floor) xs w → w.tick + n + 1 ≡ tick → AllByRecursion (λ x. (n ≡ 0) ⊎ (tick ≤ x.next)) xs → ((v : ℕ) (u : World) → own_of v w ≡ Some u → InPlace v w.drawn u) → Jumped floor n xs w
quiet_jump floor n tick xs w h next quiet placed =
    record {
      told = quiet_units n w h.order (λ v u its. (placed v u its, silent v u its));
      stands =
          paired (λ x y. (y ≡ x) × ((n ≡ 0) ⊎ (tick ≤ x.next))) (Resting floor) (Resting floor) w (units n w).floor
          (λ x y p. ap (λ (z : kept_seat.Seat). z.number) p.0)
          one xs xs (with_all IsSame (λ x. (n ≡ 0) ⊎ (tick ≤ x.next)) xs xs (same_paired xs) quiet) (units_numbers n w) h;
    }
  where
    one : (x y : kept_seat.Seat) (s t : Stand) → (y ≡ x) × ((n ≡ 0) ⊎ (tick ≤ x.next)) → s.number ≡ x.number → s.number ≡ t.number → stand_of s.number w.stands ≡ Some s → stand_of t.number (units n w).floor.stands ≡ Some t → Rests floor x (own w s) → Rests floor y (own (units n w).floor t)
    one x y s t p kept same found behind r =
        let u : World = own w s in
        let its : UnitsOwn s.number n w u = units_own s.number n w u h.order (there s.number w s found) (placed s.number u (there s.number w s found)) in
        let seen : own_of s.number (units n w).floor ≡ Some (own (units n w).floor t) = ap (λ m. own_of m (units n w).floor) same ∙ there t.number (units n w).floor t behind in
        let is : (world.units n u).world ≡ own (units n w).floor t = some_world (world.units n u).world (own (units n w).floor t) (sym its.its.there ∙ seen) in
        subst (λ (z : kept_seat.Seat). Rests floor z (own (units n w).floor t)) (sym p.0)
        (subst (Rests floor x) is (rests_on floor x u r n (quiet_to floor x u r n tick next p.1)))

    silent : (v : ℕ) (u : World) → own_of v w ≡ Some u → (world.units n u).entries ≡ []
    silent v u its = by (stand_of v w.stands) refl its
      where
        by : (o : Option Stand) → stand_of v w.stands ≡ o → option_map (own w) o ≡ Some u → (world.units n u).entries ≡ []
        by None e f = cc
        by (Some s) e f =
            let seat = seat_own floor w v (λ x. (n ≡ 0) ⊎ (tick ≤ x.next)) xs w.stands s h.seats quiet e in
            subst (λ (z : World). (world.units n z).entries ≡ []) (some_world (own w s) u f) (rests_silent floor seat.0 (own w s) seat.1 n (quiet_to floor seat.0 (own w s) seat.1 n tick next seat.2))

-- The tick behind them: those that act are woken, and the others sleep.

some_stand : (a b : Stand) → Some a ≡ Some b → a ≡ b
some_stand a b e = cc

-- a vehicle that is kept is the other, if all agrees
as_it_was : (x y : kept_seat.Seat) → y.number ≡ x.number → y.next ≡ x.next → y.world ≡ x.world → y ≡ x
as_it_was x y a b c =
    ap (λ n. record { number = n; next = y.next; world = y.world }) a
    ∙ ap (λ n. record { number = x.number; next = n; world = y.world }) b
    ∙ ap (λ k. record { number = x.number; next = x.next; world = k }) c

pub woken_all : (floor tick before : ℕ) (xs ys : List kept_seat.Seat) (w : Floor) → FloorIs (Resting floor) xs w → w.tick + 1 ≡ tick → before + 1 ≡ tick → ArePaired (IsWoken tick) xs ys → FloorIs (Amid (acts_at tick xs) tick floor (λ v. before) (λ v c. before)) ys (record w { tick = w.tick + 1 })
woken_all floor tick before xs ys w h next last p =
    paired (λ x y. IsWoken tick x y × IsMarked tick xs x) (Resting floor) (Amid (acts_at tick xs) tick floor (λ v. before) (λ v c. before)) w (record w { tick = w.tick + 1 })
    (λ x y q. q.0.number) one xs ys (with_all (IsWoken tick) (IsMarked tick xs) xs ys p (marked tick floor w xs h)) refl h
  where
    one : (x y : kept_seat.Seat) (s t : Stand) → IsWoken tick x y × IsMarked tick xs x → s.number ≡ x.number → s.number ≡ t.number → stand_of s.number w.stands ≡ Some s → stand_of t.number w.stands ≡ Some t → Rests floor x (own w s) → IsAmid (acts_at tick xs) tick floor (λ v. before) (λ v c. before) t.number y (own (record w { tick = w.tick + 1 }) t)
    one x y s t q kept same found behind r =
        let here : s ≡ t = some_stand s t (sym found ∙ ap (λ m. stand_of m w.stands) same ∙ behind) in
        let mark : acts_at tick xs s.number ≡ nat_le x.next tick = ap (acts_at tick xs) kept ∙ q.1 in
        subst (λ (z : Stand). IsAmid (acts_at tick xs) tick floor (λ v. before) (λ v c. before) z.number y (own (record w { tick = w.tick + 1 }) z)) here
        (record {
          due = λ on. let low = leb-true x.next tick (sym mark ∙ on) in subst (λ n. n ≤ tick) (sym q.0.next) low;
          later = λ off. let high = leb-false x.next tick (sym mark ∙ off) in subst (λ n. tick < n) (sym q.0.next) high;
          awake = λ on. let low = leb-true x.next tick (sym mark ∙ on) in woken floor x (own w s) r tick before y next last (q.0.acts low);
          asleep = λ off.
              let high = leb-false x.next tick (sym mark ∙ off) in
              record { before = own w s; rests = subst (λ (z : kept_seat.Seat). Rests floor z (own w s)) (sym (as_it_was x y q.0.number q.0.next (q.0.sleeps high))) r; ticked = refl };
        })

-- Behind the tick.

-- Behind a tick, those that acted were passed up to it, and the others rest.
pub record IsDone (acts : ℕ → Bool) (tick floor : ℕ) (v : ℕ) (x : kept_seat.Seat) (u : World) : Type 0 where
  pub due : acts v ≡ true → x.next ≤ tick
  pub later : acts v ≡ false → tick < x.next
  pub awake : acts v ≡ true → StandsAt tick (level floor floor) (λ c. tick) x.world.channel u
  pub asleep : acts v ≡ false → Rests floor x u

abbrev pub Done : (acts : ℕ → Bool) (tick floor : ℕ) → (v : ℕ) → kept_seat.Seat → World → Type 0
Done acts tick floor v x u = IsDone acts tick floor v x u

-- a world before its tick was one more
abbrev back : World → World
back u = record u { tick = u.tick - 1 }

back_one : (u : World) → back (record u { tick = u.tick + 1 }) ≡ u
back_one u = ap (λ n. record u { tick = n }) (omega arith)

-- those that don't act are left alone
pub left_alone : (acts : ℕ → Bool) (v : ℕ) → acts v ≡ false → (ts : List Turn) → AllStill any ts → (w : Floor) → own_of v (plays_if acts ts w).floor ≡ own_of v w
left_alone acts v off [] still w = refl
left_alone acts v off (t ∷ ts) still w = by (acts t.vehicle) refl (left_alone acts v off ts still.1)
  where
    by : (b : Bool) → acts t.vehicle ≡ b → ((z : Floor) → own_of v (plays_if acts ts z).floor ≡ own_of v z) → own_of v (plays_if acts ts (if b then turn t.vehicle t.act w else quiet_floor w).floor).floor ≡ own_of v w
    by true on rest =
        rest (turn t.vehicle t.act w).floor
        ∙ turn_own t.vehicle v t.act still.0 w
        ∙ ap (λ b. if b then option_map (λ (u : World). (t.act u).world) (own_of v w) else own_of v w) (ne_eqb t.vehicle v (λ e. let no : acts v ≡ true = subst (λ n. acts n ≡ true) e on in let wrong : true ≡ false = sym no ∙ off in cc))
    by false on rest = rest w

pub unit_alone : (acts : ℕ → Bool) (v : ℕ) → acts v ≡ false → (w : Floor) → own_of v (unit_if acts w).floor ≡ own_of v w
unit_alone acts v off w =
    let a : Floor = (vehicles_if acts w).floor in
    let b : Floor = (sessions_if acts a).floor in
    let c : Floor = (flows_if acts true b).floor in
    left_alone acts v off (flow_turns false c) (flow_still false c any) c
    ∙ left_alone acts v off (flow_turns true b) (flow_still true b any) b
    ∙ left_alone acts v off (session_turns (calls_of a)) (session_turns_still any (calls_of a)) a
    ∙ left_alone acts v off (vehicle_turns w.stands) (vehicles_still any w.stands) w

-- The floor behind the unit tick of those that act, and of all.
pub done_all : (acts : ℕ → Bool) (floor tick : ℕ) (xs : List kept_seat.Seat) (w : Floor) → w.tick + 1 ≡ tick → AreAbove 0 (numbers_of w.stands) → ((v : ℕ) (u : World) → own_of v w ≡ Some u → InPlace v w.drawn u) → Alike acts (unit w).floor (unit_if acts (record w { tick = w.tick + 1 })).floor → FloorIs (Amid acts tick floor (λ v. tick) (λ v c. tick)) xs (unit_if acts (record w { tick = w.tick + 1 })).floor → FloorIs (Done acts tick floor) xs (unit w).floor
done_all acts floor tick xs w next order placed alike h =
    paired IsSame (Amid acts tick floor (λ v. tick) (λ v c. tick)) (Done acts tick floor) y x (λ a b e. ap (λ (z : kept_seat.Seat). z.number) e) one xs xs (same_paired xs) (sym alike.numbers) h
  where
    w1 : Floor
    w1 = record w { tick = w.tick + 1 }

    y : Floor
    y = (unit_if acts (record w { tick = w.tick + 1 })).floor

    x : Floor
    x = (unit w).floor

    one : (a b : kept_seat.Seat) (s t : Stand) → IsSame a b → s.number ≡ a.number → s.number ≡ t.number → stand_of s.number (unit_if acts (record w { tick = w.tick + 1 })).floor.stands ≡ Some s → stand_of t.number (unit w).floor.stands ≡ Some t → IsAmid acts tick floor (λ v. tick) (λ v c. tick) s.number a (own (unit_if acts (record w { tick = w.tick + 1 })).floor s) → IsDone acts tick floor t.number b (own (unit w).floor t)
    one a b s t e kept same found behind r =
        subst (λ (z : kept_seat.Seat). IsDone acts tick floor t.number z (own (unit w).floor t)) (sym e)
        (subst (λ m. IsDone acts tick floor m a (own (unit w).floor t)) same
        (record { due = r.due; later = r.later; awake = awake; asleep = asleep }))
      where
        its : own_of s.number (unit w).floor ≡ Some (own (unit w).floor t)
        its = ap (λ m. own_of m (unit w).floor) same ∙ there t.number (unit w).floor t behind

        here : own_of s.number (unit_if acts (record w { tick = w.tick + 1 })).floor ≡ Some (own (unit_if acts (record w { tick = w.tick + 1 })).floor s)
        here = there s.number (unit_if acts (record w { tick = w.tick + 1 })).floor s found

        awake : acts s.number ≡ true → StandsAt tick (level floor floor) (λ c. tick) a.world.channel (own (unit w).floor t)
        awake on =
            subst (StandsAt tick (level floor floor) (λ c. tick) a.world.channel) (some_world (own (unit_if acts (record w { tick = w.tick + 1 })).floor s) (own (unit w).floor t) (sym here ∙ alike.own s.number on ∙ its)) (r.awake on)

        asleep : acts s.number ≡ false → Rests floor a (own (unit w).floor t)
        asleep off = was (own_of s.number w) refl
          where
            sleeps : Sleeps floor a (own (unit_if acts (record w { tick = w.tick + 1 })).floor s)
            sleeps = r.asleep off

            later : tick < a.next
            later = r.later off

            was : (o : Option World) → own_of s.number w ≡ o → Rests floor a (own (unit w).floor t)
            was None f = let none = none_later s.number w f in let same_there = sym (unit_alone acts s.number off (record w { tick = w.tick + 1 })) ∙ here in cc
            was (Some u) f =
                let then_one : own_of s.number (record w { tick = w.tick + 1 }) ≡ Some (record u { tick = u.tick + 1 }) = one_later s.number w u f in
                let same_world : own (unit_if acts (record w { tick = w.tick + 1 })).floor s ≡ record u { tick = u.tick + 1 } = some_world (own (unit_if acts (record w { tick = w.tick + 1 })).floor s) (record u { tick = u.tick + 1 }) (sym here ∙ unit_alone acts s.number off (record w { tick = w.tick + 1 }) ∙ then_one) in
                let before_is : sleeps.before ≡ u = sym (back_one sleeps.before) ∙ ap back (sym sleeps.ticked ∙ same_world) ∙ back_one u in
                let rests : Rests floor a u = subst (Rests floor a) before_is sleeps.rests in
                let unit_is : UnitOwn s.number w u = unit_own s.number w u order f (placed s.number u f) in
                let now : u.tick ≡ w.tick = tick_of s.number w u f in
                let on : Rests floor a (world.units 1 u).world = rests_on floor a u rests 1 (quiet_past floor a u rests tick (omega (arith, now, next)) later) in
                subst (Rests floor a) (ap (λ (z : Step). z.world) (units_one u) ∙ some_world (world.unit u).world (own (unit w).floor t) (sym unit_is.its.there ∙ its)) on

-- Each that acted is asked for its next tick.
pub planned_all : (acts : ℕ → Bool) (floor tick : ℕ) (xs ys : List kept_seat.Seat) (w : Floor) → w.tick ≡ tick → ArePaired (IsPlanned tick) xs ys → FloorIs (Done acts tick floor) xs w → FloorIs (Resting floor) ys w
planned_all acts floor tick xs ys w now p h =
    paired (IsPlanned tick) (Done acts tick floor) (Resting floor) w w (λ x y q. q.number) one xs ys p refl h
  where
    one : (x y : kept_seat.Seat) (s t : Stand) → IsPlanned tick x y → s.number ≡ x.number → s.number ≡ t.number → stand_of s.number w.stands ≡ Some s → stand_of t.number w.stands ≡ Some t → IsDone acts tick floor s.number x (own w s) → Rests floor y (own w t)
    one x y s t q kept same found behind r =
        let here : s ≡ t = some_stand s t (sym found ∙ ap (λ m. stand_of m w.stands) same ∙ behind) in
        subst (λ (z : Stand). Rests floor y (own w z)) here (by (acts s.number) refl)
      where
        by : (b : Bool) → acts s.number ≡ b → Rests floor y (own w s)
        by true on =
            let stands : StandsAt tick (level floor floor) (λ c. tick) x.world.channel (own w s) = r.awake on in
            let at : tick ≡ ticks_reached x.world = sym now ∙ stands.tick in
            starts_rest floor y (own w s)
            (subst (λ k. StandsAt (ticks_reached k) (level floor floor) (λ c. ticks_reached k) k.channel (own w s)) (sym q.world)
            (subst (λ m. StandsAt m (level floor floor) (λ c. m) x.world.channel (own w s)) at stands))
            (q.acts (r.due on))
        by false off =
            subst (λ (z : kept_seat.Seat). Rests floor z (own w s)) (sym (as_it_was x y q.number (q.sleeps (r.later off)) q.world)) (r.asleep off)

-- Each is asked for its next tick.
pub asked_all : (floor : ℕ) (xs ys : List kept_seat.Seat) (w : Floor) → w.tick ≡ floor → ArePaired IsAsked xs ys → FloorIs Now xs w → FloorIs (Resting floor) ys w
asked_all floor xs ys w now p h =
    paired IsAsked Now (Resting floor) w w (λ x y q. q.number) one xs ys p refl h
  where
    one : (x y : kept_seat.Seat) (s t : Stand) → IsAsked x y → s.number ≡ x.number → s.number ≡ t.number → stand_of s.number w.stands ≡ Some s → stand_of t.number w.stands ≡ Some t → WorldStandsFor x.world (own w s) → Rests floor y (own w t)
    one x y s t q kept same found behind r =
        let here : s ≡ t = some_stand s t (sym found ∙ ap (λ m. stand_of m w.stands) same ∙ behind) in
        let stands : StandsNow (ticks_reached x.world) x.world.channel (own w s) = now_stands (ticks_reached x.world) x.world.channel (own w s) r in
        let at : ticks_reached x.world ≡ floor = sym stands.tick ∙ now in
        subst (λ (z : Stand). Rests floor y (own w z)) here
        (starts_rest floor y (own w s)
        (subst (λ k. StandsAt (ticks_reached k) (level floor floor) (λ c. ticks_reached k) k.channel (own w s)) (sym q.world)
        (subst (λ m. StandsAt (ticks_reached x.world) (level m m) (λ c. ticks_reached x.world) x.world.channel (own w s)) at stands))
        q.quiet)
