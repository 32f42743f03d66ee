-- The loop over elapsed time: from the ticks so far to those behind the next moment, or to the end of the line; and what
-- stands behind it.
use Rattle.std.proofs.Common.{◌≡◌, ℕ, zero, suc, Bool, true, false, max, nat_le, List, [], ◌∷◌, ◌++◌, ◌+◌, ◌<◌, ◌≤◌, ◌⊎◌, inl, inr, Some, refl, ap, sym, ◌∙◌, subst, arith}
use Rattle.std.proofs.lemmas.Bool.{leb-true, leb-false}
use Rattle.std.specs.List.{AllByRecursion}
use Rattle.channel_sim.specs.Tidy.{AreAbove}
use Rattle.channel_sim.specs.World.{World, hands_up, hands_down, session_count}
use Rattle.channel_sim.specs.World as world
use Rattle.channel_sim.proofs.BoundLemmas as bound
use Rattle.call_floor.specs.declared.entry.FloorEntry.{FloorEntry}
use Rattle.call_floor.specs.declared.listener.Tagged.{Tagged}
use Rattle.call_floor.specs.declared.live.Live as kept_live
use Rattle.call_floor.specs.declared.seat.Seat as kept_seat
use Rattle.call_floor.specs.Floor.{Floor, FloorStep, Stand, Turn, own, own_of, stand_of, calls_of, due_turns, plays, session_turns, sessions_pass, flows_up, turn, unit, units, vehicle_turns, vehicles_pass}
use Rattle.call_floor.specs.FloorKept.{IsKept}
use Rattle.call_floor.specs.FloorLines.{ends}
use Rattle.call_floor.specs.FloorStands.{AreLive}
use Rattle.call_floor.specs.Tagged.{heard, FloorGrew}
use Rattle.call_floor.specs.inner.FloorAt.{FloorIs, Resting, numbers_of, passes_of}
use Rattle.call_floor.specs.inner.Placed.{InPlace}
use Rattle.call_floor.proofs.Apart.{AllStill}
use Rattle.call_floor.proofs.Elapsing.{kept_ready, ready_units, units_sum, units_tick}
use Rattle.call_floor.proofs.Loops.{passes_front, passes_more}
use Rattle.call_floor.proofs.Moment.{Jumped, quiet_jump, there, some_world}
use Rattle.call_floor.proofs.Paired.{FoundIn, found_all}
use Rattle.call_floor.proofs.Sleeping.{turn_drawn}
use Rattle.call_floor.proofs.StillLemmas.{up_still, down_still}
use Rattle.call_floor.proofs.TurnWorlds.{any}
use Rattle.call_floor.proofs.UnitApart.{UnitsOwn, due_turns_still, session_turns_still, units_numbers, units_own, vehicles_still}

-- The vehicles are quiet up to the next moment: it is the soonest of their next ticks, or the very next tick.
pub quiet_next : (soon now tick n : ℕ) (xs : List kept_seat.Seat) → (tick ≡ soon) ⊎ (tick ≡ now + 1) → now + n + 1 ≡ tick → AllByRecursion (λ x. soon ≤ x.next) xs → AllByRecursion (λ x. (n ≡ 0) ⊎ (tick ≤ x.next)) xs
quiet_next soon now tick n [] is sum h = tt
quiet_next soon now tick n (x ∷ xs) is sum h = (by is, quiet_next soon now tick n xs is sum h.1)
  where
    by : (tick ≡ soon) ⊎ (tick ≡ now + 1) → (n ≡ 0) ⊎ (tick ≤ x.next)
    by (inl e) = let low : soon ≤ x.next = h.0 in inr (omega (arith, e, low))
    by (inr e) = inl (omega (arith, e, sum))

pub by_max : (soon now tick : ℕ) → tick ≡ max soon (now + 1) → (tick ≡ soon) ⊎ (tick ≡ now + 1)
by_max soon now tick is = which (nat_le (now + 1) soon) refl
  where
    which : (b : Bool) → nat_le (now + 1) soon ≡ b → (tick ≡ soon) ⊎ (tick ≡ now + 1)
    which true e = let low : now + 1 ≤ soon = leb-true (now + 1) soon e in inl (omega (arith, is, low))
    which false e = let low : soon < now + 1 = leb-false (now + 1) soon e in inr (omega (arith, is, low))

-- nothing happens up to the end
pub quiet_all : (soon past n : ℕ) (xs : List kept_seat.Seat) → past ≤ soon → AllByRecursion (λ x. soon ≤ x.next) xs → AllByRecursion (λ x. (n ≡ 0) ⊎ (past ≤ x.next)) xs
quiet_all soon past n [] late h = tt
quiet_all soon past n (x ∷ xs) late h = let low : soon ≤ x.next = h.0 in (inr (omega (arith, low, late)), quiet_all soon past n xs late h.1)

-- What holds of the floor so many ticks behind the line's begin.

pub live_units : (s : ℕ) (w : Floor) (ls : List kept_live.Live) → IsKept w → AreLive w.stands 1 w.drawn ls → AreLive (units s w).floor.stands 1 (units s w).floor.drawn ls
live_units s w ls kept live = (ready_units s w ls (kept_ready w ls kept live)).live

-- the tick of the next moment
pub next_at : (start now tick k n : ℕ) (w : Floor) → w.tick ≡ start → start + k ≡ now → now + n + 1 ≡ tick → (units k w).floor.tick + n + 1 ≡ tick
next_at start now tick k n w at so_far next = let reached = units_tick k w in omega (arith, reached, at, so_far, next)

-- nothing happens in so many ticks
pub quiet_on : (start n : ℕ) (xs : List kept_seat.Seat) (w : Floor) (ls : List kept_live.Live) → FloorIs (Resting start) xs w → AllByRecursion (λ x. (n ≡ 0) ⊎ (w.tick + n + 1 ≤ x.next)) xs → IsKept w → AreLive w.stands 1 w.drawn ls → Jumped start n xs w
quiet_on start n xs w ls h quiet kept live = quiet_jump start n (w.tick + n + 1) xs w h refl quiet (kept_ready w ls kept live).placed

-- The ticks so far, and then some more.
module _ {H : Type 0} (grew partly : H → H → List FloorEntry → Type 0) (s k t : ℕ) (w : Floor) (sum : s + k ≡ t) where
  pub units_on : ((a b c : H) (u v : List FloorEntry) → grew a b u → grew b c v → grew a c (u ++ v)) → (start : ℕ) (ys : List kept_seat.Seat) (a b c : Tagged H) → FloorGrew grew a b (units s w).entries → FloorGrew grew b c (units k (units s w).floor).entries × FloorIs (Resting start) ys (units k (units s w).floor).floor → FloorGrew grew a c (units t w).entries × FloorIs (Resting start) ys (units t w).floor
  units_on twice start ys a b c first second =
      subst (λ n. FloorGrew grew a c (units n w).entries × FloorIs (Resting start) ys (units n w).floor) sum
      (subst (λ (z : FloorStep). FloorGrew grew a c z.entries × FloorIs (Resting start) ys z.floor) (sym (units_sum s k w))
      ((second.0.0 ∙ first.0, twice (heard a) (heard b) (heard c) (units s w).entries (units k (units s w).floor).entries first.1 second.0.1), second.1))

  pub units_cut : ((a b c : H) (u v : List FloorEntry) → grew a b u → partly b c v → partly a c (u ++ v)) → (a b c : Tagged H) → FloorGrew grew a b (units s w).entries → FloorGrew partly b c (units k (units s w).floor).entries → FloorGrew partly a c (units t w).entries
  units_cut then_partly a b c first second =
      subst (λ n. FloorGrew partly a c (units n w).entries) sum
      (subst (λ (z : FloorStep). FloorGrew partly a c z.entries) (sym (units_sum s k w))
      (second.0 ∙ first.0, then_partly (heard a) (heard b) (heard c) (units s w).entries (units k (units s w).floor).entries first.1 second.1))

  pub units_longer : ((a b : H) (u v : List FloorEntry) → partly a b u → partly a b (u ++ v)) → (a b : Tagged H) → FloorGrew partly a b (units s w).entries → FloorGrew partly a b (units t w).entries
  units_longer longer a b part =
      subst (λ n. FloorGrew partly a b (units n w).entries) sum
      (subst (λ (z : FloorStep). FloorGrew partly a b z.entries) (sym (units_sum s k w))
      (part.0, longer (heard a) (heard b) (units s w).entries (units k (units s w).floor).entries part.1))

module _ (s k t : ℕ) (w : Floor) (sum : s + k ≡ t) where
  pub units_passed : (m before after : ℕ) → before ≤ m + passes_of (units s w) → after ≤ before + passes_of (units k (units s w).floor) → after ≤ m + passes_of (units t w)
  units_passed m before after first second =
      subst (λ n. after ≤ m + passes_of (units n w)) sum
      (subst (λ (z : FloorStep). after ≤ m + passes_of z) (sym (units_sum s k w)) (passes_more (units s w) (units k) m before after first second))

  pub units_front : (m after : ℕ) → after ≤ m + passes_of (units s w) → after ≤ m + passes_of (units t w)
  units_front m after first =
      subst (λ n. after ≤ m + passes_of (units n w)) sum
      (subst (λ (z : FloorStep). after ≤ m + passes_of z) (sym (units_sum s k w)) (passes_front (units s w) (units k) m after first))

-- No number is drawn in elapsed time.

plays_drawn : (ts : List Turn) → AllStill any ts → (w : Floor) → (plays ts w).floor.drawn ≡ w.drawn
plays_drawn [] h w = refl
plays_drawn (t ∷ ts) h w = plays_drawn ts h.1 (turn t.vehicle t.act w).floor ∙ turn_drawn t.vehicle t.act h.0 w

unit_drawn : (w : Floor) → (unit w).floor.drawn ≡ w.drawn
unit_drawn w =
    let w1 : Floor = record w { tick = w.tick + 1 } in
    let a : Floor = (vehicles_pass w1).floor in
    let b : Floor = (sessions_pass a).floor in
    let c : Floor = (flows_up b).floor in
    plays_drawn (due_turns hands_down (λ k. k.down) c.down_flow c.tick (calls_of c)) (due_turns_still any hands_down (down_still any) (λ k. k.down) c.down_flow c.tick (calls_of c)) c
    ∙ plays_drawn (due_turns hands_up (λ k. k.up) b.up_flow b.tick (calls_of b)) (due_turns_still any hands_up (up_still any) (λ k. k.up) b.up_flow b.tick (calls_of b)) b
    ∙ plays_drawn (session_turns (calls_of a)) (session_turns_still any (calls_of a)) a
    ∙ plays_drawn (vehicle_turns w1.stands) (vehicles_still any w1.stands) w1

pub units_drawn : (n : ℕ) (w : Floor) → (units n w).floor.drawn ≡ w.drawn
units_drawn zero w = refl
units_drawn (suc n) w = units_drawn n (unit w).floor ∙ unit_drawn w

-- No end comes in elapsed time.

ends_pairs : (w u : Floor) → ((s t : Stand) → s.number ≡ t.number → stand_of s.number w.stands ≡ Some s → stand_of t.number u.stands ≡ Some t → session_count t.calls ≤ session_count s.calls) → (ss ts : List Stand) → numbers_of ts ≡ numbers_of ss → FoundIn w.stands ss → FoundIn u.stands ts → ends ts ≤ ends ss
ends_pairs w u few [] [] same a b = omega arith
ends_pairs w u few [] (t ∷ ts) same a b = cc
ends_pairs w u few (s ∷ ss) [] same a b = cc
ends_pairs w u few (s ∷ ss) (t ∷ ts) same a b =
    let number : t.number ≡ s.number = cc in
    let others : numbers_of ts ≡ numbers_of ss = cc in
    let one : session_count t.calls ≤ session_count s.calls = few s t (sym number) a.0 b.0 in
    let rest : ends ts ≤ ends ss = ends_pairs w u few ss ts others a.1 b.1 in
    omega (arith, one, rest)

pub units_ends : (n : ℕ) (w : Floor) → AreAbove 0 (numbers_of w.stands) → ((v : ℕ) (u : World) → own_of v w ≡ Some u → InPlace v w.drawn u) → ends (units n w).floor.stands ≤ ends w.stands
units_ends n w order placed =
    ends_pairs w (units n w).floor few w.stands (units n w).floor.stands (units_numbers n w) (found_all 0 w.stands order)
    (found_all 0 (units n w).floor.stands (subst (AreAbove 0) (sym (units_numbers n w)) order))
  where
    few : (s t : Stand) → s.number ≡ t.number → stand_of s.number w.stands ≡ Some s → stand_of t.number (units n w).floor.stands ≡ Some t → session_count t.calls ≤ session_count s.calls
    few s t same found behind =
        let its : own_of s.number w ≡ Some (own w s) = there s.number w s found in
        let all : UnitsOwn s.number n w (own w s) = units_own s.number n w (own w s) order its (placed s.number (own w s) its) in
        let now : own_of s.number (units n w).floor ≡ Some (own (units n w).floor t) = ap (λ m. own_of m (units n w).floor) same ∙ there t.number (units n w).floor t behind in
        let is : (world.units n (own w s)).world ≡ own (units n w).floor t = some_world (world.units n (own w s)).world (own (units n w).floor t) (sym all.its.there ∙ now) in
        let fewer : world.ends (world.units n (own w s)).world ≤ world.ends (own w s) = bound.units_ends n (own w s) in
        let count : world.ends (own (units n w).floor t) ≤ world.ends (own w s) = subst (λ (z : World). world.ends z ≤ world.ends (own w s)) is fewer in
        omega (arith, count)
