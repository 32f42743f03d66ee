-- From one tick at which something happens to the next, on the definitions' floor and on the one that is kept.
use Rattle.std.proofs.Common.{◌≡◌, ℕ, zero, suc, false, List, [], ◌∷◌, ◌++◌, ◌+◌, ◌<◌, ◌≤◌, ◌⊎◌, Option, Some, None, IfSome, length, nat_le, option_map, refl, ap, sym, ◌∙◌, subst, arith}
use Rattle.std.specs.List.{AllByRecursion}
use Rattle.channel_sim.specs.World.{World, Step, hands_up, hands_down}
use Rattle.channel_sim.specs.World as world
use Rattle.channel_sim.proofs.Jump.{units_one}
use Rattle.call_floor.specs.declared.event.FloorEvent.TheVariants as floor_event
use Rattle.call_floor.specs.declared.live.Live as kept_live
use Rattle.call_floor.specs.declared.seat.Seat as kept_seat
use Rattle.call_floor.specs.Floor.{Floor, FloorStep, Stand, Turn, stand_of, own, own_of, and_then, calls_of, due_turns, plays, quiet_floor, session_turns, sessions_pass, flows_up, turn, unit, units, vehicle_turns, vehicles_pass}
use Rattle.call_floor.specs.FloorKept.{IsPlaced, IsKept}
use Rattle.call_floor.specs.FloorStands.{AreLive}
use Rattle.call_floor.specs.inner.Changes.{ArePaired, IsWoken}
use Rattle.call_floor.specs.inner.FloorAt.{Amid, FloorIs, Resting, passes_of, unit_if}
use Rattle.call_floor.specs.inner.Placed.{InPlace, IsReady}
use Rattle.call_floor.proofs.FloorSteps.{in_place, kept_step}
use Rattle.call_floor.proofs.LiveCalls.{ready_plays}
use Rattle.call_floor.proofs.Loops.{passes_then}
use Rattle.call_floor.proofs.Moment.{Done, Jumped, acts_at, done_all, quiet_jump, quiet_past, rests_silent, some_world, woken_all, seat_own, marked, IsMarked}
use Rattle.call_floor.proofs.Sleeping.{SameIf, AreActing, followed_by, quiet_first, turn_tick, unit_acting, unit_alike}
use Rattle.call_floor.proofs.StillLemmas.{up_still, down_still}
use Rattle.call_floor.proofs.UnitApart.{due_turns_still, session_turns_still, vehicles_still}
use Rattle.std.proofs.Common.{append-nil, add-zero, append_assoc, add_assoc}
use Rattle.std.proofs.lemmas.Bool.{leb-false}

quiet_behind : (s : FloorStep) → and_then s quiet_floor ≡ s
quiet_behind s =
    ap (λ es. record { entries = es; floor = s.floor; handed = s.handed + 0 }) (append-nil s.entries)
    ∙ ap (λ n. record { entries = s.entries; floor = s.floor; handed = n }) (add-zero s.handed)

then_assoc : (s t u : FloorStep) → followed_by (followed_by s t) u ≡ followed_by s (followed_by t u)
then_assoc s t u =
    ap (λ es. record { entries = es; floor = u.floor; handed = (s.handed + t.handed) + u.handed }) (append_assoc s.entries t.entries u.entries)
    ∙ ap (λ n. record { entries = s.entries ++ (t.entries ++ u.entries); floor = u.floor; handed = n }) (add_assoc s.handed t.handed u.handed)

-- Ticks of the floor.

units_more : (n : ℕ) (w : Floor) → units (suc n) w ≡ and_then (units n w) unit
units_more zero w = quiet_behind (unit w) ∙ sym (quiet_first w unit)
units_more (suc n) w =
    let one : FloorStep = unit w in
    ap (followed_by one) (units_more n one.floor)
    ∙ sym (then_assoc one (units n one.floor) (unit (units n one.floor).floor))

pub units_next : (n : ℕ) (w : Floor) → units (n + 1) w ≡ and_then (units n w) unit
units_next n w = let e : n + 1 ≡ suc n = omega arith in ap (λ m. units m w) e ∙ units_more n w

pub units_sum : (m n : ℕ) (w : Floor) → units (m + n) w ≡ and_then (units m w) (units n)
units_sum zero n w = let e : 0 + n ≡ n = omega arith in ap (λ m. units m w) e ∙ sym (quiet_first w (units n))
units_sum (suc m) n w =
    let e : suc m + n ≡ suc (m + n) = omega arith in
    let one : FloorStep = unit w in
    ap (λ k. units k w) e
    ∙ ap (followed_by one) (units_sum m n one.floor)
    ∙ sym (then_assoc one (units m one.floor) (units n (units m one.floor).floor))

plays_tick : (ts : List Turn) (w : Floor) → (plays ts w).floor.tick ≡ w.tick
plays_tick [] w = refl
plays_tick (t ∷ ts) w = plays_tick ts (turn t.vehicle t.act w).floor ∙ turn_tick t.vehicle t.act w

unit_tick : (w : Floor) → (unit w).floor.tick ≡ w.tick + 1
unit_tick w =
    let w1 : Floor = record w { tick = w.tick + 1 } in
    let a : Floor = (vehicles_pass w1).floor in
    let b : Floor = (sessions_pass a).floor in
    let c : Floor = (flows_up b).floor in
    plays_tick (due_turns hands_down (λ k. k.down) c.down_flow c.tick (calls_of c)) c
    ∙ plays_tick (due_turns hands_up (λ k. k.up) b.up_flow b.tick (calls_of b)) b
    ∙ plays_tick (session_turns (calls_of a)) a
    ∙ plays_tick (vehicle_turns w1.stands) w1

pub units_tick : (n : ℕ) (w : Floor) → (units n w).floor.tick ≡ w.tick + n
units_tick zero w = omega arith
units_tick (suc n) w = let one = unit_tick w in let rest = units_tick n (unit w).floor in omega (arith, one, rest)

-- What is ready stays so.

own_back : (v : ℕ) (w : Floor) (later : World) → own_of v (record w { tick = w.tick + 1 }) ≡ Some later → (u : World) × (own_of v w ≡ Some u) × (later ≡ record u { tick = u.tick + 1 })
own_back v w later h = by (stand_of v w.stands) h
  where
    by : (o : Option Stand) → option_map (own (record w { tick = w.tick + 1 })) o ≡ Some later → (u : World) × (option_map (own w) o ≡ Some u) × (later ≡ record u { tick = u.tick + 1 })
    by None f = cc
    by (Some s) f = (own w s, refl, sym (some_world (own (record w { tick = w.tick + 1 }) s) later f))

pub ready_later : (w : Floor) (ls : List kept_live.Live) → IsReady w ls → IsReady (record w { tick = w.tick + 1 }) ls
ready_later w ls h =
    record {
      live = h.live;
      placed = λ v later its.
          let was = own_back v w later its in
          let at : InPlace v w.drawn was.0 = h.placed v was.0 was.1 in
          subst (InPlace v w.drawn) (sym was.2) (record { order = at.order; numbers = at.numbers });
    }

pub ready_unit : (w : Floor) (ls : List kept_live.Live) → IsReady w ls → IsReady (unit w).floor ls
ready_unit w ls h =
    let w1 : Floor = record w { tick = w.tick + 1 } in
    let a : Floor = (vehicles_pass w1).floor in
    let b : Floor = (sessions_pass a).floor in
    let c : Floor = (flows_up b).floor in
    ready_plays (due_turns hands_down (λ k. k.down) c.down_flow c.tick (calls_of c)) (λ P. due_turns_still P hands_down (down_still P) (λ k. k.down) c.down_flow c.tick (calls_of c)) c ls
    (ready_plays (due_turns hands_up (λ k. k.up) b.up_flow b.tick (calls_of b)) (λ P. due_turns_still P hands_up (up_still P) (λ k. k.up) b.up_flow b.tick (calls_of b)) b ls
    (ready_plays (session_turns (calls_of a)) (λ P. session_turns_still P (calls_of a)) a ls
    (ready_plays (vehicle_turns w1.stands) (λ P. vehicles_still P w1.stands) w1 ls (ready_later w ls h))))

pub ready_units : (n : ℕ) (w : Floor) (ls : List kept_live.Live) → IsReady w ls → IsReady (units n w).floor ls
ready_units zero w ls h = h
ready_units (suc n) w ls h = ready_units n (unit w).floor ls (ready_unit w ls h)

pub kept_ready : (w : Floor) (ls : List kept_live.Live) → IsKept w → AreLive w.stands 1 w.drawn ls → IsReady w ls
kept_ready w ls kept live = record { live = live; placed = λ v u its. placed v (own_of v w) u its (kept.placed v) }
  where
    placed : (v : ℕ) (o : Option World) (u : World) → o ≡ Some u → IfSome o (IsPlaced v w.drawn) → InPlace v w.drawn u
    placed v None u e h = cc
    placed v (Some x) u e h = subst (InPlace v w.drawn) (some_world x u e) (in_place v w.drawn x h)

pub kept_units : (n : ℕ) (w : Floor) → IsKept w → IsKept (units n w).floor
kept_units n w kept = kept_step w (floor_event.Tick n) kept

-- A moment: n quiet ticks, and the tick behind them.
module _ (floor n tick : ℕ) (xs : List kept_seat.Seat) (w : Floor) (ls : List kept_live.Live) (h : FloorIs (Resting floor) xs w) (next : w.tick + n + 1 ≡ tick) (quiet : AllByRecursion (λ x. (n ≡ 0) ⊎ (tick ≤ x.next)) xs) (ready : IsReady w ls) where
  -- behind the quiet ticks
  abbrev pub later : Floor
  later = (units n w).floor

  abbrev pub begun : Floor
  begun = record ((units n w).floor) { tick = (units n w).floor.tick + 1 }

  jump : Jumped floor n xs w
  jump = quiet_jump floor n tick xs w h next quiet ready.placed

  now : later.tick + 1 ≡ tick
  now = let t = units_tick n w in omega (arith, t, next)

  pub begins : begun.tick ≡ tick
  begins = now

  pub begun_ready : IsReady begun ls
  begun_ready = ready_later later ls (ready_units n w ls ready)

  pub wakes : (ys : List kept_seat.Seat) → ArePaired (IsWoken tick) xs ys → FloorIs (Amid (acts_at tick xs) tick floor (λ v. w.tick + n) (λ v c. w.tick + n)) ys begun
  wakes ys p = woken_all floor tick (w.tick + n) xs ys later jump.stands now next p

  -- nothing is told of those that sleep
  acting : AreActing (acts_at tick xs) (unit later).entries
  acting = unit_acting (acts_at tick xs) later jump.stands.order (ready_units n w ls ready).placed quiet_ones
    where
      quiet_ones : (v : ℕ) (u : World) → own_of v later ≡ Some u → acts_at tick xs v ≡ false → (world.unit u).entries ≡ []
      quiet_ones v u its off = by (stand_of v later.stands) refl its
        where
          by : (o : Option Stand) → stand_of v later.stands ≡ o → option_map (own later) o ≡ Some u → (world.unit u).entries ≡ []
          by None e f = cc
          by (Some s) e f =
              let seat = seat_own floor later v (IsMarked tick xs) xs later.stands s jump.stands.seats (marked tick floor later xs jump.stands) e in
              let same : own later s ≡ u = some_world (own later s) u f in
              let off_it : nat_le seat.0.next tick ≡ false = sym seat.2 ∙ ap (acts_at tick xs) seat.3 ∙ off in
              let late : tick < seat.0.next = leb-false seat.0.next tick off_it in
              let at : (own later s).tick + 1 ≡ tick = now in
              subst (λ (z : World). (world.unit z).entries ≡ []) same
              (ap (λ (z : Step). z.entries) (sym (units_one (own later s))) ∙ rests_silent floor seat.0 (own later s) seat.1 1 (quiet_past floor seat.0 (own later s) seat.1 tick at late))

  same : SameIf (acts_at tick xs) (unit later) (unit_if (acts_at tick xs) begun)
  same = unit_alike (acts_at tick xs) later acting

  pub told : (units (n + 1) w).entries ≡ (unit_if (acts_at tick xs) begun).entries
  told = ap (λ (s : FloorStep). s.entries) (units_next n w) ∙ ap (λ l. l ++ (unit later).entries) jump.told ∙ sym same.told

  pub few : passes_of (unit_if (acts_at tick xs) begun) ≤ passes_of (units (n + 1) w)
  few =
      let sum = passes_then (units n w) unit in
      let all = ap passes_of (units_next n w) in
      let count = ap length same.told in
      omega (arith, sum, all, count, same.few)

  pub done : (zs : List kept_seat.Seat) → FloorIs (Amid (acts_at tick xs) tick floor (λ v. tick) (λ v c. tick)) zs (unit_if (acts_at tick xs) begun).floor → FloorIs (Done (acts_at tick xs) tick floor) zs (units (n + 1) w).floor
  done zs stands =
      subst (λ (s : FloorStep). FloorIs (Done (acts_at tick xs) tick floor) zs s.floor) (sym (units_next n w))
      (done_all (acts_at tick xs) floor tick zs later now jump.stands.order (ready_units n w ls ready).placed same.alike stands)

  pub ended : (units (n + 1) w).floor.tick ≡ tick
  ended = let t = units_tick (n + 1) w in omega (arith, t, next)
