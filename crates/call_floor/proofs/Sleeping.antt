-- Vehicles that sleep through a tick may be left out of it: what is told is the same, and so are the worlds of the others.
use Rattle.std.proofs.Common.{◌≡◌, ℕ, suc, Bool, true, false, List, [], ◌∷◌, ◌++◌, ◌==◌, ◌+◌, ◌≤◌, Option, Some, None, is_some, map, option_map, if◌then◌else◌, refl, ap, sym, ◌∙◌, subst, arith, eqb-true, eq-eqb, zero-add}
use Rattle.std.specs.List.{AllByRecursion}
use Rattle.trace_model.specs.declared.entry.Entry.{Entry}
use Rattle.trace_model.specs.History.{Sent}
use Rattle.channel_sim.specs.Handing.{hands_way, sent_way}
use Rattle.channel_sim.specs.Tidy.{AreAbove}
use Rattle.channel_sim.specs.World.{Call, World, Step, Due, call_of, due_in, hands_up, hands_down}
use Rattle.channel_sim.specs.World as world
use Rattle.call_floor.specs.declared.entry.FloorEntry.{FloorEntry}
use Rattle.call_floor.specs.Floor.{Floor, FloorStep, Stand, Turn, Placed, stand_of, own, own_of, calls_at, entry_of, turn_in, turn, plays, quiet_floor, and_then, placed, calls_from, calls_of, vehicle_turns, session_turns, hand_turns, due_turns, vehicles_pass, sessions_pass, flows_up, flows_down, unit}
use Rattle.call_floor.specs.Parts.{own_entries}
use Rattle.call_floor.specs.inner.FloorAt.{plays_if, vehicles_if, sessions_if, flow_of, flow_turns, flows_if, ends_if, unit_if, numbers_of}
use Rattle.call_floor.specs.inner.Placed.{InPlace}
use Rattle.call_floor.proofs.Apart.{Still, AllStill, plays_drawn}
use Rattle.call_floor.proofs.EventApart.{turn_numbers}
use Rattle.call_floor.proofs.QuietFloor.{is_in, is_there, unit_of, AreOf}
use Rattle.call_floor.proofs.StillLemmas.{up_still, down_still}
use Rattle.call_floor.proofs.TurnWorlds.{any, turn_its, turn_others, turn_away}
use Rattle.call_floor.proofs.UnitApart.{UnitOwn, unit_own, vehicles_still, session_turns_still, due_turns_still}

-- A turn by the own world.

abbrev told_by : ℕ → (World → Step) → Option World → List FloorEntry
told_by v act None = []
told_by v act (Some u) = map (entry_of v) (act u).entries

abbrev handed_by : (World → Step) → Option World → ℕ
handed_by act None = 0
handed_by act (Some u) = (act u).handed

turn_told : (v : ℕ) (act : World → Step) (w : Floor) → (turn v act w).entries ≡ told_by v act (own_of v w)
turn_told v act w = by (stand_of v w.stands)
  where
    by : (o : Option Stand) → (turn_in v act w o).entries ≡ told_by v act (option_map (own w) o)
    by None = refl
    by (Some s) = refl

turn_handed : (v : ℕ) (act : World → Step) (w : Floor) → (turn v act w).handed ≡ handed_by act (own_of v w)
turn_handed v act w = by (stand_of v w.stands)
  where
    by : (o : Option Stand) → (turn_in v act w o).handed ≡ handed_by act (option_map (own w) o)
    by None = refl
    by (Some s) = refl

pub turn_own : (a v : ℕ) (act : World → Step) → Still any act → (w : Floor) → own_of v (turn a act w).floor ≡ (if a == v then option_map (λ u. (act u).world) (own_of v w) else own_of v w)
turn_own a v act still w = by (a == v) refl (own_of v w) refl
  where
    by : (b : Bool) → (a == v) ≡ b → (o : Option World) → own_of v w ≡ o → own_of v (turn a act w).floor ≡ (if b then option_map (λ u. (act u).world) o else o)
    by true e None h = turn_away a v act w h
    by true e (Some u) h =
        subst (λ n. own_of n (turn a act w).floor ≡ Some (act u).world) (eqb-true a v e) (turn_its a act still w u (ap (λ n. own_of n w) (eqb-true a v e) ∙ h))
    by false e None h = turn_away a v act w h
    by false e (Some u) h = turn_others a v e act still w u h

pub turn_tick : (v : ℕ) (act : World → Step) (w : Floor) → (turn v act w).floor.tick ≡ w.tick
turn_tick v act w = by (stand_of v w.stands)
  where
    by : (o : Option Stand) → (turn_in v act w o).floor.tick ≡ w.tick
    by None = refl
    by (Some s) = refl

turn_up : (v : ℕ) (act : World → Step) (w : Floor) → (turn v act w).floor.up_flow ≡ w.up_flow
turn_up v act w = by (stand_of v w.stands)
  where
    by : (o : Option Stand) → (turn_in v act w o).floor.up_flow ≡ w.up_flow
    by None = refl
    by (Some s) = refl

turn_down : (v : ℕ) (act : World → Step) (w : Floor) → (turn v act w).floor.down_flow ≡ w.down_flow
turn_down v act w = by (stand_of v w.stands)
  where
    by : (o : Option Stand) → (turn_in v act w o).floor.down_flow ≡ w.down_flow
    by None = refl
    by (Some s) = refl

pub turn_drawn : (v : ℕ) (act : World → Step) → Still any act → (w : Floor) → (turn v act w).floor.drawn ≡ w.drawn
turn_drawn v act still w = plays_drawn any (record { vehicle = v; act = act } ∷ []) (still, tt) w

-- Two floors that are alike for the vehicles that act.
pub record Alike (acts : ℕ → Bool) (x y : Floor) : Type 0 where
  pub tick : y.tick ≡ x.tick
  pub drawn : y.drawn ≡ x.drawn
  pub up_flow : y.up_flow ≡ x.up_flow
  pub down_flow : y.down_flow ≡ x.down_flow
  pub numbers : numbers_of y.stands ≡ numbers_of x.stands
  pub own : (v : ℕ) → acts v ≡ true → own_of v y ≡ own_of v x

alike_here : (acts : ℕ → Bool) (x : Floor) → Alike acts x x
alike_here acts x =
    record { tick = refl; drawn = refl; up_flow = refl; down_flow = refl; numbers = refl; own = λ v on. refl }

-- each entry is of a vehicle that acts
abbrev pub AreActing : (ℕ → Bool) → List FloorEntry → Type 0
AreActing acts es = AllByRecursion (λ (e : FloorEntry). acts e.vehicle ≡ true) es

acting_front : (acts : ℕ → Bool) (xs ys : List FloorEntry) → AreActing acts (xs ++ ys) → AreActing acts xs
acting_front acts [] ys h = tt
acting_front acts (x ∷ xs) ys h = (h.0, acting_front acts xs ys h.1)

acting_rest : (acts : ℕ → Bool) (xs ys : List FloorEntry) → AreActing acts (xs ++ ys) → AreActing acts ys
acting_rest acts [] ys h = h
acting_rest acts (x ∷ xs) ys h = acting_rest acts xs ys h.1

-- The turns of all, and those alone of the vehicles that act.
pub record SameIf (acts : ℕ → Bool) (s t : FloorStep) : Type 0 where
  pub told : t.entries ≡ s.entries
  pub alike : Alike acts s.floor t.floor
  pub few : t.handed ≤ s.handed

module _ (acts : ℕ → Bool) (a : ℕ) (act : World → Step) (still : Still any act) (x y : Floor) (h : Alike acts x y) where
  alike_turn : acts a ≡ true → Alike acts (turn a act x).floor (turn a act y).floor
  alike_turn on =
      record {
        tick = turn_tick a act y ∙ h.tick ∙ sym (turn_tick a act x);
        drawn = turn_drawn a act still y ∙ h.drawn ∙ sym (turn_drawn a act still x);
        up_flow = turn_up a act y ∙ h.up_flow ∙ sym (turn_up a act x);
        down_flow = turn_down a act y ∙ h.down_flow ∙ sym (turn_down a act x);
        numbers = turn_numbers a act y ∙ h.numbers ∙ sym (turn_numbers a act x);
        own = λ v its. turn_own a v act still y
            ∙ ap (λ (o : Option World). if a == v then option_map (λ (u : World). (act u).world) o else o) (h.own v its)
            ∙ sym (turn_own a v act still x);
      }

  alike_skip : acts a ≡ false → Alike acts (turn a act x).floor y
  alike_skip off =
      record {
        tick = h.tick ∙ sym (turn_tick a act x);
        drawn = h.drawn ∙ sym (turn_drawn a act still x);
        up_flow = h.up_flow ∙ sym (turn_up a act x);
        down_flow = h.down_flow ∙ sym (turn_down a act x);
        numbers = h.numbers ∙ sym (turn_numbers a act x);
        own = λ v its. h.own v its ∙ by v its (a == v) refl;
      }
    where
      by : (v : ℕ) → acts v ≡ true → (b : Bool) → (a == v) ≡ b → own_of v x ≡ own_of v (turn a act x).floor
      by v its true e = let here : a ≡ v = eqb-true a v e in let no : acts v ≡ false = subst (λ n. acts n ≡ false) here off in cc
      by v its false e =
          sym (turn_own a v act still x ∙ ap (λ b. if b then option_map (λ (u : World). (act u).world) (own_of v x) else own_of v x) e)

-- what is told of a vehicle that doesn't act is nothing
none_told : (acts : ℕ → Bool) (v : ℕ) → acts v ≡ false → (es : List Entry) → AreActing acts (map (entry_of v) es) → map (entry_of v) es ≡ []
none_told acts v off [] h = refl
none_told acts v off (e ∷ es) h = let on : acts v ≡ true = h.0 in cc

none_by : (acts : ℕ → Bool) (v : ℕ) (act : World → Step) → acts v ≡ false → (o : Option World) → AreActing acts (told_by v act o) → told_by v act o ≡ []
none_by acts v act off None h = refl
none_by acts v act off (Some u) h = none_told acts v off (act u).entries h

pub plays_alike : (acts : ℕ → Bool) (ts : List Turn) → AllStill any ts → (x y : Floor) → Alike acts x y → AreActing acts (plays ts x).entries → SameIf acts (plays ts x) (plays_if acts ts y)
plays_alike acts [] still x y h none = record { told = refl; alike = h; few = omega arith }
plays_alike acts (t ∷ ts) still x y h none =
    by (acts t.vehicle) refl (λ z l. plays_alike acts ts still.1 (turn t.vehicle t.act x).floor z l (acting_rest acts (turn t.vehicle t.act x).entries (plays ts (turn t.vehicle t.act x).floor).entries none))
  where
    first : FloorStep
    first = turn t.vehicle t.act x

    rest : FloorStep
    rest = plays ts (turn t.vehicle t.act x).floor

    by : (b : Bool) → acts t.vehicle ≡ b → ((z : Floor) → Alike acts (turn t.vehicle t.act x).floor z → SameIf acts (plays ts (turn t.vehicle t.act x).floor) (plays_if acts ts z)) → SameIf acts (plays (t ∷ ts) x) (and_then (if b then turn t.vehicle t.act y else quiet_floor y) (plays_if acts ts))
    by true on further =
        let mine : FloorStep = turn t.vehicle t.act y in
        let more : SameIf acts rest (plays_if acts ts mine.floor) = further mine.floor (alike_turn acts t.vehicle t.act still.0 x y h on) in
        let same : mine.entries ≡ first.entries = turn_told t.vehicle t.act y ∙ ap (told_by t.vehicle t.act) (h.own t.vehicle on) ∙ sym (turn_told t.vehicle t.act x) in
        let count : mine.handed ≡ first.handed = turn_handed t.vehicle t.act y ∙ ap (handed_by t.act) (h.own t.vehicle on) ∙ sym (turn_handed t.vehicle t.act x) in
        record {
          told = ap (λ l. l ++ (plays_if acts ts mine.floor).entries) same ∙ ap (λ l. first.entries ++ l) more.told;
          alike = more.alike;
          few = omega (arith, count, more.few);
        }
    by false off further =
        let more : SameIf acts rest (plays_if acts ts y) = further y (alike_skip acts t.vehicle t.act still.0 x y h off) in
        let silent : first.entries ≡ [] =
        turn_told t.vehicle t.act x
        ∙ none_by acts t.vehicle t.act off (own_of t.vehicle x) (subst (AreActing acts) (turn_told t.vehicle t.act x) (acting_front acts first.entries rest.entries none)) in
        record {
          told = more.told ∙ ap (λ l. l ++ rest.entries) (sym silent);
          alike = more.alike;
          few = omega (arith, more.few);
        }

-- Lists of turns that are the same for the vehicles that act.

abbrev pub kept_turns : (ℕ → Bool) → List Turn → List Turn
kept_turns acts [] = []
kept_turns acts (t ∷ ts) = if acts t.vehicle then t ∷ kept_turns acts ts else kept_turns acts ts

abbrev pub followed_by : FloorStep → FloorStep → FloorStep
followed_by s t = record { entries = s.entries ++ t.entries; floor = t.floor; handed = s.handed + t.handed }

pub quiet_first : (w : Floor) (f : Floor → FloorStep) → and_then (quiet_floor w) f ≡ f w
quiet_first w f = ap (λ n. record { entries = (f w).entries; floor = (f w).floor; handed = n }) (zero-add (f w).handed)

pub plays_kept : (acts : ℕ → Bool) (ts : List Turn) (w : Floor) → plays_if acts ts w ≡ plays (kept_turns acts ts) w
plays_kept acts [] w = refl
plays_kept acts (t ∷ ts) w = by (acts t.vehicle) (plays_kept acts ts)
  where
    by : (b : Bool) → ((z : Floor) → plays_if acts ts z ≡ plays (kept_turns acts ts) z) → and_then (if b then turn t.vehicle t.act w else quiet_floor w) (plays_if acts ts) ≡ plays (if b then t ∷ kept_turns acts ts else kept_turns acts ts) w
    by true further =
        ap (followed_by (turn t.vehicle t.act w)) (further (turn t.vehicle t.act w).floor)
    by false further = quiet_first w (plays_if acts ts) ∙ further w

pub same_kept : (acts : ℕ → Bool) (xs ys : List Turn) → kept_turns acts xs ≡ kept_turns acts ys → (w : Floor) → plays_if acts xs w ≡ plays_if acts ys w
same_kept acts xs ys e w = plays_kept acts xs w ∙ ap (λ ts. plays ts w) e ∙ sym (plays_kept acts ys w)

pub kept_append : (acts : ℕ → Bool) (xs ys : List Turn) → kept_turns acts (xs ++ ys) ≡ kept_turns acts xs ++ kept_turns acts ys
kept_append acts [] ys = refl
kept_append acts (x ∷ xs) ys = by (acts x.vehicle) (kept_append acts xs ys)
  where
    by : (b : Bool) → kept_turns acts (xs ++ ys) ≡ kept_turns acts xs ++ kept_turns acts ys → (if b then x ∷ kept_turns acts (xs ++ ys) else kept_turns acts (xs ++ ys)) ≡ (if b then x ∷ kept_turns acts xs else kept_turns acts xs) ++ kept_turns acts ys
    by true further = ap (λ l. x ∷ l) further
    by false further = further

abbrev pub calls_in : Option World → List Call
calls_in None = []
calls_in (Some u) = u.calls

pub calls_own : (v : ℕ) (w : Floor) → calls_at (stand_of v w.stands) ≡ calls_in (own_of v w)
calls_own v w = by (stand_of v w.stands)
  where
    by : (o : Option Stand) → calls_at o ≡ calls_in (option_map (own w) o)
    by None = refl
    by (Some s) = refl

-- a list made of placed calls, where those of vehicles that don't act are left out
module _ (acts : ℕ → Bool) (x y : Floor) (h : Alike acts x y) (turns : List Placed → List Turn) (none : turns [] ≡ []) (more : (v : ℕ) (o : Option Call) (ks : List Placed) → kept_turns acts (turns (placed v o ++ ks)) ≡ (if acts v then turns (placed v o) else []) ++ kept_turns acts (turns ks)) where
  kept_from : (c : ℕ) (ds : List ℕ) → kept_turns acts (turns (calls_from y.stands c ds)) ≡ kept_turns acts (turns (calls_from x.stands c ds))
  kept_from c [] = refl
  kept_from c (v ∷ ds) =
      more v (call_of c (calls_at (stand_of v y.stands))) (calls_from y.stands (suc c) ds)
      ∙ by (acts v) refl
      ∙ ap (λ l. (if acts v then turns (placed v (call_of c (calls_at (stand_of v x.stands)))) else []) ++ l) (kept_from (suc c) ds)
      ∙ sym (more v (call_of c (calls_at (stand_of v x.stands))) (calls_from x.stands (suc c) ds))
    where
      by : (b : Bool) → acts v ≡ b → (if b then turns (placed v (call_of c (calls_at (stand_of v y.stands)))) else []) ++ kept_turns acts (turns (calls_from y.stands (suc c) ds)) ≡ (if b then turns (placed v (call_of c (calls_at (stand_of v x.stands)))) else []) ++ kept_turns acts (turns (calls_from y.stands (suc c) ds))
      by true on =
          ap (λ ks. turns (placed v (call_of c ks)) ++ kept_turns acts (turns (calls_from y.stands (suc c) ds))) (calls_own v y ∙ ap calls_in (h.own v on) ∙ sym (calls_own v x))
      by false off = refl

  kept_calls : kept_turns acts (turns (calls_of y)) ≡ kept_turns acts (turns (calls_of x))
  kept_calls = ap (λ ds. kept_turns acts (turns (calls_from y.stands 1 ds))) h.drawn ∙ kept_from 1 x.drawn

sessions_more : (acts : ℕ → Bool) (v : ℕ) (o : Option Call) (ks : List Placed) → kept_turns acts (session_turns (placed v o ++ ks)) ≡ (if acts v then session_turns (placed v o) else []) ++ kept_turns acts (session_turns ks)
sessions_more acts v None ks = by (acts v)
  where
    by : (b : Bool) → kept_turns acts (session_turns ks) ≡ (if b then [] else []) ++ kept_turns acts (session_turns ks)
    by true = refl
    by false = refl
sessions_more acts v (Some k) ks = by (acts v)
  where
    by : (b : Bool) → (if b then record { vehicle = v; act = world.session_passes k.number } ∷ kept_turns acts (session_turns ks) else kept_turns acts (session_turns ks)) ≡ (if b then record { vehicle = v; act = world.session_passes k.number } ∷ [] else []) ++ kept_turns acts (session_turns ks)
    by true = refl
    by false = refl

pub kept_hands : (acts : ℕ → Bool) (v : ℕ) (hands : Due → World → Step) (ds : List Due) → kept_turns acts (hand_turns v hands ds) ≡ (if acts v then hand_turns v hands ds else [])
kept_hands acts v hands [] = neither (acts v)
  where
    none : List Turn
    none = []

    neither : (b : Bool) → none ≡ (if b then none else none)
    neither true = refl
    neither false = refl
kept_hands acts v hands (d ∷ ds) = by (acts v) (kept_hands acts v hands ds)
  where
    by : (b : Bool) → kept_turns acts (hand_turns v hands ds) ≡ (if b then hand_turns v hands ds else []) → (if b then record { vehicle = v; act = hands d } ∷ kept_turns acts (hand_turns v hands ds) else kept_turns acts (hand_turns v hands ds)) ≡ (if b then record { vehicle = v; act = hands d } ∷ hand_turns v hands ds else [])
    by true further = ap (λ l. record { vehicle = v; act = hands d } ∷ l) further
    by false further = further

pub append_none : {A : Type 0} (xs : List A) → xs ++ [] ≡ xs
append_none [] = refl
append_none (x ∷ xs) = ap (λ l. x ∷ l) (append_none xs)

pub due_more : (acts : ℕ → Bool) (hands : Due → World → Step) (sent : Call → List Sent) (delay now : ℕ) (v : ℕ) (o : Option Call) (ks : List Placed) → kept_turns acts (due_turns hands sent delay now (placed v o ++ ks)) ≡ (if acts v then due_turns hands sent delay now (placed v o) else []) ++ kept_turns acts (due_turns hands sent delay now ks)
due_more acts hands sent delay now v None ks = by (acts v)
  where
    by : (b : Bool) → kept_turns acts (due_turns hands sent delay now ks) ≡ (if b then [] else []) ++ kept_turns acts (due_turns hands sent delay now ks)
    by true = refl
    by false = refl
due_more acts hands sent delay now v (Some k) ks =
    let ds : List Due = due_in sent delay now (k ∷ []) in
    kept_append acts (hand_turns v hands ds) (due_turns hands sent delay now ks)
    ∙ ap (λ l. l ++ kept_turns acts (due_turns hands sent delay now ks)) (kept_hands acts v hands ds ∙ ap (λ l. if acts v then l else []) (sym (append_none (hand_turns v hands ds))))

pub kept_sessions : (acts : ℕ → Bool) (x y : Floor) → Alike acts x y → kept_turns acts (session_turns (calls_of x)) ≡ kept_turns acts (session_turns (calls_of y))
kept_sessions acts x y h = sym (kept_calls acts x y h session_turns refl (sessions_more acts))

pub kept_flows : (acts : ℕ → Bool) (up : Bool) (x y : Floor) → Alike acts x y → kept_turns acts (flow_turns up x) ≡ kept_turns acts (flow_turns up y)
kept_flows acts up x y h =
    sym (ap (λ n. kept_turns acts (due_turns (hands_way up) (sent_way up) n y.tick (calls_of y))) (delay up)
    ∙ ap (λ n. kept_turns acts (due_turns (hands_way up) (sent_way up) (flow_of up x) n (calls_of y))) h.tick
    ∙ kept_calls acts x y h (due_turns (hands_way up) (sent_way up) (flow_of up x) x.tick) refl (due_more acts (hands_way up) (sent_way up) (flow_of up x) x.tick))
  where
    delay : (b : Bool) → flow_of b y ≡ flow_of b x
    delay true = h.up_flow
    delay false = h.down_flow

-- Phases.

pub way_still : (P : ℕ → Type 0) (up : Bool) (d : Due) → Still P (hands_way up d)
way_still P true d = up_still P d
way_still P false d = down_still P d

sessions_alike : (acts : ℕ → Bool) (x y : Floor) → Alike acts x y → AreActing acts (sessions_pass x).entries → SameIf acts (sessions_pass x) (sessions_if acts y)
sessions_alike acts x y h none =
    subst (SameIf acts (sessions_pass x)) (same_kept acts (session_turns (calls_of x)) (session_turns (calls_of y)) (kept_sessions acts x y h) y)
    (plays_alike acts (session_turns (calls_of x)) (session_turns_still any (calls_of x)) x y h none)

flows_alike : (acts : ℕ → Bool) (up : Bool) (x y : Floor) → Alike acts x y → AreActing acts (plays (flow_turns up x) x).entries → SameIf acts (plays (flow_turns up x) x) (flows_if acts up y)
flows_alike acts up x y h none =
    subst (SameIf acts (plays (flow_turns up x) x)) (same_kept acts (flow_turns up x) (flow_turns up y) (kept_flows acts up x y h) y)
    (plays_alike acts (flow_turns up x) (due_turns_still any (hands_way up) (way_still any up) (sent_way up) (flow_of up x) x.tick (calls_of x)) x y h none)

then_same : (acts : ℕ → Bool) (s t : FloorStep) (f g : Floor → FloorStep) → SameIf acts s t → SameIf acts (f s.floor) (g t.floor) → SameIf acts (and_then s f) (and_then t g)
then_same acts s t f g one two =
    record {
      told = ap (λ l. l ++ (g t.floor).entries) one.told ∙ ap (λ l. s.entries ++ l) two.told;
      alike = two.alike;
      few = omega (arith, one.few, two.few);
    }

-- A unit tick, where nothing is told of those that don't act.
pub unit_alike : (acts : ℕ → Bool) (w : Floor) → AreActing acts (unit w).entries → SameIf acts (unit w) (unit_if acts (record w { tick = w.tick + 1 }))
unit_alike acts w none =
    let w1 : Floor = record w { tick = w.tick + 1 } in
    let a : FloorStep = vehicles_pass w1 in
    let b : FloorStep = and_then a sessions_pass in
    let c : FloorStep = and_then b flows_up in
    let none_c : AreActing acts c.entries = acting_front acts c.entries (flows_down c.floor).entries none in
    let none_b : AreActing acts b.entries = acting_front acts b.entries (flows_up b.floor).entries none_c in
    let none_a : AreActing acts a.entries = acting_front acts a.entries (sessions_pass a.floor).entries none_b in
    let same_a : SameIf acts a (vehicles_if acts w1) = plays_alike acts (vehicle_turns w1.stands) (vehicles_still any w1.stands) w1 w1 (alike_here acts w1) none_a in
    let same_b : SameIf acts b (ends_if acts w1) =
    then_same acts a (vehicles_if acts w1) sessions_pass (sessions_if acts) same_a
    (sessions_alike acts a.floor (vehicles_if acts w1).floor same_a.alike (acting_rest acts a.entries (sessions_pass a.floor).entries none_b)) in
    let same_c : SameIf acts c (and_then (ends_if acts w1) (flows_if acts true)) =
    then_same acts b (ends_if acts w1) flows_up (flows_if acts true) same_b
    (flows_alike acts true b.floor (ends_if acts w1).floor same_b.alike (acting_rest acts b.entries (flows_up b.floor).entries none_c)) in
    then_same acts c (and_then (ends_if acts w1) (flows_if acts true)) flows_down (flows_if acts false) same_c
    (flows_alike acts false c.floor (and_then (ends_if acts w1) (flows_if acts true)).floor same_c.alike (acting_rest acts c.entries (flows_down c.floor).entries none))

-- Nothing is told of those whose own worlds tell nothing.

own_rest : (acts : ℕ → Bool) (v : ℕ) (e : FloorEntry) (es : List FloorEntry) → own_entries v (e ∷ es) ≡ [] → own_entries v es ≡ []
own_rest acts v e es h = by (e.vehicle == v) refl h
  where
    by : (b : Bool) → (e.vehicle == v) ≡ b → (if b then e.entry ∷ own_entries v es else own_entries v es) ≡ [] → own_entries v es ≡ []
    by true f none = cc
    by false f none = none

acting_all : (acts : ℕ → Bool) (ns : List ℕ) (es : List FloorEntry) → AreOf ns es → ((v : ℕ) → is_in v ns ≡ true → acts v ≡ false → own_entries v es ≡ []) → AreActing acts es
acting_all acts ns [] of none = tt
acting_all acts ns (e ∷ es) of none =
    (by (acts e.vehicle) refl, acting_all acts ns es of.1 (λ v there off. own_rest acts v e es (none v there off)))
  where
    by : (b : Bool) → acts e.vehicle ≡ b → b ≡ true
    by true f = refl
    by false f =
        let silent : own_entries e.vehicle (e ∷ es) ≡ [] = none e.vehicle of.0 f in
        let first : own_entries e.vehicle (e ∷ es) ≡ e.entry ∷ own_entries e.vehicle es = ap (λ b. if b then e.entry ∷ own_entries e.vehicle es else own_entries e.vehicle es) (eq-eqb e.vehicle e.vehicle refl) in
        cc

pub unit_acting : (acts : ℕ → Bool) (w : Floor) → AreAbove 0 (numbers_of w.stands) → ((v : ℕ) (u : World) → own_of v w ≡ Some u → InPlace v w.drawn u) → ((v : ℕ) (u : World) → own_of v w ≡ Some u → acts v ≡ false → (world.unit u).entries ≡ []) → AreActing acts (unit w).entries
unit_acting acts w order placed quiet = acting_all acts (numbers_of w.stands) (unit w).entries (unit_of w) none
  where
    there : (o : Option Stand) → is_some o ≡ true → (u : World) × (option_map (own w) o ≡ Some u)
    there None h = cc
    there (Some s) h = (own w s, refl)

    none : (v : ℕ) → is_in v (numbers_of w.stands) ≡ true → acts v ≡ false → own_entries v (unit w).entries ≡ []
    none v its off =
        let found = there (stand_of v w.stands) (is_there v w.stands ∙ its) in
        let one : UnitOwn v w found.0 = unit_own v w found.0 order found.1 (placed v found.0 found.1) in
        one.its.told ∙ quiet v found.0 found.1 off
