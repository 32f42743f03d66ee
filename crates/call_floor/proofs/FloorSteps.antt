-- What a step of the floor is for one vehicle: a step of the world of it alone, or none.
use Rattle.std.proofs.Common.{◌≡◌, ℕ, zero, suc, Bool, true, false, List, [], ◌∷◌, ◌++◌, ◌==◌, ◌+◌, ◌-◌, ◌≤◌, ◌<◌, ◌⊎◌, inl, inr, Option, Some, None, IfSome, is_some, map, length, option_map, if◌then◌else◌, refl, ap, sym, ◌∙◌, subst, arith, eqb-true, ne_eqb}
use Rattle.std.specs.List.{AllByRecursion}
use Rattle.link_frames.specs.Legs.{owner}
use Rattle.trace_model.specs.declared.entry.Entry.{Entry}
use Rattle.trace_model.specs.declared.event.Event.{Event}
use Rattle.trace_model.specs.declared.event.Event.TheVariants as event
use Rattle.channel_sim.specs.Fit.{Fit, IsCall}
use Rattle.call_floor.specs.inner.Order.{AreInOrder}
use Rattle.trace_fit.specs.Order as fit
use Rattle.channel_sim.specs.Tidy.{AreAbove}
use Rattle.channel_sim.specs.World.{Call, World, Step, quiet_step}
use Rattle.channel_sim.specs.World as world
use Rattle.channel_sim.specs.Lines.{step}
use Rattle.channel_sim.proofs.Whole.{step_fits}
use Rattle.call_floor.specs.declared.event.CallLine.{CallLine}
use Rattle.call_floor.specs.declared.event.FloorEvent.{FloorEvent}
use Rattle.call_floor.specs.declared.event.FloorEvent.TheVariants as floor
use Rattle.call_floor.specs.declared.event.VehicleLine.{VehicleLine}
use Rattle.call_floor.specs.FloorEvents.{vehicle_event, call_event}
use Rattle.call_floor.specs.inner.Subjects.{subject, IsTurn, event_with}
use Rattle.call_floor.specs.Floor.{Floor, FloorStep, Stand, stand_of, own, own_of, turn, units, quiet_floor}
use Rattle.call_floor.specs.FloorKept.{IsPlaced, IsKept}
use Rattle.call_floor.specs.FloorLines.{drawn_for, nothing_floor, in_call, floor_step}
use Rattle.call_floor.specs.Numbers.{entry_with, call_with}
use Rattle.call_floor.specs.inner.Placed.{IsDrawn, InPlace}
use Rattle.call_floor.specs.Parts.{how_many, place, number, alone, only, own_entries, part, kept_if, mine_in, mine_one, step_if, IsPart}
use Rattle.call_floor.proofs.Alone.{alone_low, own_at, GoesAlone, goes_alone, DrawnOn, StaysAlone, stays_alone, skip, unskip, unskip_skip, skip_zero, stays_low}
use Rattle.call_floor.proofs.EventApart.{OfIts, TurnOwn, TurnOther, DrewFor, own_turn, other_turn, step_moves, step_low, last_drawn, turn_numbers, vehicle_plain, vehicle_turn, vehicle_names, call_subject, call_renamed}
use Rattle.call_floor.proofs.Places.{apart, place_number, number_zero, number_behind, number_place, number_drawn, number_rises, number_own, place_own, how_many_own, how_many_le, length_more, place_low, drawn_low}
use Rattle.call_floor.proofs.UnitApart.{UnitsOwn, units_own, units_numbers}
use Rattle.call_floor.proofs.WorldRenumbered.{world_at, step_at, line_same, units_same}

-- each entry is of no call whose number is above n
abbrev pub EntriesLow : ℕ → List Entry → Type 0
EntriesLow n es = AllByRecursion (λ (x : Entry). fit.IsDrawn n (owner x.note)) es

pub record StepApart (v : ℕ) (s : FloorStep) (g : Step) : Type 0 where
  pub own : World
  pub there : own_of v s.floor ≡ Some own
  pub world : alone v s.floor.drawn own ≡ g.world
  pub told : part s.floor s.entries v ≡ g.entries
  pub under : own_entries v s.entries ≡ map (entry_with (number v s.floor.drawn)) g.entries
  pub low : EntriesLow (how_many v s.floor.drawn) g.entries
  pub placed : IsPlaced v s.floor.drawn own

all_behind : {A : Type 0} (P : A → Type 0) (xs ys : List A) → AllByRecursion P (xs ++ ys) → AllByRecursion P ys
all_behind P [] ys h = h
all_behind P (x ∷ xs) ys h = all_behind P xs ys h.1

-- what was drawn in a turn leaves the places
drawn_in : (v : ℕ) (ds later : List ℕ) (n last : ℕ) → DrewFor v ds later n → n ≡ last + (length ds - how_many v ds) → DrawnOn v ds later last
drawn_in v ds later n last (inl e) sum =
    let low = how_many_le v ds in
    record {
      numbers = λ k. ap (λ x. number v x k) e.0;
      places = λ c. ap (λ x. place v x c) e.0;
      count = ap (how_many v) e.0 ∙ omega (arith, e.1, sum, low);
      all = ap length e.0 ∙ omega (arith, e.1, sum, low);
    }
drawn_in v ds later n last (inr e) sum =
    let low = how_many_le v ds in
    let more = length_more ds v in
    record {
      numbers = λ k. ap (λ x. number v x k) e.0 ∙ number_own v ds k;
      places = λ c. ap (λ x. place v x c) e.0 ∙ place_own v ds c;
      count = ap (how_many v) e.0 ∙ how_many_own v ds ∙ omega (arith, e.1, sum, low);
      all = ap length e.0 ∙ omega (arith, e.1, sum, low, more);
    }

-- A line in the vehicle's own world.

next_number : (v : ℕ) (ds : List ℕ) → number v ds (how_many v ds + 1) ≡ (how_many v ds + (length ds - how_many v ds)) + 1
next_number v ds =
    let low = how_many_le v ds in
    let behind = number_behind v ds (how_many v ds) (omega arith) in
    let one : how_many v ds + 1 ≡ suc (how_many v ds) = omega arith in
    ap (number v ds) one ∙ omega (arith, low, behind)

own_line : (v : ℕ) (w : Floor) (u : World) → own_of v w ≡ Some u → IsPlaced v w.drawn u → (e mine : Event) → e ≡ event_with (number v w.drawn) mine → IsTurn (subject e) → IsTurn (subject mine) → OfIts (λ c. c ≤ how_many v w.drawn) (subject mine) → StepApart v (turn v (λ x. step x e) w) (step (alone v w.drawn u) mine)
own_line v w u h pl e mine same turns mine_turns low =
    let ds : List ℕ = w.drawn in
    let f : ℕ → ℕ = number v ds in
    let d : ℕ = length ds - how_many v ds in
    let p : World = alone v ds u in
    let g : Step = step p mine in
    let s : FloorStep = turn v (λ x. step x e) w in
    let its : TurnOwn v w s (step u e) = own_turn v (λ x. step x e) (step_moves e turns) w u h in
    let under : step u e ≡ step_at f d g =
    ap (λ x. step x e) (own_at v ds u pl)
    ∙ ap (step (world_at f d p)) same
    ∙ line_same f (apart f (place v ds) (place_number v ds)) (number_zero v ds) d mine p (λ n. next_number v ds) in
    let on : DrawnOn v ds s.floor.drawn g.world.drawn = drawn_in v ds s.floor.drawn (step u e).world.drawn g.world.drawn its.drew (ap (λ (x : Step). x.world.drawn) under) in
    let fits : Fit g.world (pl.trace ++ g.entries) = step_fits p pl.trace mine pl.fits in
    let goes : GoesAlone v s.floor.drawn (step u e) g = goes_alone v ds s.floor.drawn (step u e) g (pl.trace ++ g.entries) under on fits (step_low mine mine_turns p (alone_low v ds u pl) low) in
    record {
      own = (step u e).world;
      there = its.its.there;
      world = goes.world;
      told = ap (map (entry_with (place v s.floor.drawn))) its.its.told ∙ goes.told;
      under = its.its.told ∙ goes.under;
      low = all_behind (λ (x : Entry). fit.IsDrawn (how_many v s.floor.drawn) (owner x.note)) pl.trace g.entries (subst (λ n. AllByRecursion (λ (x : Entry). fit.IsDrawn n (owner x.note)) (pl.trace ++ g.entries)) (sym on.count) fits.drawn);
      placed = goes.placed;
    }

-- A line in another's.

nothing_told : (v : ℕ) (s : FloorStep) (own : World) (p : World) → own_of v s.floor ≡ Some own → alone v s.floor.drawn own ≡ p → own_entries v s.entries ≡ [] → IsPlaced v s.floor.drawn own → StepApart v s (quiet_step p)
nothing_told v s own p there world told placed =
    record {
      own = own;
      there = there;
      world = world;
      told = ap (map (entry_with (place v s.floor.drawn))) told;
      under = told;
      low = tt;
      placed = placed;
    }

other_line : (a v : ℕ) → (a == v) ≡ false → (w : Floor) (u : World) → own_of v w ≡ Some u → IsPlaced v w.drawn u → (e : Event) → IsTurn (subject e) → StepApart v (turn a (λ x. step x e) w) (quiet_step (alone v w.drawn u))
other_line a v apart w u h pl e turns = by its.drew
  where
    s : FloorStep
    s = turn a (λ x. step x e) w

    its : TurnOther a v w (turn a (λ x. step x e) w) u
    its = other_turn a v apart (λ x. step x e) (step_moves e turns) w u h

    by : ((turn a (λ x. step x e) w).floor.drawn ≡ w.drawn) ⊎ ((turn a (λ x. step x e) w).floor.drawn ≡ w.drawn ++ a ∷ []) → StepApart v (turn a (λ x. step x e) w) (quiet_step (alone v w.drawn u))
    by (inl same) =
        nothing_told v (turn a (λ x. step x e) w) (record u { drawn = length (turn a (λ x. step x e) w).floor.drawn }) (alone v w.drawn u) its.there
        (ap (λ ds. alone v ds (record u { drawn = length ds })) same)
        its.told
        (subst (λ ds. IsPlaced v ds (record u { drawn = length ds })) (sym same) (subst (IsPlaced v w.drawn) (sym (last_drawn v w u h)) pl))
    by (inr more) =
        let stays : StaysAlone v w.drawn (w.drawn ++ a ∷ []) u = stays_alone a v apart w.drawn u pl in
        nothing_told v (turn a (λ x. step x e) w) (record u { drawn = length (turn a (λ x. step x e) w).floor.drawn }) (alone v w.drawn u) its.there
        (ap (λ ds. alone v ds (record u { drawn = length ds })) more ∙ stays.world)
        its.told
        (subst (λ ds. IsPlaced v ds (record u { drawn = length ds })) (sym more) stays.placed)

-- Elapsed ticks.

pub in_place : (v : ℕ) (ds : List ℕ) (u : World) → IsPlaced v ds u → InPlace v ds u
in_place v ds u pl = subst (InPlace v ds) (sym pl.numbers) (record { order = first (alone v ds u).calls pl.fits.in_order; numbers = all 0 (alone v ds u).calls pl.fits.in_order pl.fits.calls })
  where
    rises : (n : ℕ) (ks : List Call) → AreInOrder n ks → AreInOrder (number v ds n) (map (call_with (number v ds)) ks)
    rises n [] h = tt
    rises n (k ∷ ks) h = (number_rises v ds n k.number h.0, rises k.number ks h.1)

    first : (ks : List Call) → AreInOrder 0 ks → AreInOrder 0 (map (call_with (number v ds)) ks)
    first ks h = subst (λ n. AreInOrder n (map (call_with (number v ds)) ks)) (number_zero v ds) (rises 0 ks h)

    one : (n k : ℕ) → n < k → k ≤ how_many v ds → IsDrawn v ds 0 (number v ds k)
    one n zero low high = absurd (omega arith)
    one n (suc k) low high = subst (IsDrawn v ds 0) (omega arith) (number_drawn v ds 0 k high)

    all : (n : ℕ) (ks : List Call) → AreInOrder n ks → AllByRecursion (IsCall (how_many v ds)) ks → AllByRecursion (λ (k : Call). IsDrawn v ds 0 k.number) (map (call_with (number v ds)) ks)
    all n [] h low = tt
    all n (k ∷ ks) h low = (one n k.number h.0 low.0.number, all k.number ks h.1 low.1)

ticks_line : (v n : ℕ) (w : Floor) (u : World) → AreAbove 0 (map (λ (s : Stand). s.number) w.stands) → own_of v w ≡ Some u → IsPlaced v w.drawn u → StepApart v (units n w) (world.units n (alone v w.drawn u))
ticks_line v n w u order h pl =
    let ds : List ℕ = w.drawn in
    let f : ℕ → ℕ = number v ds in
    let d : ℕ = length ds - how_many v ds in
    let c : ℕ = how_many v ds in
    let p : World = alone v ds u in
    let g : Step = world.units n p in
    let s : FloorStep = units n w in
    let its : UnitsOwn v n w u = units_own v n w u order h (in_place v ds u pl) in
    let under : world.units n u ≡ step_at f d g =
    ap (world.units n) (own_at v ds u pl) ∙ units_same f (apart f (place v ds) (place_number v ds)) (number_zero v ds) d n p in
    let last : (world.units n u).world.drawn ≡ length ds = its.last ∙ ap (λ (x : World). x.drawn) (sym (last_drawn v w u h)) in
    let on : DrawnOn v ds s.floor.drawn g.world.drawn = drawn_in v ds s.floor.drawn (world.units n u).world.drawn g.world.drawn (inl (its.drawn, last)) (ap (λ (x : Step). x.world.drawn) under) in
    let fits : Fit g.world (pl.trace ++ g.entries) = step_fits p pl.trace (event.Tick n) pl.fits in
    let low : g.world.vehicle.call ≤ c = stays_low c (world.units n) p (alone_low v ds u pl) (units_same (skip c) (apart (skip c) (unskip c) (unskip_skip c)) (skip_zero c) 0 n p) in
    let count : c ≡ g.world.drawn = ap (how_many v) (sym its.drawn) ∙ on.count in
    let goes : GoesAlone v s.floor.drawn (world.units n u) g = goes_alone v ds s.floor.drawn (world.units n u) g (pl.trace ++ g.entries) under on fits (omega (arith, low, count)) in
    record {
      own = (world.units n u).world;
      there = its.its.there;
      world = goes.world;
      told = ap (map (entry_with (place v s.floor.drawn))) its.its.told ∙ goes.told;
      under = its.its.told ∙ goes.under;
      low = all_behind (λ (x : Entry). fit.IsDrawn (how_many v s.floor.drawn) (owner x.note)) pl.trace g.entries (subst (λ n. AllByRecursion (λ (x : Entry). fit.IsDrawn n (owner x.note)) (pl.trace ++ g.entries)) (sym on.count) fits.drawn);
      placed = goes.placed;
    }

-- A flow.

up_line : (v delay : ℕ) (w : Floor) (u : World) → own_of v w ≡ Some u → IsPlaced v w.drawn u → StepApart v (quiet_floor (record w { up_flow = delay })) (quiet_step (record (alone v w.drawn u) { up_flow = delay }))
up_line v delay w u h pl =
    record {
      own = record u { up_flow = delay };
      there = by (stand_of v w.stands) ∙ ap (option_map (λ (x : World). record x { up_flow = delay })) h;
      world = refl;
      told = refl;
      under = refl;
      low = tt;
      placed =
          record {
            numbers = ap (λ (x : World). record x { up_flow = delay }) pl.numbers;
            last = pl.last;
            trace = pl.trace ++ [];
            fits = step_fits (alone v w.drawn u) pl.trace (event.Flow true delay) pl.fits;
          };
    }
  where
    by : (o : Option Stand) → option_map (own (record w { up_flow = delay })) o ≡ option_map (λ (x : World). record x { up_flow = delay }) (option_map (own w) o)
    by None = refl
    by (Some s) = refl

down_line : (v delay : ℕ) (w : Floor) (u : World) → own_of v w ≡ Some u → IsPlaced v w.drawn u → StepApart v (quiet_floor (record w { down_flow = delay })) (quiet_step (record (alone v w.drawn u) { down_flow = delay }))
down_line v delay w u h pl =
    record {
      own = record u { down_flow = delay };
      there = by (stand_of v w.stands) ∙ ap (option_map (λ (x : World). record x { down_flow = delay })) h;
      world = refl;
      told = refl;
      under = refl;
      low = tt;
      placed =
          record {
            numbers = ap (λ (x : World). record x { down_flow = delay }) pl.numbers;
            last = pl.last;
            trace = pl.trace ++ [];
            fits = step_fits (alone v w.drawn u) pl.trace (event.Flow false delay) pl.fits;
          };
    }
  where
    by : (o : Option Stand) → option_map (own (record w { down_flow = delay })) o ≡ option_map (λ (x : World). record x { down_flow = delay }) (option_map (own w) o)
    by None = refl
    by (Some s) = refl

-- All lines.

-- a vehicle that is there has a number above 0
there_above : (v n : ℕ) (ss : List Stand) (s : Stand) → AreAbove n (map (λ (x : Stand). x.number) ss) → stand_of v ss ≡ Some s → n < v
there_above v n [] s order found = cc
there_above v n (x ∷ xs) s order found = by (x.number == v) refl (there_above v x.number xs s order.1)
  where
    by : (b : Bool) → (x.number == v) ≡ b → (stand_of v xs ≡ Some s → x.number < v) → n < v
    by true e further = let above : n < x.number = order.0 in omega (arith, eqb-true x.number v e)
    by false e further =
        let above : n < x.number = order.0 in
        let low = further (ap (λ b. if b then Some x else stand_of v xs) (sym e) ∙ found) in
        omega (arith, low)

own_above : (v : ℕ) (w : Floor) (u : World) → AreAbove 0 (map (λ (s : Stand). s.number) w.stands) → own_of v w ≡ Some u → 0 < v
own_above v w u order h = by (stand_of v w.stands) refl h
  where
    by : (o : Option Stand) → stand_of v w.stands ≡ o → option_map (own w) o ≡ Some u → 0 < v
    by None e f = cc
    by (Some s) e f = there_above v 0 w.stands s order e

same_some : (a b : ℕ) → Some a ≡ Some b → a ≡ b
same_some a b e = cc

-- a line that names a call
call_line : (v : ℕ) (w : Floor) (u : World) → AreAbove 0 (map (λ (s : Stand). s.number) w.stands) → own_of v w ≡ Some u → IsPlaced v w.drawn u → (c : ℕ) (l : CallLine) (o : Option ℕ) → drawn_for c w.drawn ≡ o → StepApart v (in_call (call_event c l) w o) (step_if (mine_in v o (call_event (place v w.drawn c) l)) (alone v w.drawn u))
call_line v w u order h pl c l None drawn =
    let above = own_above v w u order h in
    nothing_told v (nothing_floor w) u (alone v w.drawn u) h refl
    (ap (λ b. if b then record { tick = w.tick; note = Rattle.link_frames.specs.declared.note.Note.TheVariants.Nothing } ∷ [] else []) (ne_eqb 0 v (λ z. omega (arith, z)))) pl
call_line v w u order h pl c l (Some a) drawn = by (a == v) refl
  where
    turns : (n : ℕ) → IsTurn (subject (call_event n l))
    turns n = subst IsTurn (sym (call_subject n l)) tt

    back : (n : ℕ) → drawn_for n w.drawn ≡ Some v → number v w.drawn (place v w.drawn n) ≡ n
    back zero f = cc
    back (suc n) f = number_place v w.drawn n f

    low : (n : ℕ) → drawn_for n w.drawn ≡ Some v → place v w.drawn n ≤ how_many v w.drawn
    low zero f = cc
    low (suc n) f = place_low v w.drawn n (drawn_low w.drawn n v f)

    its : drawn_for c w.drawn ≡ Some v → StepApart v (turn v (λ x. step x (call_event c l)) w) (step (alone v w.drawn u) (call_event (place v w.drawn c) l))
    its f =
        own_line v w u h pl (call_event c l) (call_event (place v w.drawn c) l)
        (sym (call_renamed (number v w.drawn) (place v w.drawn c) l ∙ ap (λ n. call_event n l) (back c f)))
        (turns c) (turns (place v w.drawn c))
        (subst (OfIts (λ n. n ≤ how_many v w.drawn)) (sym (call_subject (place v w.drawn c) l)) (low c f))

    by : (b : Bool) → (a == v) ≡ b → StepApart v (turn a (λ x. step x (call_event c l)) w) (step_if (kept_if b (call_event (place v w.drawn c) l)) (alone v w.drawn u))
    by true same =
        let here : a ≡ v = eqb-true a v same in
        subst (λ n. StepApart v (turn n (λ x. step x (call_event c l)) w) (step (alone v w.drawn u) (call_event (place v w.drawn c) l))) (sym here) (its (drawn ∙ ap Some here))
    by false other = other_line a v other w u h pl (call_event c l) (turns c)

-- a line of a vehicle
vehicle_line : (v : ℕ) (w : Floor) (u : World) → own_of v w ≡ Some u → IsPlaced v w.drawn u → (a : ℕ) (l : VehicleLine) → StepApart v (turn a (λ x. step x (vehicle_event l)) w) (step_if (kept_if (a == v) (vehicle_event l)) (alone v w.drawn u))
vehicle_line v w u h pl a l = by (a == v) refl
  where
    by : (b : Bool) → (a == v) ≡ b → StepApart v (turn a (λ x. step x (vehicle_event l)) w) (step_if (kept_if b (vehicle_event l)) (alone v w.drawn u))
    by true same =
        subst (λ n. StepApart v (turn n (λ x. step x (vehicle_event l)) w) (step (alone v w.drawn u) (vehicle_event l))) (sym (eqb-true a v same))
        (own_line v w u h pl (vehicle_event l) (vehicle_event l) (sym (vehicle_plain (number v w.drawn) l)) (vehicle_turn l) (vehicle_turn l) (vehicle_names (λ c. c ≤ how_many v w.drawn) l))
    by false other = other_line a v other w u h pl (vehicle_event l) (vehicle_turn l)

pub step_apart : (v : ℕ) (w : Floor) (u : World) → AreAbove 0 (map (λ (s : Stand). s.number) w.stands) → own_of v w ≡ Some u → IsPlaced v w.drawn u → (e : FloorEvent) → StepApart v (floor_step w e) (step_if (mine_one v w e) (alone v w.drawn u))
step_apart v w u order h pl (floor.Vehicle a l) = vehicle_line v w u h pl a l
step_apart v w u order h pl (floor.Call c l) = call_line v w u order h pl c l (drawn_for c w.drawn) refl
step_apart v w u order h pl (floor.Flow true delay) = up_line v delay w u h pl
step_apart v w u order h pl (floor.Flow false delay) = down_line v delay w u h pl
step_apart v w u order h pl (floor.Tick n) = ticks_line v n w u order h pl

-- The vehicles stay where they are.

pub step_numbers : (w : Floor) (e : FloorEvent) → map (λ (s : Stand). s.number) (floor_step w e).floor.stands ≡ map (λ (s : Stand). s.number) w.stands
step_numbers w (floor.Vehicle a l) = turn_numbers a (λ x. step x (vehicle_event l)) w
step_numbers w (floor.Call c l) = named (drawn_for c w.drawn)
  where
    named : (o : Option ℕ) → map (λ (s : Stand). s.number) (in_call (call_event c l) w o).floor.stands ≡ map (λ (s : Stand). s.number) w.stands
    named None = refl
    named (Some a) = turn_numbers a (λ x. step x (call_event c l)) w
step_numbers w (floor.Flow true delay) = refl
step_numbers w (floor.Flow false delay) = refl
step_numbers w (floor.Tick n) = units_numbers n w

-- whether a number is among these
abbrev is_in : ℕ → List ℕ → Bool
is_in v [] = false
is_in v (n ∷ ns) = if n == v then true else is_in v ns

is_there : (v : ℕ) (ss : List Stand) → is_some (stand_of v ss) ≡ is_in v (map (λ (s : Stand). s.number) ss)
is_there v [] = refl
is_there v (s ∷ ss) = by (s.number == v) (is_there v ss)
  where
    by : (b : Bool) → is_some (stand_of v ss) ≡ is_in v (map (λ (x : Stand). x.number) ss) → is_some (if b then Some s else stand_of v ss) ≡ (if b then true else is_in v (map (λ (x : Stand). x.number) ss))
    by true further = refl
    by false further = further

own_there : (v : ℕ) (w : Floor) → is_some (own_of v w) ≡ is_some (stand_of v w.stands)
own_there v w = by (stand_of v w.stands)
  where
    by : (o : Option Stand) → is_some (option_map (own w) o) ≡ is_some o
    by None = refl
    by (Some s) = refl

stays_away : (v : ℕ) (w : Floor) (e : FloorEvent) → is_some (own_of v (floor_step w e).floor) ≡ is_some (own_of v w)
stays_away v w e =
    own_there v (floor_step w e).floor
    ∙ is_there v (floor_step w e).floor.stands
    ∙ ap (is_in v) (step_numbers w e)
    ∙ sym (is_there v w.stands)
    ∙ sym (own_there v w)

-- The laws.

pub kept_step : (w : Floor) (e : FloorEvent) → IsKept w → IsKept (floor_step w e).floor
kept_step w e kept =
    record {
      order = subst (AreAbove 0) (sym (step_numbers w e)) kept.order;
      placed = λ v. by v (own_of v w) refl (kept.placed v) (own_of v (floor_step w e).floor) refl;
    }
  where
    by : (v : ℕ) (o : Option World) → own_of v w ≡ o → IfSome o (IsPlaced v w.drawn) → (later : Option World) → own_of v (floor_step w e).floor ≡ later → IfSome later (IsPlaced v (floor_step w e).floor.drawn)
    by v None here pl None there = tt
    by v None here pl (Some x) there = let away = stays_away v w e in cc
    by v (Some u) here pl None there = tt
    by v (Some u) here pl (Some x) there =
        let its : StepApart v (floor_step w e) (step_if (mine_one v w e) (alone v w.drawn u)) = step_apart v w u kept.order here pl e in
        subst (λ (o : Option World). IfSome o (IsPlaced v (floor_step w e).floor.drawn)) (sym its.there ∙ there) its.placed

-- the world alone comes of an own world
pub record OwnOf (v : ℕ) (w : Floor) (p : World) : Type 0 where
  pub own : World
  pub there : own_of v w ≡ Some own
  pub alone_is : alone v w.drawn own ≡ p
  pub placed : IsPlaced v w.drawn own

some_world : (x y : World) → Some x ≡ Some y → x ≡ y
some_world x y e = cc

pub own_for : (v : ℕ) (w : Floor) (p : World) → IsKept w → only v w ≡ Some p → OwnOf v w p
own_for v w p kept h = by (own_of v w) refl h (kept.placed v)
  where
    by : (o : Option World) → own_of v w ≡ o → option_map (alone v w.drawn) o ≡ Some p → IfSome o (IsPlaced v w.drawn) → OwnOf v w p
    by None e f pl = cc
    by (Some u) e f pl = record { own = u; there = e; alone_is = some_world (alone v w.drawn u) p f; placed = pl }

pub apart_step : (w : Floor) (e : FloorEvent) (v : ℕ) (p : World) → IsKept w → only v w ≡ Some p → IsPart v (floor_step w e).floor (floor_step w e).entries (step_if (mine_one v w e) p)
apart_step w e v p kept h =
    let o : OwnOf v w p = own_for v w p kept h in
    let its : StepApart v (floor_step w e) (step_if (mine_one v w e) (alone v w.drawn o.own)) = step_apart v w o.own kept.order o.there o.placed e in
    subst (λ (x : World). IsPart v (floor_step w e).floor (floor_step w e).entries (step_if (mine_one v w e) x)) o.alone_is
    (record {
      world = ap (option_map (alone v (floor_step w e).floor.drawn)) its.there ∙ ap Some its.world;
      told = its.told;
    })
