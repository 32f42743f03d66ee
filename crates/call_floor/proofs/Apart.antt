-- Turns of other vehicles leave one vehicle's own world as it is, so that what the floor does, that world does alone.
use Rattle.std.proofs.Common.{◌≡◌, ℕ, Bool, true, false, List, [], ◌∷◌, ◌++◌, ◌==◌, Option, Some, None, map, length, option_map, if◌then◌else◌, refl, ap, sym, ◌∙◌, subst, arith, eqb-true, eq-eqb, le-ltb}
use Rattle.std.proofs.lemmas.Bool.{eqb-false}
use Rattle.std.specs.List.{AllByRecursion}
use Rattle.trace_model.specs.declared.entry.Entry.{Entry}
use Rattle.call_floor.specs.inner.Order.{AreInOrder}
use Rattle.channel_sim.specs.World.{Call, World, Step, quiet_step}
use Rattle.channel_sim.specs.World as world
use Rattle.call_floor.specs.declared.entry.FloorEntry.{FloorEntry}
use Rattle.call_floor.specs.Floor.{own_of, Floor, FloorStep, Stand, Turn, stand_of, own, put, drawn_by, entry_of, turn_in, turn, plays, and_then}
use Rattle.call_floor.specs.Parts.{own_entries}

-- What a turn within a line leaves: the world's tick, its flows, and its last call number; and its calls stay in order
-- and of numbers with P.
pub record IsStill (P : ℕ → Type 0) (u later : World) : Type 0 where
  pub tick : later.tick ≡ u.tick
  pub drawn : later.drawn ≡ u.drawn
  pub up_flow : later.up_flow ≡ u.up_flow
  pub down_flow : later.down_flow ≡ u.down_flow
  pub order : AreInOrder 0 u.calls → AreInOrder 0 later.calls
  pub numbers : AllByRecursion (λ (k : Call). P k.number) u.calls → AllByRecursion (λ (k : Call). P k.number) later.calls

abbrev pub Still : (ℕ → Type 0) → (World → Step) → Type 0
Still P act = (u : World) → IsStill P u (act u).world

-- what a vehicle's own world does, step by step
abbrev pub run : List (World → Step) → World → Step
run [] u = quiet_step u
run (a ∷ more) u = world.and_then (a u) (run more)

-- this vehicle's turns
abbrev pub acts_of : ℕ → List Turn → List (World → Step)
acts_of v [] = []
acts_of v (t ∷ ts) = if t.vehicle == v then t.act ∷ acts_of v ts else acts_of v ts

-- A step of the floor is this step in one vehicle's own world.
pub record IsOwn (v : ℕ) (s : FloorStep) (t : Step) : Type 0 where
  pub there : own_of v s.floor ≡ Some t.world
  pub told : own_entries v s.entries ≡ t.entries

-- Stands.

pub put_same : (v : ℕ) (u : World) (ss : List Stand) (s : Stand) → stand_of v ss ≡ Some s → stand_of v (put v u ss) ≡ Some (record s { vehicle = u.vehicle; calls = u.calls })
put_same v u [] s h = cc
put_same v u (x ∷ xs) s h = by (x.number == v) refl (put_same v u xs s)
  where
    by : (b : Bool) → (x.number == v) ≡ b → (stand_of v xs ≡ Some s → stand_of v (put v u xs) ≡ Some (record s { vehicle = u.vehicle; calls = u.calls })) → stand_of v (put v u (x ∷ xs)) ≡ Some (record s { vehicle = u.vehicle; calls = u.calls })
    by true e further =
        let here : Some x ≡ Some s = ap (λ b. if b then Some x else stand_of v xs) (sym e) ∙ h in
        ap (λ b. stand_of v (if b then record x { vehicle = u.vehicle; calls = u.calls } ∷ xs else x ∷ put v u xs)) e
        ∙ ap (λ b. if b then Some (record x { vehicle = u.vehicle; calls = u.calls }) else stand_of v xs) e
        ∙ ap (option_map (λ (y : Stand). record y { vehicle = u.vehicle; calls = u.calls })) here
    by false e further =
        ap (λ b. stand_of v (if b then record x { vehicle = u.vehicle; calls = u.calls } ∷ xs else x ∷ put v u xs)) e
        ∙ ap (λ b. if b then Some x else stand_of v (put v u xs)) e
        ∙ further (ap (λ b. if b then Some x else stand_of v xs) (sym e) ∙ h)

-- two numbers that differ aren't both a third one
other_number : (a v n : ℕ) → (a == v) ≡ false → (n == a) ≡ true → (n == v) ≡ false
other_number a v n apart e = by (n == v) refl
  where
    by : (b : Bool) → (n == v) ≡ b → b ≡ false
    by false f = refl
    by true f = absurd (eqb-false a v apart (sym (eqb-true n a e) ∙ eqb-true n v f))

pub put_other : (a v : ℕ) (u : World) → (a == v) ≡ false → (ss : List Stand) → stand_of v (put a u ss) ≡ stand_of v ss
put_other a v u apart [] = refl
put_other a v u apart (x ∷ xs) = by (x.number == a) refl (put_other a v u apart xs)
  where
    by : (b : Bool) → (x.number == a) ≡ b → stand_of v (put a u xs) ≡ stand_of v xs → stand_of v (put a u (x ∷ xs)) ≡ stand_of v (x ∷ xs)
    by true e further =
        let not_it : (x.number == v) ≡ false = other_number a v x.number apart e in
        ap (λ b. stand_of v (if b then record x { vehicle = u.vehicle; calls = u.calls } ∷ xs else x ∷ put a u xs)) e
        ∙ ap (λ b. if b then Some (record x { vehicle = u.vehicle; calls = u.calls }) else stand_of v xs) not_it
        ∙ ap (λ b. if b then Some x else stand_of v xs) (sym not_it)
    by false e further =
        ap (λ b. stand_of v (if b then record x { vehicle = u.vehicle; calls = u.calls } ∷ xs else x ∷ put a u xs)) e
        ∙ ap (λ o. if x.number == v then Some x else o) further

pub put_numbers : (a : ℕ) (u : World) (ss : List Stand) → map (λ (s : Stand). s.number) (put a u ss) ≡ map (λ (s : Stand). s.number) ss
put_numbers a u [] = refl
put_numbers a u (x ∷ xs) = by (x.number == a) (put_numbers a u xs)
  where
    by : (b : Bool) → map (λ (s : Stand). s.number) (put a u xs) ≡ map (λ (s : Stand). s.number) xs → map (λ (s : Stand). s.number) (if b then record x { vehicle = u.vehicle; calls = u.calls } ∷ xs else x ∷ put a u xs) ≡ x.number ∷ map (λ (s : Stand). s.number) xs
    by true further = refl
    by false further = ap (λ l. x.number ∷ l) further

-- Entries.

pub told_same : (v : ℕ) (es : List Entry) → own_entries v (map (entry_of v) es) ≡ es
told_same v [] = refl
told_same v (x ∷ xs) =
    ap (λ b. if b then x ∷ own_entries v (map (entry_of v) xs) else own_entries v (map (entry_of v) xs)) (eq-eqb v v refl)
    ∙ ap (λ l. x ∷ l) (told_same v xs)

pub told_other : (a v : ℕ) → (a == v) ≡ false → (es : List Entry) → own_entries v (map (entry_of a) es) ≡ []
told_other a v apart [] = refl
told_other a v apart (x ∷ xs) =
    ap (λ b. if b then x ∷ own_entries v (map (entry_of a) xs) else own_entries v (map (entry_of a) xs)) apart
    ∙ told_other a v apart xs

pub told_append : (v : ℕ) (xs ys : List FloorEntry) → own_entries v (xs ++ ys) ≡ own_entries v xs ++ own_entries v ys
told_append v [] ys = refl
told_append v (x ∷ xs) ys = by (x.vehicle == v) (told_append v xs ys)
  where
    by : (b : Bool) → own_entries v (xs ++ ys) ≡ own_entries v xs ++ own_entries v ys → (if b then x.entry ∷ own_entries v (xs ++ ys) else own_entries v (xs ++ ys)) ≡ (if b then x.entry ∷ own_entries v xs else own_entries v xs) ++ own_entries v ys
    by true further = ap (λ l. x.entry ∷ l) further
    by false further = further

-- Turns.

pub none_drawn : (a last : ℕ) (ds : List ℕ) → last ≡ length ds → drawn_by a last ds ≡ ds
none_drawn a last ds e = ap (λ b. if b then ds ++ a ∷ [] else ds) (le-ltb (length ds) last (omega arith))

-- the floor's line, as its own worlds have it
abbrev line_of : Floor → World → World
line_of w u = record { tick = w.tick; vehicle = u.vehicle; drawn = length w.drawn; calls = u.calls; up_flow = w.up_flow; down_flow = w.down_flow }

-- a turn that leaves the line leaves the numbers drawn
still_drawn : (P : ℕ → Type 0) (w : Floor) (s : Stand) (a : ℕ) (later : World) → IsStill P (own w s) later → drawn_by a later.drawn w.drawn ≡ w.drawn
still_drawn P w s a later h = none_drawn a later.drawn w.drawn h.drawn

still_line : (P : ℕ → Type 0) (w : Floor) (s : Stand) (later : World) → IsStill P (own w s) later → line_of w later ≡ later
still_line P w s later h =
    ap (λ n. record { tick = n; vehicle = later.vehicle; drawn = length w.drawn; calls = later.calls; up_flow = w.up_flow; down_flow = w.down_flow }) (sym h.tick)
    ∙ ap (λ n. record { tick = later.tick; vehicle = later.vehicle; drawn = n; calls = later.calls; up_flow = w.up_flow; down_flow = w.down_flow }) (sym h.drawn)
    ∙ ap (λ n. record { tick = later.tick; vehicle = later.vehicle; drawn = later.drawn; calls = later.calls; up_flow = n; down_flow = w.down_flow }) (sym h.up_flow)
    ∙ ap (λ n. record { tick = later.tick; vehicle = later.vehicle; drawn = later.drawn; calls = later.calls; up_flow = later.up_flow; down_flow = n }) (sym h.down_flow)

-- a vehicle's own turn
pub turn_same : (P : ℕ → Type 0) (v : ℕ) (act : World → Step) → Still P act → (w : Floor) (o : Option Stand) (u : World) → stand_of v w.stands ≡ o → option_map (own w) o ≡ Some u → IsOwn v (turn_in v act w o) (act u)
turn_same P v act still w None u found h = cc
turn_same P v act still w (Some s) u found h =
    subst (λ (x : World). IsOwn v (turn_in v act w (Some s)) (act x)) here
    (record {
      there =
          ap (λ ds. option_map (own (record w { stands = put v (act (own w s)).world w.stands; drawn = ds })) (stand_of v (put v (act (own w s)).world w.stands))) (still_drawn P w s v (act (own w s)).world (still (own w s)))
          ∙ ap (option_map (own (record w { stands = put v (act (own w s)).world w.stands }))) (put_same v (act (own w s)).world w.stands s found)
          ∙ ap Some (still_line P w s (act (own w s)).world (still (own w s)));
      told = told_same v (act (own w s)).entries;
    })
  where
    some_world : (x y : World) → Some x ≡ Some y → x ≡ y
    some_world x y e = cc

    here : own w s ≡ u
    here = some_world (own w s) u h

-- another vehicle's turn
pub turn_other : (P : ℕ → Type 0) (a v : ℕ) → (a == v) ≡ false → (act : World → Step) → Still P act → (w : Floor) (o : Option Stand) (u : World) → own_of v w ≡ Some u → IsOwn v (turn_in a act w o) (quiet_step u)
turn_other P a v apart act still w None u h = record { there = h; told = refl }
turn_other P a v apart act still w (Some s) u h =
    record {
      there =
          ap (λ ds. option_map (own (record w { stands = put a (act (own w s)).world w.stands; drawn = ds })) (stand_of v (put a (act (own w s)).world w.stands))) (still_drawn P w s a (act (own w s)).world (still (own w s)))
          ∙ ap (option_map (own w)) (put_other a v (act (own w s)).world apart w.stands)
          ∙ h;
      told = told_other a v apart (act (own w s)).entries;
    }

-- one step, and then another
pub then_own : (v : ℕ) (s : FloorStep) (f : Floor → FloorStep) (t : Step) (g : World → Step) → IsOwn v s t → IsOwn v (f s.floor) (g t.world) → IsOwn v (and_then s f) (world.and_then t g)
then_own v s f t g one two =
    record {
      there = two.there;
      told =
          told_append v s.entries (f s.floor).entries
          ∙ ap (λ l. l ++ own_entries v (f s.floor).entries) one.told
          ∙ ap (λ l. t.entries ++ l) two.told;
    }

-- a step that is nothing for the vehicle, and then another
pub quiet_own : (v : ℕ) (s : FloorStep) (f : Floor → FloorStep) (u : World) (t : Step) → IsOwn v s (quiet_step u) → IsOwn v (f s.floor) t → IsOwn v (and_then s f) t
quiet_own v s f u t one two =
    record {
      there = two.there;
      told = told_append v s.entries (f s.floor).entries ∙ ap (λ l. l ++ own_entries v (f s.floor).entries) one.told ∙ two.told;
    }

abbrev pub AllStill : (ℕ → Type 0) → List Turn → Type 0
AllStill P ts = AllByRecursion (λ (t : Turn). Still P t.act) ts

-- the turns of all, and one vehicle's among them
pub plays_own : (P : ℕ → Type 0) (v : ℕ) (ts : List Turn) → AllStill P ts → (w : Floor) (u : World) → own_of v w ≡ Some u → IsOwn v (plays ts w) (run (acts_of v ts) u)
plays_own P v [] still w u h = record { there = h; told = refl }
plays_own P v (t ∷ ts) still w u h =
    by (t.vehicle == v) refl (plays_own P v ts still.1 (turn t.vehicle t.act w).floor)
  where
    by : (b : Bool) → (t.vehicle == v) ≡ b → ((x : World) → own_of v (turn t.vehicle t.act w).floor ≡ Some x → IsOwn v (plays ts (turn t.vehicle t.act w).floor) (run (acts_of v ts) x)) → IsOwn v (plays (t ∷ ts) w) (run (if b then t.act ∷ acts_of v ts else acts_of v ts) u)
    by true e further =
        let its : IsOwn v (turn v t.act w) (t.act u) = turn_same P v t.act still.0 w (stand_of v w.stands) u refl h in
        let one : IsOwn v (turn t.vehicle t.act w) (t.act u) = subst (λ (n : ℕ). IsOwn v (turn n t.act w) (t.act u)) (sym (eqb-true t.vehicle v e)) its in
        then_own v (turn t.vehicle t.act w) (plays ts) (t.act u) (run (acts_of v ts)) one (further (t.act u).world one.there)
    by false e further =
        let one : IsOwn v (turn t.vehicle t.act w) (quiet_step u) = turn_other P t.vehicle v e t.act still.0 w (stand_of t.vehicle w.stands) u h in
        quiet_own v (turn t.vehicle t.act w) (plays ts) u (run (acts_of v ts) u) one (further u one.there)

-- the vehicles stay by number
pub plays_numbers : (ts : List Turn) (w : Floor) → map (λ (s : Stand). s.number) (plays ts w).floor.stands ≡ map (λ (s : Stand). s.number) w.stands
plays_numbers [] w = refl
plays_numbers (t ∷ ts) w = plays_numbers ts (turn t.vehicle t.act w).floor ∙ one (stand_of t.vehicle w.stands)
  where
    one : (o : Option Stand) → map (λ (s : Stand). s.number) (turn_in t.vehicle t.act w o).floor.stands ≡ map (λ (s : Stand). s.number) w.stands
    one None = refl
    one (Some s) = put_numbers t.vehicle (t.act (own w s)).world w.stands

-- turns within a line draw no number
pub plays_drawn : (P : ℕ → Type 0) (ts : List Turn) → AllStill P ts → (w : Floor) → (plays ts w).floor.drawn ≡ w.drawn
plays_drawn P [] still w = refl
plays_drawn P (t ∷ ts) still w =
    plays_drawn P ts still.1 (turn t.vehicle t.act w).floor ∙ one (stand_of t.vehicle w.stands)
  where
    one : (o : Option Stand) → (turn_in t.vehicle t.act w o).floor.drawn ≡ w.drawn
    one None = refl
    one (Some s) = still_drawn P w s t.vehicle (t.act (own w s)).world (still.0 (own w s))
