-- A unit tick of the floor is, in each vehicle's own world, that world's unit tick.
use Rattle.std.proofs.Common.{◌≡◌, ℕ, zero, suc, Bool, true, false, List, [], ◌∷◌, ◌++◌, ◌==◌, ◌+◌, ◌≤◌, ◌<◌, inl, inr, Option, Some, None, map, option_map, if◌then◌else◌, refl, ap, sym, ◌∙◌, subst, arith, append-nil, eqb-true, eq-eqb, ne_eqb}
use Rattle.std.specs.List.{AllByRecursion}
use Rattle.trace_model.specs.History.{Sent}
use Rattle.call_floor.specs.inner.Order.{AreInOrder}
use Rattle.channel_sim.specs.Tidy.{AreAbove}
use Rattle.channel_sim.specs.World.{Call, World, Step, Due, quiet_step, call_of, each, due_frames, due_in, hands_up, hands_down, vehicle_passes, session_passes}
use Rattle.channel_sim.specs.World as world
use Rattle.call_floor.specs.Floor.{own_of, Floor, FloorStep, Stand, Turn, Placed, stand_of, own, calls_at, placed, calls_from, calls_of, vehicle_turns, session_turns, hand_turns, due_turns, vehicles_pass, sessions_pass, flows_up, flows_down, and_then, unit, units}
use Rattle.call_floor.specs.inner.Placed.{IsDrawn, InPlace}
use Rattle.call_floor.proofs.Apart.{IsStill, Still, AllStill, IsOwn, run, acts_of, then_own, plays_own, plays_drawn, plays_numbers}
use Rattle.call_floor.proofs.Places.{drawn_above}
use Rattle.call_floor.proofs.StillLemmas.{up_still, down_still, vehicle_passes_still, session_passes_still, sessions_still, flows_up_still, flows_down_still}

-- the step that is known behind a first one
abbrev followed_by : Step → Step → Step
followed_by s t = record { entries = s.entries ++ t.entries; world = t.world; handed = s.handed + t.handed }

run_each : {A : Type 0} (f : A → World → Step) (xs : List A) (u : World) → run (map f xs) u ≡ each f xs u
run_each f [] u = refl
run_each f (x ∷ xs) u = ap (followed_by (f x u)) (run_each f xs (f x u).world)

acts_append : (v : ℕ) (xs ys : List Turn) → acts_of v (xs ++ ys) ≡ acts_of v xs ++ acts_of v ys
acts_append v [] ys = refl
acts_append v (x ∷ xs) ys = by (x.vehicle == v) (acts_append v xs ys)
  where
    by : (b : Bool) → acts_of v (xs ++ ys) ≡ acts_of v xs ++ acts_of v ys → (if b then x.act ∷ acts_of v (xs ++ ys) else acts_of v (xs ++ ys)) ≡ (if b then x.act ∷ acts_of v xs else acts_of v xs) ++ acts_of v ys
    by true further = ap (λ l. x.act ∷ l) further
    by false further = further

-- The vehicles: each has one turn.

none_above : (v n : ℕ) → v ≤ n → (ss : List Stand) → AreAbove n (map (λ (s : Stand). s.number) ss) → acts_of v (vehicle_turns ss) ≡ []
none_above v n low [] h = refl
none_above v n low (x ∷ xs) h =
    let above : n < x.number = h.0 in
    let other : (x.number == v) ≡ false = ne_eqb x.number v (λ e. omega arith) in
    ap (λ b. if b then vehicle_passes ∷ acts_of v (vehicle_turns xs) else acts_of v (vehicle_turns xs)) other
    ∙ none_above v x.number (omega arith) xs h.1

one_turn : (v n : ℕ) (ss : List Stand) (s : Stand) → AreAbove n (map (λ (x : Stand). x.number) ss) → stand_of v ss ≡ Some s → acts_of v (vehicle_turns ss) ≡ vehicle_passes ∷ []
one_turn v n [] s h found = cc
one_turn v n (x ∷ xs) s h found = by (x.number == v) refl (one_turn v x.number xs s h.1)
  where
    by : (b : Bool) → (x.number == v) ≡ b → (stand_of v xs ≡ Some s → acts_of v (vehicle_turns xs) ≡ vehicle_passes ∷ []) → (if b then vehicle_passes ∷ acts_of v (vehicle_turns xs) else acts_of v (vehicle_turns xs)) ≡ vehicle_passes ∷ []
    by true e further =
        let here = eqb-true x.number v e in
        ap (λ l. vehicle_passes ∷ l) (none_above v x.number (omega arith) xs h.1)
    by false e further = further (ap (λ b. if b then Some x else stand_of v xs) (sym e) ∙ found)

-- The calls of one vehicle among those of all.

abbrev calls_for : ℕ → List Placed → List Call
calls_for v [] = []
calls_for v (k ∷ ks) = if k.vehicle == v then k.call ∷ calls_for v ks else calls_for v ks

calls_append : (v : ℕ) (xs ys : List Placed) → calls_for v (xs ++ ys) ≡ calls_for v xs ++ calls_for v ys
calls_append v [] ys = refl
calls_append v (x ∷ xs) ys = by (x.vehicle == v) (calls_append v xs ys)
  where
    by : (b : Bool) → calls_for v (xs ++ ys) ≡ calls_for v xs ++ calls_for v ys → (if b then x.call ∷ calls_for v (xs ++ ys) else calls_for v (xs ++ ys)) ≡ (if b then x.call ∷ calls_for v xs else calls_for v xs) ++ calls_for v ys
    by true further = ap (λ l. x.call ∷ l) further
    by false further = further

placed_same : (v : ℕ) (k : Call) → calls_for v (placed v (Some k)) ≡ k ∷ []
placed_same v k = ap (λ b. if b then k ∷ [] else []) (eq-eqb v v refl)

placed_other : (d v : ℕ) → (d == v) ≡ false → (o : Option Call) → calls_for v (placed d o) ≡ []
placed_other d v e None = refl
placed_other d v e (Some k) = ap (λ b. if b then k ∷ [] else []) e

-- calls stand behind those of lower numbers
none_of : (c n : ℕ) (ks : List Call) → c ≤ n → AreInOrder n ks → call_of c ks ≡ None
none_of c n [] low h = refl
none_of c n (k ∷ ks) low h =
    let above : n < k.number = h.0 in
    ap (λ b. if b then Some k else call_of c ks) (ne_eqb k.number c (λ e. omega arith))
    ∙ none_of c k.number ks (omega arith) h.1

-- those drawn behind the first of these numbers
drawn_behind : (v d c : ℕ) (ds : List ℕ) (ks : List Call) → AreInOrder (suc c) ks → AllByRecursion (λ (k : Call). IsDrawn v (d ∷ ds) c k.number) ks → AllByRecursion (λ (k : Call). IsDrawn v ds (suc c) k.number) ks
drawn_behind v d c ds [] h all = tt
drawn_behind v d c ds (k ∷ ks) h all = (one all.0, drawn_behind v d c ds ks (lower ks (suc c) k.number h.0 h.1) all.1)
  where
    one : IsDrawn v (d ∷ ds) c k.number → IsDrawn v ds (suc c) k.number
    one (inl e) = let above : suc c < k.number = h.0 in absurd (omega (arith, e.0))
    one (inr e) = e

    lower : (xs : List Call) (m n : ℕ) → m < n → AreInOrder n xs → AreInOrder m xs
    lower [] m n low o = tt
    lower (x ∷ xs) m n low o = let above : n < x.number = o.0 in (omega arith, o.1)

-- what the numbers behind the first c, and the vehicles for which they were drawn, name among these calls
abbrev FoundFrom : (v : ℕ) (stands : List Stand) (s : Stand) (ds : List ℕ) (c : ℕ) → Type 0
FoundFrom v stands s ds c =
    (ks : List Call) → ((n : ℕ) → c < n → call_of n s.calls ≡ call_of n ks) → AreInOrder c ks → AllByRecursion (λ (k : Call). IsDrawn v ds c k.number) ks → calls_for v (calls_from stands (suc c) ds) ≡ ks

-- The numbers drawn behind the first c, in order, name the calls behind them, in order.
calls_found : (v : ℕ) (stands : List Stand) (s : Stand) → stand_of v stands ≡ Some s → (ds : List ℕ) (c : ℕ) (ks : List Call) → ((n : ℕ) → c < n → call_of n s.calls ≡ call_of n ks) → AreInOrder c ks → AllByRecursion (λ (k : Call). IsDrawn v ds c k.number) ks → calls_for v (calls_from stands (suc c) ds) ≡ ks
calls_found v stands s found [] c [] look h all = refl
calls_found v stands s found [] c (k ∷ ks) look h all = absurd all.0
calls_found v stands s found (d ∷ ds) c ks look h all =
    calls_append v (placed d (call_of (suc c) (calls_at (stand_of d stands)))) (calls_from stands (suc (suc c)) ds)
    ∙ front ks look h all (calls_found v stands s found ds (suc c))
  where
    its : (d == v) ≡ true → call_of (suc c) (calls_at (stand_of d stands)) ≡ call_of (suc c) s.calls
    its e = ap (λ n. call_of (suc c) (calls_at (stand_of n stands))) (eqb-true d v e) ∙ ap (λ o. call_of (suc c) (calls_at o)) found

    -- no call of this vehicle has this number
    nothing : call_of (suc c) s.calls ≡ None → calls_for v (placed d (call_of (suc c) (calls_at (stand_of d stands)))) ≡ []
    nothing none = by (d == v) refl
      where
        by : (b : Bool) → (d == v) ≡ b → calls_for v (placed d (call_of (suc c) (calls_at (stand_of d stands)))) ≡ []
        by true e = ap (λ o. calls_for v (placed d o)) (its e ∙ none)
        by false e = placed_other d v e (call_of (suc c) (calls_at (stand_of d stands)))

    -- this call of this vehicle has it
    something : (k : Call) → (d == v) ≡ true → call_of (suc c) s.calls ≡ Some k → calls_for v (placed d (call_of (suc c) (calls_at (stand_of d stands)))) ≡ k ∷ []
    something k e one =
        ap (λ o. calls_for v (placed d o)) (its e ∙ one)
        ∙ ap (λ n. calls_for v (placed n (Some k))) (eqb-true d v e)
        ∙ placed_same v k

    -- the first call has a higher number
    later : (ks : List Call) → ((n : ℕ) → c < n → call_of n s.calls ≡ call_of n ks) → AreInOrder (suc c) ks → AllByRecursion (λ (k : Call). IsDrawn v (d ∷ ds) c k.number) ks → FoundFrom v stands s ds (suc c) → calls_for v (placed d (call_of (suc c) (calls_at (stand_of d stands)))) ++ calls_for v (calls_from stands (suc (suc c)) ds) ≡ ks
    later ks look h all further =
        ap (λ l. l ++ calls_for v (calls_from stands (suc (suc c)) ds)) (nothing (look (suc c) (omega arith) ∙ none_of (suc c) (suc c) ks (omega arith) h))
        ∙ further ks (λ n low. look n (omega arith)) h (drawn_behind v d c ds ks h all)

    by_first : (k : Call) (ks : List Call) → ((n : ℕ) → c < n → call_of n s.calls ≡ call_of n (k ∷ ks)) → AreInOrder c (k ∷ ks) → AllByRecursion (λ (x : Call). IsDrawn v (d ∷ ds) c x.number) (k ∷ ks) → IsDrawn v (d ∷ ds) c k.number → FoundFrom v stands s ds (suc c) → calls_for v (placed d (call_of (suc c) (calls_at (stand_of d stands)))) ++ calls_for v (calls_from stands (suc (suc c)) ds) ≡ k ∷ ks
    by_first k ks look h all (inl e) further =
        let order : AreInOrder (suc c) ks = subst (λ n. AreInOrder n ks) e.0 h.1 in
        ap (λ l. l ++ calls_for v (calls_from stands (suc (suc c)) ds)) (something k (eq-eqb d v e.1) (look (suc c) (omega arith) ∙ ap (λ b. if b then Some k else call_of (suc c) ks) (eq-eqb k.number (suc c) e.0)))
        ∙ ap (λ l. k ∷ l) (further ks (λ n low. look n (omega arith) ∙ ap (λ b. if b then Some k else call_of n ks) (ne_eqb k.number n (λ same. omega (arith, e.0)))) order (drawn_behind v d c ds ks order all.1))
    by_first k ks look h all (inr e) further =
        let above = drawn_above v ds (suc c) k.number e in
        later (k ∷ ks) look (above, h.1) all further

    front : (ks : List Call) → ((n : ℕ) → c < n → call_of n s.calls ≡ call_of n ks) → AreInOrder c ks → AllByRecursion (λ (k : Call). IsDrawn v (d ∷ ds) c k.number) ks → FoundFrom v stands s ds (suc c) → calls_for v (placed d (call_of (suc c) (calls_at (stand_of d stands)))) ++ calls_for v (calls_from stands (suc (suc c)) ds) ≡ ks
    front [] look h all further = later [] look tt tt further
    front (k ∷ ks) look h all further = by_first k ks look h all all.0 further

its_calls : (v : ℕ) (w : Floor) (s : Stand) → stand_of v w.stands ≡ Some s → InPlace v w.drawn (own w s) → calls_for v (calls_of w) ≡ s.calls
its_calls v w s found h = calls_found v w.stands s found w.drawn 0 s.calls (λ n low. refl) h.order h.numbers

-- The turns of the sessions, and of the frames that are due.

its_sessions : (v : ℕ) (ks : List Placed) → acts_of v (session_turns ks) ≡ map session_passes (map (λ (k : Call). k.number) (calls_for v ks))
its_sessions v [] = refl
its_sessions v (k ∷ ks) = by (k.vehicle == v) (its_sessions v ks)
  where
    by : (b : Bool) → acts_of v (session_turns ks) ≡ map session_passes (map (λ (x : Call). x.number) (calls_for v ks)) → (if b then session_passes k.call.number ∷ acts_of v (session_turns ks) else acts_of v (session_turns ks)) ≡ map session_passes (map (λ (x : Call). x.number) (if b then k.call ∷ calls_for v ks else calls_for v ks))
    by true further = ap (λ l. session_passes k.call.number ∷ l) further
    by false further = further

hands_same : (v : ℕ) (hands : Due → World → Step) (ds : List Due) → acts_of v (hand_turns v hands ds) ≡ map hands ds
hands_same v hands [] = refl
hands_same v hands (d ∷ ds) =
    ap (λ b. if b then hands d ∷ acts_of v (hand_turns v hands ds) else acts_of v (hand_turns v hands ds)) (eq-eqb v v refl)
    ∙ ap (λ l. hands d ∷ l) (hands_same v hands ds)

hands_other : (a v : ℕ) → (a == v) ≡ false → (hands : Due → World → Step) (ds : List Due) → acts_of v (hand_turns a hands ds) ≡ []
hands_other a v e hands [] = refl
hands_other a v e hands (d ∷ ds) =
    ap (λ b. if b then hands d ∷ acts_of v (hand_turns a hands ds) else acts_of v (hand_turns a hands ds)) e ∙ hands_other a v e hands ds

due_more : (sent : Call → List Sent) (delay now : ℕ) (k : Call) (ks : List Call) → due_in sent delay now (k ∷ []) ++ due_in sent delay now ks ≡ due_in sent delay now (k ∷ ks)
due_more sent zero now k ks = refl
due_more sent (suc n) now k ks = ap (λ l. l ++ due_in sent (suc n) now ks) (append-nil (due_frames k.number (suc n) now (sent k)))

pub due_none : (sent : Call → List Sent) (delay now : ℕ) → due_in sent delay now [] ≡ []
due_none sent zero now = refl
due_none sent (suc n) now = refl

map_append : {A B : Type 0} (f : A → B) (xs ys : List A) → map f xs ++ map f ys ≡ map f (xs ++ ys)
map_append f [] ys = refl
map_append f (x ∷ xs) ys = ap (λ l. f x ∷ l) (map_append f xs ys)

its_due : (v : ℕ) (hands : Due → World → Step) (sent : Call → List Sent) (delay now : ℕ) (ks : List Placed) → acts_of v (due_turns hands sent delay now ks) ≡ map hands (due_in sent delay now (calls_for v ks))
its_due v hands sent delay now [] = ap (map hands) (sym (due_none sent delay now))
its_due v hands sent delay now (k ∷ ks) =
    acts_append v (hand_turns k.vehicle hands (due_in sent delay now (k.call ∷ []))) (due_turns hands sent delay now ks)
    ∙ ap (λ l. acts_of v (hand_turns k.vehicle hands (due_in sent delay now (k.call ∷ []))) ++ l) (its_due v hands sent delay now ks)
    ∙ by (k.vehicle == v) refl
  where
    by : (b : Bool) → (k.vehicle == v) ≡ b → acts_of v (hand_turns k.vehicle hands (due_in sent delay now (k.call ∷ []))) ++ map hands (due_in sent delay now (calls_for v ks)) ≡ map hands (due_in sent delay now (if b then k.call ∷ calls_for v ks else calls_for v ks))
    by true e =
        ap (λ n. acts_of v (hand_turns n hands (due_in sent delay now (k.call ∷ []))) ++ map hands (due_in sent delay now (calls_for v ks))) (eqb-true k.vehicle v e)
        ∙ ap (λ l. l ++ map hands (due_in sent delay now (calls_for v ks))) (hands_same v hands (due_in sent delay now (k.call ∷ [])))
        ∙ map_append hands (due_in sent delay now (k.call ∷ [])) (due_in sent delay now (calls_for v ks))
        ∙ ap (map hands) (due_more sent delay now k.call (calls_for v ks))
    by false e =
        ap (λ l. l ++ map hands (due_in sent delay now (calls_for v ks))) (hands_other k.vehicle v e hands (due_in sent delay now (k.call ∷ [])))

-- All these turns are still.

module _ (P : ℕ → Type 0) where
  pub vehicles_still : (ss : List Stand) → AllStill P (vehicle_turns ss)
  vehicles_still [] = tt
  vehicles_still (s ∷ ss) = (vehicle_passes_still P, vehicles_still ss)

  pub session_turns_still : (ks : List Placed) → AllStill P (session_turns ks)
  session_turns_still [] = tt
  session_turns_still (k ∷ ks) = (session_passes_still P k.call.number, session_turns_still ks)

  hand_turns_still : (v : ℕ) (hands : Due → World → Step) → ((x : Due) → Still P (hands x)) → (ds : List Due) → AllStill P (hand_turns v hands ds)
  hand_turns_still v hands h [] = tt
  hand_turns_still v hands h (d ∷ ds) = (h d, hand_turns_still v hands h ds)

  both_still : (xs ys : List Turn) → AllStill P xs → AllStill P ys → AllStill P (xs ++ ys)
  both_still [] ys a b = b
  both_still (x ∷ xs) ys a b = (a.0, both_still xs ys a.1 b)

  pub due_turns_still : (hands : Due → World → Step) → ((x : Due) → Still P (hands x)) → (sent : Call → List Sent) (delay now : ℕ) (ks : List Placed) → AllStill P (due_turns hands sent delay now ks)
  due_turns_still hands h sent delay now [] = tt
  due_turns_still hands h sent delay now (k ∷ ks) =
      both_still (hand_turns k.vehicle hands (due_in sent delay now (k.call ∷ []))) (due_turns hands sent delay now ks)
      (hand_turns_still k.vehicle hands h (due_in sent delay now (k.call ∷ [])))
      (due_turns_still hands h sent delay now ks)

-- a vehicle that is there has a stand
abbrev Found : ℕ → Floor → World → Type 0
Found v w u = (s : Stand) × (stand_of v w.stands ≡ Some s) × (own w s ≡ u)

some_world : (x y : World) → Some x ≡ Some y → x ≡ y
some_world x y e = cc

found_own : (v : ℕ) (w : Floor) (u : World) → own_of v w ≡ Some u → Found v w u
found_own v w u h = by (stand_of v w.stands) refl h
  where
    by : (o : Option Stand) → stand_of v w.stands ≡ o → option_map (own w) o ≡ Some u → Found v w u
    by None e f = cc
    by (Some s) e f = (s, e, some_world (own w s) u f)

-- The phases.

vehicles_own : (v : ℕ) (w : Floor) (u : World) → AreAbove 0 (map (λ (s : Stand). s.number) w.stands) → own_of v w ≡ Some u → IsOwn v (vehicles_pass w) (vehicle_passes u)
vehicles_own v w u order h =
    let f : Found v w u = found_own v w u h in
    subst (λ t. IsOwn v (vehicles_pass w) t)
    (ap (λ acts. run acts u) (one_turn v 0 w.stands f.0 order f.1) ∙ run_each (λ (x : Unit {0}). vehicle_passes) (tt ∷ []) u ∙ alone_step (vehicle_passes u))
    (plays_own (λ n. Unit {0}) v (vehicle_turns w.stands) (vehicles_still (λ n. Unit {0}) w.stands) w u h)
  where
    alone_step : (s : Step) → world.and_then s quiet_step ≡ s
    alone_step s =
        ap (λ es. record { entries = es; world = s.world; handed = s.handed + 0 }) (append-nil s.entries)
        ∙ ap (λ n. record { entries = s.entries; world = s.world; handed = n }) (omega arith)

sessions_own : (v : ℕ) (w : Floor) (u : World) → own_of v w ≡ Some u → InPlace v w.drawn u → IsOwn v (sessions_pass w) (world.sessions_pass u)
sessions_own v w u h at =
    let f : Found v w u = found_own v w u h in
    let calls : calls_for v (calls_of w) ≡ u.calls = its_calls v w f.0 f.1 (subst (InPlace v w.drawn) (sym f.2) at) ∙ ap (λ (x : World). x.calls) f.2 in
    subst (λ t. IsOwn v (sessions_pass w) t)
    (ap (λ acts. run acts u) (its_sessions v (calls_of w))
    ∙ ap (λ ks. run (map session_passes (map (λ (k : Call). k.number) ks)) u) calls
    ∙ run_each session_passes (map (λ (k : Call). k.number) u.calls) u)
    (plays_own (λ n. Unit {0}) v (session_turns (calls_of w)) (session_turns_still (λ n. Unit {0}) (calls_of w)) w u h)

up_own : (v : ℕ) (w : Floor) (u : World) → own_of v w ≡ Some u → InPlace v w.drawn u → IsOwn v (flows_up w) (world.flows_up u)
up_own v w u h at =
    let f : Found v w u = found_own v w u h in
    let calls : calls_for v (calls_of w) ≡ u.calls = its_calls v w f.0 f.1 (subst (InPlace v w.drawn) (sym f.2) at) ∙ ap (λ (x : World). x.calls) f.2 in
    subst (λ t. IsOwn v (flows_up w) t)
    (ap (λ acts. run acts u) (its_due v hands_up (λ k. k.up) w.up_flow w.tick (calls_of w))
    ∙ ap (λ ks. run (map hands_up (due_in (λ k. k.up) w.up_flow w.tick ks)) u) calls
    ∙ ap (λ (x : World). run (map hands_up (due_in (λ k. k.up) x.up_flow x.tick u.calls)) u) f.2
    ∙ run_each hands_up (due_in (λ k. k.up) u.up_flow u.tick u.calls) u)
    (plays_own (λ n. Unit {0}) v (due_turns hands_up (λ k. k.up) w.up_flow w.tick (calls_of w)) (due_turns_still (λ n. Unit {0}) hands_up (up_still (λ n. Unit {0})) (λ k. k.up) w.up_flow w.tick (calls_of w)) w u h)

down_own : (v : ℕ) (w : Floor) (u : World) → own_of v w ≡ Some u → InPlace v w.drawn u → IsOwn v (flows_down w) (world.flows_down u)
down_own v w u h at =
    let f : Found v w u = found_own v w u h in
    let calls : calls_for v (calls_of w) ≡ u.calls = its_calls v w f.0 f.1 (subst (InPlace v w.drawn) (sym f.2) at) ∙ ap (λ (x : World). x.calls) f.2 in
    subst (λ t. IsOwn v (flows_down w) t)
    (ap (λ acts. run acts u) (its_due v hands_down (λ k. k.down) w.down_flow w.tick (calls_of w))
    ∙ ap (λ ks. run (map hands_down (due_in (λ k. k.down) w.down_flow w.tick ks)) u) calls
    ∙ ap (λ (x : World). run (map hands_down (due_in (λ k. k.down) x.down_flow x.tick u.calls)) u) f.2
    ∙ run_each hands_down (due_in (λ k. k.down) u.down_flow u.tick u.calls) u)
    (plays_own (λ n. Unit {0}) v (due_turns hands_down (λ k. k.down) w.down_flow w.tick (calls_of w)) (due_turns_still (λ n. Unit {0}) hands_down (down_still (λ n. Unit {0})) (λ k. k.down) w.down_flow w.tick (calls_of w)) w u h)

-- The unit tick.

pub stays_in_place : (v : ℕ) (drawn : List ℕ) (u later : World) → IsStill (IsDrawn v drawn 0) u later → InPlace v drawn u → InPlace v drawn later
stays_in_place v drawn u later still h = record { order = still.order h.order; numbers = still.numbers h.numbers }

pub one_later : (v : ℕ) (w : Floor) (u : World) → own_of v w ≡ Some u → own_of v (record w { tick = w.tick + 1 }) ≡ Some (record u { tick = u.tick + 1 })
one_later v w u h = by (stand_of v w.stands) ∙ ap (option_map (λ (x : World). record x { tick = x.tick + 1 })) h
  where
    by : (o : Option Stand) → option_map (own (record w { tick = w.tick + 1 })) o ≡ option_map (λ (x : World). record x { tick = x.tick + 1 }) (option_map (own w) o)
    by None = refl
    by (Some s) = refl

-- what a unit tick is for one vehicle
pub record UnitOwn (v : ℕ) (w : Floor) (u : World) : Type 0 where
  pub its : IsOwn v (unit w) (world.unit u)
  pub place : InPlace v w.drawn (world.unit u).world
  pub drawn : (unit w).floor.drawn ≡ w.drawn
  pub last : (world.unit u).world.drawn ≡ u.drawn

pub unit_own : (v : ℕ) (w : Floor) (u : World) → AreAbove 0 (map (λ (s : Stand). s.number) w.stands) → own_of v w ≡ Some u → InPlace v w.drawn u → UnitOwn v w u
unit_own v w u order h at =
    let P : ℕ → Type 0 = IsDrawn v w.drawn 0 in
    let w1 : Floor = record w { tick = w.tick + 1 } in
    let u1 : World = record u { tick = u.tick + 1 } in
    let a : FloorStep = vehicles_pass w1 in
    let x : Step = vehicle_passes u1 in
    let at1 : InPlace v w.drawn u1 = record { order = at.order; numbers = at.numbers } in
    let own_a : IsOwn v a x = vehicles_own v w1 u1 order (one_later v w u h) in
    let at_a : InPlace v w.drawn x.world = stays_in_place v w.drawn u1 x.world (vehicle_passes_still P u1) at1 in
    let d_a : a.floor.drawn ≡ w.drawn = plays_drawn P (vehicle_turns w1.stands) (vehicles_still P w1.stands) w1 in
    let b : FloorStep = and_then a sessions_pass in
    let y : Step = world.and_then x world.sessions_pass in
    let own_b : IsOwn v b y = then_own v a sessions_pass x world.sessions_pass own_a (sessions_own v a.floor x.world own_a.there (subst (λ ds. InPlace v ds x.world) (sym d_a) at_a)) in
    let at_b : InPlace v w.drawn y.world = stays_in_place v w.drawn x.world y.world (sessions_still P x.world) at_a in
    let d_b : b.floor.drawn ≡ w.drawn = plays_drawn P (session_turns (calls_of a.floor)) (session_turns_still P (calls_of a.floor)) a.floor ∙ d_a in
    let c : FloorStep = and_then b flows_up in
    let z : Step = world.and_then y world.flows_up in
    let own_c : IsOwn v c z = then_own v b flows_up y world.flows_up own_b (up_own v b.floor y.world own_b.there (subst (λ ds. InPlace v ds y.world) (sym d_b) at_b)) in
    let at_c : InPlace v w.drawn z.world = stays_in_place v w.drawn y.world z.world (flows_up_still P y.world) at_b in
    let d_c : c.floor.drawn ≡ w.drawn = plays_drawn P (due_turns hands_up (λ k. k.up) b.floor.up_flow b.floor.tick (calls_of b.floor)) (due_turns_still P hands_up (up_still P) (λ k. k.up) b.floor.up_flow b.floor.tick (calls_of b.floor)) b.floor ∙ d_b in
    record {
      its = then_own v c flows_down z world.flows_down own_c (down_own v c.floor z.world own_c.there (subst (λ ds. InPlace v ds z.world) (sym d_c) at_c));
      place = stays_in_place v w.drawn z.world (world.flows_down z.world).world (flows_down_still P z.world) at_c;
      drawn = plays_drawn P (due_turns hands_down (λ k. k.down) c.floor.down_flow c.floor.tick (calls_of c.floor)) (due_turns_still P hands_down (down_still P) (λ k. k.down) c.floor.down_flow c.floor.tick (calls_of c.floor)) c.floor ∙ d_c;
      last = (flows_down_still P z.world).drawn ∙ ((flows_up_still P y.world).drawn ∙ ((sessions_still P x.world).drawn ∙ (vehicle_passes_still P u1).drawn));
    }

pub unit_numbers : (w : Floor) → map (λ (s : Stand). s.number) (unit w).floor.stands ≡ map (λ (s : Stand). s.number) w.stands
unit_numbers w =
    let w1 : Floor = record w { tick = w.tick + 1 } in
    let a : Floor = (vehicles_pass w1).floor in
    let b : Floor = (sessions_pass a).floor in
    let c : Floor = (flows_up b).floor in
    plays_numbers (due_turns hands_down (λ k. k.down) c.down_flow c.tick (calls_of c)) c
    ∙ plays_numbers (due_turns hands_up (λ k. k.up) b.up_flow b.tick (calls_of b)) b
    ∙ plays_numbers (session_turns (calls_of a)) a
    ∙ plays_numbers (vehicle_turns w1.stands) w1

-- n unit ticks
pub record UnitsOwn (v n : ℕ) (w : Floor) (u : World) : Type 0 where
  pub its : IsOwn v (units n w) (world.units n u)
  pub place : InPlace v w.drawn (world.units n u).world
  pub drawn : (units n w).floor.drawn ≡ w.drawn
  pub last : (world.units n u).world.drawn ≡ u.drawn

pub units_own : (v n : ℕ) (w : Floor) (u : World) → AreAbove 0 (map (λ (s : Stand). s.number) w.stands) → own_of v w ≡ Some u → InPlace v w.drawn u → UnitsOwn v n w u
units_own v zero w u order h at =
    record { its = record { there = h; told = refl }; place = at; drawn = refl; last = refl }
units_own v (suc n) w u order h at =
    let one : UnitOwn v w u = unit_own v w u order h at in
    let w1 : Floor = (unit w).floor in
    let u1 : World = (world.unit u).world in
    let rest : UnitsOwn v n w1 u1 = units_own v n w1 u1 (subst (AreAbove 0) (sym (unit_numbers w)) order) one.its.there (subst (λ ds. InPlace v ds u1) (sym one.drawn) one.place) in
    record {
      its = then_own v (unit w) (units n) (world.unit u) (world.units n) one.its rest.its;
      place = subst (λ ds. InPlace v ds (world.units n u1).world) one.drawn rest.place;
      drawn = rest.drawn ∙ one.drawn;
      last = rest.last ∙ one.last;
    }

pub units_numbers : (n : ℕ) (w : Floor) → map (λ (s : Stand). s.number) (units n w).floor.stands ≡ map (λ (s : Stand). s.number) w.stands
units_numbers zero w = refl
units_numbers (suc n) w = units_numbers n (unit w).floor ∙ unit_numbers w
