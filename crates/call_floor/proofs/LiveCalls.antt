-- The calls that are kept as live: all with a leg up are among them, through all turns.
use Rattle.std.proofs.Common.{◌≡◌, ℕ, zero, suc, Bool, true, false, List, [], ◌∷◌, ◌++◌, ◌==◌, ◌||◌, ◌+◌, ◌<◌, ◌≤◌, ◌⊎◌, inl, inr, Option, Some, None, length, map, option_map, get_or, drop, slice_get, if◌then◌else◌, refl, ap, sym, ◌∙◌, subst, arith, eqb-true, eq-eqb, ne_eqb}
use Rattle.std.proofs.lemmas.Bool.{eqb-false}
use Rattle.std.specs.List.{AllByRecursion}
use Rattle.channel_sim.specs.Lag.{level, AreSameBut, StandsAt, CallLags, CallsLag, waits, clock_of}
use Rattle.channel_sim.specs.Tidy.{AreAbove}
use Rattle.channel_sim.specs.declared.calls.call.Call as kept_call
use Rattle.channel_sim.specs.World.{Call, World, Step, call_of, session_passes}
use Rattle.call_floor.specs.declared.live.Live as kept_live
use Rattle.call_floor.specs.declared.seat.Seat as kept_seat
use Rattle.call_floor.specs.Floor.{Floor, FloorStep, Stand, Turn, stand_of, own_of, calls_at, placed, calls_from, calls_of, turn, plays, vehicle_turns, session_turns}
use Rattle.call_floor.specs.FloorStands.{IsDown, IsOf, AreLive}
use Rattle.call_floor.specs.inner.FloorAt.{AreSameBelow, flow_turns, flows_if, numbers_of, plays_if, sessions_if, vehicles_if, flow_of}
use Rattle.call_floor.specs.inner.Placed.{IsDrawn, InPlace, IsReady}
use Rattle.call_floor.proofs.Apart.{Still, AllStill}
use Rattle.call_floor.proofs.EventApart.{turn_numbers}
use Rattle.call_floor.proofs.Gone.{Named, Other, no_call, named_turns, names, same_turns, IsGone, IsMore, gone_left_out}
use Rattle.call_floor.proofs.PlaysLemmas.{apart_above}
use Rattle.call_floor.proofs.Sleeping.{calls_in, calls_own, turn_own, turn_drawn, kept_turns, plays_kept, way_still}
use Rattle.call_floor.proofs.TurnWorlds.{any, ComesOf, comes_of}
use Rattle.call_floor.proofs.UnitApart.{stays_in_place, vehicles_still, session_turns_still, due_turns_still}
use Rattle.channel_sim.specs.Handing.{hands_way, sent_way}

-- Turns leave those down that are down.

pub all_none : (c : ℕ) (ks : List Call) → call_of c ks ≡ None → AllByRecursion (λ (k : Call). k.number ≡ c → ⊥) ks
all_none c [] h = tt
all_none c (k ∷ ks) h = by (k.number == c) refl (all_none c ks)
  where
    by : (b : Bool) → (k.number == c) ≡ b → (call_of c ks ≡ None → AllByRecursion (λ (x : Call). x.number ≡ c → ⊥) ks) → AllByRecursion (λ (x : Call). x.number ≡ c → ⊥) (k ∷ ks)
    by true e further = let no : Some k ≡ None = ap (λ b. if b then Some k else call_of c ks) (sym e) ∙ h in cc
    by false e further =
        (eqb-false k.number c e, further (ap (λ b. if b then Some k else call_of c ks) (sym e) ∙ h))

pub down_own : (v c : ℕ) (w : Floor) → IsDown w.stands v c → call_of c (calls_in (own_of v w)) ≡ None
down_own v c w h = ap (call_of c) (sym (calls_own v w)) ∙ h

pub own_down : (v c : ℕ) (w : Floor) → call_of c (calls_in (own_of v w)) ≡ None → IsDown w.stands v c
own_down v c w h = ap (call_of c) (calls_own v w) ∙ h

down_turn : (a v c : ℕ) (act : World → Step) → Still any act → Still (Other c) act → (w : Floor) → IsDown w.stands v c → IsDown (turn a act w).floor.stands v c
down_turn a v c act still other w h =
    own_down v c (turn a act w).floor (ap (λ o. call_of c (calls_in o)) (turn_own a v act still w) ∙ by (a == v) (own_of v w) (down_own v c w h))
  where
    by : (b : Bool) (o : Option World) → call_of c (calls_in o) ≡ None → call_of c (calls_in (if b then option_map (λ (u : World). (act u).world) o else o)) ≡ None
    by true None none = none
    by true (Some u) none = no_call c (act u).world.calls ((other u).numbers (all_none c u.calls none))
    by false o none = none

pub live_as : (xs ys : List Stand) → ((v c : ℕ) → IsDown xs v c → IsDown ys v c) → numbers_of ys ≡ numbers_of xs → (c : ℕ) (ds : List ℕ) (ls : List kept_live.Live) → AreLive xs c ds ls → AreLive ys c ds ls
live_as xs ys down same c [] [] h = tt
live_as xs ys down same c [] (l ∷ ls) h = h
live_as xs ys down same c (d ∷ ds) [] h = (down d c h.0, live_as xs ys down same (suc c) ds [] h.1)
live_as xs ys down same c (d ∷ ds) (l ∷ ls) (inl h) = inl (down d c h.0, live_as xs ys down same (suc c) ds (l ∷ ls) h.1)
live_as xs ys down same c (d ∷ ds) (l ∷ ls) (inr h) =
    let one : IsOf xs d c l = h.0 in
    inr (record { call = one.call; place = ap (λ ns. slice_get ns l.place) same ∙ one.place }, live_as xs ys down same (suc c) ds ls h.1)

-- a turn that is still, whatever holds of numbers
module _ (a : ℕ) (act : World → Step) (still : (P : ℕ → Type 0) → Still P act) (w : Floor) (ls : List kept_live.Live) where
  pub ready_turn : IsReady w ls → IsReady (turn a act w).floor ls
  ready_turn h =
      record {
        live = subst (λ ds. AreLive (turn a act w).floor.stands 1 ds ls) (sym (turn_drawn a act (still any) w))
            (live_as w.stands (turn a act w).floor.stands (λ v c. down_turn a v c act (still any) (still (Other c)) w) (turn_numbers a act w) 1 w.drawn ls h.live);
        placed = λ v later there.
            subst (λ ds. InPlace v ds later) (sym (turn_drawn a act (still any) w)) (by v later (comes_of v a act (still any) w later there));
      }
    where
      by : (v : ℕ) (later : World) → ComesOf v a act w later → InPlace v w.drawn later
      by v later c = which c.2
        where
          was : InPlace v w.drawn c.0
          was = h.placed v c.0 c.1

          which : ((a ≡ v) × (later ≡ (act c.0).world)) ⊎ (((a == v) ≡ false) × (later ≡ c.0)) → InPlace v w.drawn later
          which (inl e) = subst (InPlace v w.drawn) (sym e.1) (stays_in_place v w.drawn c.0 (act c.0).world (still (IsDrawn v w.drawn 0) c.0) was)
          which (inr e) = subst (InPlace v w.drawn) (sym e.1) was

pub ready_plays : (ts : List Turn) → ((P : ℕ → Type 0) → AllStill P ts) → (w : Floor) (ls : List kept_live.Live) → IsReady w ls → IsReady (plays ts w).floor ls
ready_plays [] still w ls h = h
ready_plays (t ∷ ts) still w ls h =
    ready_plays ts (λ P. (still P).1) (turn t.vehicle t.act w).floor ls (ready_turn t.vehicle t.act (λ P. (still P).0) w ls h)

kept_still : (acts : ℕ → Bool) (P : ℕ → Type 0) (ts : List Turn) → AllStill P ts → AllStill P (kept_turns acts ts)
kept_still acts P [] h = tt
kept_still acts P (t ∷ ts) h = by (acts t.vehicle) (kept_still acts P ts h.1)
  where
    by : (b : Bool) → AllStill P (kept_turns acts ts) → AllStill P (if b then t ∷ kept_turns acts ts else kept_turns acts ts)
    by true further = (h.0, further)
    by false further = further

pub ready_if : (acts : ℕ → Bool) (ts : List Turn) → ((P : ℕ → Type 0) → AllStill P ts) → (w : Floor) (ls : List kept_live.Live) → IsReady w ls → IsReady (plays_if acts ts w).floor ls
ready_if acts ts still w ls h =
    subst (λ (s : FloorStep). IsReady s.floor ls) (sym (plays_kept acts ts w)) (ready_plays (kept_turns acts ts) (λ P. kept_still acts P ts (still P)) w ls h)

pub ready_vehicles : (acts : ℕ → Bool) (w : Floor) (ls : List kept_live.Live) → IsReady w ls → IsReady (vehicles_if acts w).floor ls
ready_vehicles acts w ls h = ready_if acts (vehicle_turns w.stands) (λ P. vehicles_still P w.stands) w ls h

pub ready_sessions : (acts : ℕ → Bool) (w : Floor) (ls : List kept_live.Live) → IsReady w ls → IsReady (sessions_if acts w).floor ls
ready_sessions acts w ls h = ready_if acts (session_turns (calls_of w)) (λ P. session_turns_still P (calls_of w)) w ls h

pub flow_still : (up : Bool) (w : Floor) (P : ℕ → Type 0) → AllStill P (flow_turns up w)
flow_still up w P = due_turns_still P (hands_way up) (way_still P up) (sent_way up) (flow_of up w) w.tick (calls_of w)

pub ready_flows : (acts : ℕ → Bool) (up : Bool) (w : Floor) (ls : List kept_live.Live) → IsReady w ls → IsReady (flows_if acts up w).floor ls
ready_flows acts up w ls h = ready_if acts (flow_turns up w) (flow_still up w) w ls h

-- The live calls as sessions that pass.

abbrev pub live_named : List ℕ → List kept_live.Live → List Named
live_named ns [] = []
live_named ns (l ∷ ls) = record { vehicle = get_or ns l.place 0; number = l.call } ∷ live_named ns ls

pub got : (ns : List ℕ) (i v : ℕ) → slice_get ns i ≡ Some v → get_or ns i 0 ≡ v
got [] i v h = cc
got (n ∷ ns) zero v h = cc
got (n ∷ ns) (suc i) v h = got ns i v h

more_gone : (w : Floor) (x : Named) (xs ys : List Named) → IsGone x w → IsMore w xs ys → IsMore w (x ∷ xs) ys
more_gone w x xs [] gone h = (gone, h)
more_gone w x xs (y ∷ ys) gone h = inl (gone, h)

more_same : (w : Floor) (x y : Named) (xs ys : List Named) → x ≡ y → IsMore w xs ys → IsMore w (x ∷ xs) (y ∷ ys)
more_same w x y xs ys e h = inr (e, h)

call_number : (c : ℕ) (k : Call) (ks : List Call) → call_of c ks ≡ Some k → k.number ≡ c
call_number c k [] h = cc
call_number c k (x ∷ xs) h = by (x.number == c) refl (call_number c k xs)
  where
    some_call : (a b : Call) → Some a ≡ Some b → a ≡ b
    some_call a b e = cc

    by : (b : Bool) → (x.number == c) ≡ b → (call_of c xs ≡ Some k → k.number ≡ c) → k.number ≡ c
    by true e further =
        let same : x ≡ k = some_call x k (ap (λ b. if b then Some x else call_of c xs) (sym e) ∙ h) in
        ap (λ (z : Call). z.number) (sym same) ∙ eqb-true x.number c e
    by false e further = further (ap (λ b. if b then Some x else call_of c xs) (sym e) ∙ h)

is_more : (w : Floor) (c : ℕ) (ds : List ℕ) (ls : List kept_live.Live) → AreLive w.stands c ds ls → IsMore w (live_named (numbers_of w.stands) ls) (names (calls_from w.stands c ds))
is_more w c [] [] h = tt
is_more w c [] (l ∷ ls) h = absurd h
is_more w c (d ∷ ds) [] h =
    subst (λ o. IsMore w [] (names (placed d o ++ calls_from w.stands (suc c) ds))) (sym h.0) (is_more w (suc c) ds [] h.1)
is_more w c (d ∷ ds) (l ∷ ls) (inl h) =
    subst (λ o. IsMore w (live_named (numbers_of w.stands) (l ∷ ls)) (names (placed d o ++ calls_from w.stands (suc c) ds))) (sym h.0) (is_more w (suc c) ds (l ∷ ls) h.1)
is_more w c (d ∷ ds) (l ∷ ls) (inr h) = by (call_of c (calls_at (stand_of d w.stands))) refl (is_more w (suc c) ds ls h.1)
  where
    one : IsOf w.stands d c l
    one = h.0

    vehicle : get_or (numbers_of w.stands) l.place 0 ≡ d
    vehicle = got (numbers_of w.stands) l.place d one.place

    by : (o : Option Call) → call_of c (calls_at (stand_of d w.stands)) ≡ o → IsMore w (live_named (numbers_of w.stands) ls) (names (calls_from w.stands (suc c) ds)) → IsMore w (live_named (numbers_of w.stands) (l ∷ ls)) (names (placed d o ++ calls_from w.stands (suc c) ds))
    by None e more =
        more_gone w (record { vehicle = get_or (numbers_of w.stands) l.place 0; number = l.call }) (live_named (numbers_of w.stands) ls) (names (calls_from w.stands (suc c) ds))
        (λ u there. subst (λ n. AllByRecursion (λ (k : Call). k.number ≡ n → ⊥) u.calls) (sym one.call) (all_none c u.calls (ap (λ o. call_of c (calls_in o)) (sym there ∙ ap (λ n. own_of n w) vehicle) ∙ down_own d c w e)))
        more
    by (Some k) e more =
        more_same w (record { vehicle = get_or (numbers_of w.stands) l.place 0; number = l.call }) (record { vehicle = d; number = k.number }) (live_named (numbers_of w.stands) ls) (names (calls_from w.stands (suc c) ds))
        (ap (λ n. record { vehicle = n; number = l.call }) vehicle ∙ ap (λ n. record { vehicle = d; number = n }) (one.call ∙ sym (call_number c k (calls_at (stand_of d w.stands)) e)))
        more

abbrev kept_named : (ℕ → Bool) → List Named → List Named
kept_named acts [] = []
kept_named acts (x ∷ xs) = if acts x.vehicle then x ∷ kept_named acts xs else kept_named acts xs

kept_same : (acts : ℕ → Bool) (xs : List Named) → kept_turns acts (named_turns xs) ≡ named_turns (kept_named acts xs)
kept_same acts [] = refl
kept_same acts (x ∷ xs) = by (acts x.vehicle) (kept_same acts xs)
  where
    by : (b : Bool) → kept_turns acts (named_turns xs) ≡ named_turns (kept_named acts xs) → (if b then record { vehicle = x.vehicle; act = session_passes x.number } ∷ kept_turns acts (named_turns xs) else kept_turns acts (named_turns xs)) ≡ named_turns (if b then x ∷ kept_named acts xs else kept_named acts xs)
    by true further = ap (λ l. record { vehicle = x.vehicle; act = session_passes x.number } ∷ l) further
    by false further = further

more_kept : (acts : ℕ → Bool) (w : Floor) (xs ys : List Named) → IsMore w xs ys → IsMore w (kept_named acts xs) (kept_named acts ys)
more_kept acts w [] [] h = tt
more_kept acts w [] (y ∷ ys) h = absurd h
more_kept acts w (x ∷ xs) [] h = by (acts x.vehicle) (more_kept acts w xs [] h.1)
  where
    by : (b : Bool) → IsMore w (kept_named acts xs) [] → IsMore w (if b then x ∷ kept_named acts xs else kept_named acts xs) []
    by true further = (h.0, further)
    by false further = further
more_kept acts w (x ∷ xs) (y ∷ ys) (inl h) = by (acts x.vehicle) (more_kept acts w xs (y ∷ ys) h.1)
  where
    by : (b : Bool) → IsMore w (kept_named acts xs) (kept_named acts (y ∷ ys)) → IsMore w (if b then x ∷ kept_named acts xs else kept_named acts xs) (kept_named acts (y ∷ ys))
    by true further = more_gone w x (kept_named acts xs) (kept_named acts (y ∷ ys)) h.0 further
    by false further = further
more_kept acts w (x ∷ xs) (y ∷ ys) (inr h) =
    subst (λ (z : Named). IsMore w (if acts x.vehicle then x ∷ kept_named acts xs else kept_named acts xs) (if acts z.vehicle then z ∷ kept_named acts ys else kept_named acts ys)) h.0
    (by (acts x.vehicle) (more_kept acts w xs ys h.1))
  where
    by : (b : Bool) → IsMore w (kept_named acts xs) (kept_named acts ys) → IsMore w (if b then x ∷ kept_named acts xs else kept_named acts xs) (if b then x ∷ kept_named acts ys else kept_named acts ys)
    by true further = more_same w x x (kept_named acts xs) (kept_named acts ys) refl further
    by false further = further

-- the sessions of those that act, over the live calls
pub sessions_live : (acts : ℕ → Bool) (w : Floor) (ls : List kept_live.Live) → AreLive w.stands 1 w.drawn ls → plays_if acts (named_turns (live_named (numbers_of w.stands) ls)) w ≡ sessions_if acts w
sessions_live acts w ls h =
    let xs : List Named = live_named (numbers_of w.stands) ls in
    let ys : List Named = names (calls_of w) in
    plays_kept acts (named_turns xs) w
    ∙ ap (λ ts. plays ts w) (kept_same acts xs)
    ∙ gone_left_out (kept_named acts xs) (kept_named acts ys) w (more_kept acts w xs ys (is_more w 1 w.drawn ls h))
    ∙ ap (λ ts. plays ts w) (sym (kept_same acts ys))
    ∙ sym (plays_kept acts (named_turns ys) w)
    ∙ ap (λ ts. plays_if acts ts w) (same_turns (calls_of w))

-- The clocks of the sessions of live calls, of which these were not passed yet.

abbrev pub calls_for : ℕ → List Named → List ℕ
calls_for v [] = []
calls_for v (x ∷ xs) = if x.vehicle == v then x.number ∷ calls_for v xs else calls_for v xs

abbrev pub clock_left : ℕ → List Named → ℕ → ℕ → ℕ
clock_left before xs v c = clock_of before (calls_for v xs) c

abbrev numbers_named : List Named → List ℕ
numbers_named xs = map (λ (x : Named). x.number) xs

above_less : (m n : ℕ) (ns : List ℕ) → m ≤ n → AreAbove n ns → AreAbove m ns
above_less m n [] low h = tt
above_less m n (x ∷ xs) low h = let up : n < x = h.0 in (omega arith, h.1)

live_rise : (stands : List Stand) (ns : List ℕ) (n : ℕ) (ds : List ℕ) (ls : List kept_live.Live) → AreLive stands (suc n) ds ls → AreAbove n (numbers_named (live_named ns ls))
live_rise stands ns n [] [] h = tt
live_rise stands ns n [] (l ∷ ls) h = absurd h
live_rise stands ns n (d ∷ ds) [] h = tt
live_rise stands ns n (d ∷ ds) (l ∷ ls) (inl h) =
    above_less n (suc n) (numbers_named (live_named ns (l ∷ ls))) (omega arith) (live_rise stands ns (suc n) ds (l ∷ ls) h.1)
live_rise stands ns n (d ∷ ds) (l ∷ ls) (inr h) =
    let one : IsOf stands d (suc n) l = h.0 in
    (omega (arith, one.call), subst (λ m. AreAbove m (numbers_named (live_named ns ls))) (sym one.call) (live_rise stands ns (suc n) ds ls h.1))

for_rise : (v n : ℕ) (xs : List Named) → AreAbove n (numbers_named xs) → AreAbove n (calls_for v xs)
for_rise v n [] h = tt
for_rise v n (x ∷ xs) h = by (x.vehicle == v) (for_rise v x.number xs h.1)
  where
    by : (b : Bool) → AreAbove x.number (calls_for v xs) → AreAbove n (if b then x.number ∷ calls_for v xs else calls_for v xs)
    by true further = (h.0, further)
    by false further = let up : n < x.number = h.0 in above_less n x.number (calls_for v xs) (omega arith) further

-- the session at this place passes
module _ (before : ℕ) (d : Named) where
  pub left_here : (n i : ℕ) (xs : List Named) → AreAbove n (numbers_named xs) → i < length xs → clock_left before (drop i xs) (get_or xs i d).vehicle (get_or xs i d).number ≡ before
  left_here n i [] h low = absurd (omega arith)
  left_here n zero (x ∷ xs) h low =
      ap (λ b. clock_of before (if b then x.number ∷ calls_for x.vehicle xs else calls_for x.vehicle xs) x.number) (eq-eqb x.vehicle x.vehicle refl)
      ∙ ap (λ b. if b || waits x.number (calls_for x.vehicle xs) then before else before + 1) (eq-eqb x.number x.number refl)
  left_here n (suc i) (x ∷ xs) h low = left_here x.number i xs h.1 (omega arith)

  pub left_passed : (n i : ℕ) (xs : List Named) → AreAbove n (numbers_named xs) → i < length xs → clock_left before (drop (suc i) xs) (get_or xs i d).vehicle (get_or xs i d).number ≡ before + 1
  left_passed n i [] h low = absurd (omega arith)
  left_passed n zero (x ∷ xs) h low =
      ap (λ b. if b then before else before + 1) (apart_above x.number x.number (calls_for x.vehicle xs) (omega arith) (for_rise x.vehicle x.number xs h.1))
  left_passed n (suc i) (x ∷ xs) h low = left_passed x.number i xs h.1 (omega arith)

  pub left_others : (i : ℕ) (xs : List Named) → i < length xs → AreSameBut (get_or xs i d).number (clock_left before (drop i xs) (get_or xs i d).vehicle) (clock_left before (drop (suc i) xs) (get_or xs i d).vehicle)
  left_others i [] low = absurd (omega arith)
  left_others zero (x ∷ xs) low =
      λ c other.
      ap (λ b. clock_of before (if b then x.number ∷ calls_for x.vehicle xs else calls_for x.vehicle xs) c) (eq-eqb x.vehicle x.vehicle refl)
      ∙ ap (λ b. if b || waits c (calls_for x.vehicle xs) then before else before + 1) (ne_eqb x.number c (λ e. other (sym e)))
  left_others (suc i) (x ∷ xs) low = left_others i xs (omega arith)

  pub left_below : (i : ℕ) (xs : List Named) → i < length xs → AreSameBelow (get_or xs i d).vehicle (clock_left before (drop i xs)) (clock_left before (drop (suc i) xs))
  left_below i [] low = absurd (omega arith)
  left_below zero (x ∷ xs) low =
      λ a other. ap (λ b. λ c. clock_of before (if b then x.number ∷ calls_for a xs else calls_for a xs) c) (ne_eqb x.vehicle a (λ e. other (sym e)))
  left_below (suc i) (x ∷ xs) low = left_below i xs (omega arith)

pub live_above : (w : Floor) (ls : List kept_live.Live) → AreLive w.stands 1 w.drawn ls → AreAbove 0 (numbers_named (live_named (numbers_of w.stands) ls))
live_above w ls h = live_rise w.stands (numbers_of w.stands) 0 w.drawn ls h

-- each call of a vehicle is among the live ones
waits_more : (v c : ℕ) (x : Named) (xs : List Named) → waits c (calls_for v xs) ≡ true → waits c (calls_for v (x ∷ xs)) ≡ true
waits_more v c x xs h = by (x.vehicle == v)
  where
    or_true : (b : Bool) → (b || true) ≡ true
    or_true true = refl
    or_true false = refl

    by : (b : Bool) → waits c (if b then x.number ∷ calls_for v xs else calls_for v xs) ≡ true
    by true = ap (λ b. (x.number == c) || b) h ∙ or_true (x.number == c)
    by false = h

is_listed : (w : Floor) (v n : ℕ) (c : ℕ) (ds : List ℕ) (ls : List kept_live.Live) → AreLive w.stands (suc c) ds ls → IsDrawn v ds c n → (IsDown w.stands v n → ⊥) → waits n (calls_for v (live_named (numbers_of w.stands) ls)) ≡ true
is_listed w v n c [] ls h drawn up = absurd drawn
is_listed w v n c (d ∷ ds) [] h (inl e) up = absurd (up (subst (λ m. IsDown w.stands v m) (sym e.0) (subst (λ a. IsDown w.stands a (suc c)) e.1 h.0)))
is_listed w v n c (d ∷ ds) [] h (inr e) up = is_listed w v n (suc c) ds [] h.1 e up
is_listed w v n c (d ∷ ds) (l ∷ ls) (inl h) (inl e) up = absurd (up (subst (λ m. IsDown w.stands v m) (sym e.0) (subst (λ a. IsDown w.stands a (suc c)) e.1 h.0)))
is_listed w v n c (d ∷ ds) (l ∷ ls) (inl h) (inr e) up = is_listed w v n (suc c) ds (l ∷ ls) h.1 e up
is_listed w v n c (d ∷ ds) (l ∷ ls) (inr h) (inl e) up =
    let one : IsOf w.stands d (suc c) l = h.0 in
    let same : get_or (numbers_of w.stands) l.place 0 ≡ v = got (numbers_of w.stands) l.place d one.place ∙ e.1 in
    ap (λ b. waits n (if b then l.call ∷ calls_for v (live_named (numbers_of w.stands) ls) else calls_for v (live_named (numbers_of w.stands) ls))) (eq-eqb (get_or (numbers_of w.stands) l.place 0) v same)
    ∙ ap (λ b. b || waits n (calls_for v (live_named (numbers_of w.stands) ls))) (eq-eqb l.call n (one.call ∙ sym e.0))
is_listed w v n c (d ∷ ds) (l ∷ ls) (inr h) (inr e) up =
    waits_more v n (record { vehicle = get_or (numbers_of w.stands) l.place 0; number = l.call }) (live_named (numbers_of w.stands) ls) (is_listed w v n (suc c) ds ls h.1 e up)

all_listed : (w : Floor) (v : ℕ) (ls : List kept_live.Live) (u : World) → IsReady w ls → own_of v w ≡ Some u → AllByRecursion (λ (k : Call). waits k.number (calls_for v (live_named (numbers_of w.stands) ls)) ≡ true) u.calls
all_listed w v ls u ready there = all u.calls (ready.placed v u there).numbers (λ n none. λ down. none (all_none n u.calls (ap (λ o. call_of n (calls_in o)) (sym there) ∙ down_own v n w down)))
  where
    all : (ks : List Call) → AllByRecursion (λ (k : Call). IsDrawn v w.drawn 0 k.number) ks → ((n : ℕ) → (AllByRecursion (λ (k : Call). k.number ≡ n → ⊥) ks → ⊥) → IsDown w.stands v n → ⊥) → AllByRecursion (λ (k : Call). waits k.number (calls_for v (live_named (numbers_of w.stands) ls)) ≡ true) ks
    all [] drawn up = tt
    all (k ∷ ks) drawn up = (
      is_listed w v k.number 0 w.drawn ls ready.live drawn.0 (up k.number (λ none. none.0 refl)),
      all ks drawn.1 (λ n some. up n (λ none. some none.1)),
    )

-- The clocks said otherwise.

lags_as : (floor : ℕ) (clock later : ℕ → ℕ) (xs : List kept_call.Call) (ks : List Call) → AllByRecursion (λ (k : Call). clock k.number ≡ later k.number) ks → CallsLag (level floor floor) clock xs ks → CallsLag (level floor floor) later xs ks
lags_as floor clock later [] [] same h = tt
lags_as floor clock later [] (k ∷ ks) same h = absurd h
lags_as floor clock later (x ∷ xs) [] same h = absurd h
lags_as floor clock later (x ∷ xs) (k ∷ ks) same h =
    (subst (λ t. CallLags (level floor floor) t x k) same.0 h.0, lags_as floor clock later xs ks same.1 h.1)

all_before : (before : ℕ) (ns : List ℕ) (ks : List Call) → AllByRecursion (λ (k : Call). waits k.number ns ≡ true) ks → AllByRecursion (λ (k : Call). before ≡ clock_of before ns k.number) ks
all_before before ns [] h = tt
all_before before ns (k ∷ ks) h = (sym (ap (λ b. if b then before else before + 1) h.0), all_before before ns ks h.1)

-- none of its sessions was passed yet
pub none_passed : (w : Floor) (v : ℕ) (ls : List kept_live.Live) (ahead floor before : ℕ) (x : kept_seat.Seat) (u : World) → IsReady w ls → own_of v w ≡ Some u → StandsAt ahead (level floor floor) (λ c. before) x.world.channel u → StandsAt ahead (level floor floor) (clock_left before (live_named (numbers_of w.stands) ls) v) x.world.channel u
none_passed w v ls ahead floor before x u ready there h =
    record {
      tick = h.tick;
      drawn = h.drawn;
      up_flow = h.up_flow;
      down_flow = h.down_flow;
      passed = h.passed;
      from = h.from;
      vehicle = h.vehicle;
      calls = lags_as floor (λ c. before) (clock_left before (live_named (numbers_of w.stands) ls) v) x.world.channel.calls u.calls
          (all_before before (calls_for v (live_named (numbers_of w.stands) ls)) u.calls (all_listed w v ls u ready there)) h.calls;
      tidy = h.tidy;
    }
