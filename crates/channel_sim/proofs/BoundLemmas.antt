-- How often ends are passed: sums over steps, and that no step adds an end.
use Rattle.std.proofs.Common.{◌≡◌, ◌≢◌, ℕ, zero, suc, ◌+◌, ◌<◌, ◌≤◌, ◌==◌, ◌||◌, if◌then◌else◌, Bool, true, false, Option, Some, None, IfSome, unwrap_or, List, [], ◌∷◌, ◌++◌, length, map, refl, ap, sym, ◌∙◌, subst, arith, length-append, get_or, take, add-one}
use Rattle.std.proofs.lemmas.Bool.{eqb-true}
use Rattle.std.specs.Option.{is_some}
use Rattle.link_frames.specs.declared.note.Note.{Note}
use Rattle.link_frames.specs.Row.{Row}
use Rattle.ivs_machine.specs.Vehicle.{Vehicle, Phase, Idle, Standby, Arming, InSeries, InCall, vehicle_call}
use Rattle.ivs_machine.specs.VehicleKept.{IsKept}
use Rattle.ivs_machine.specs.VehicleRows as vehicle
use Rattle.ivs_machine.proofs.Ticks.{due_is_least as vehicle_due_is_least}
use Rattle.psap_machine.specs.declared.session.Session.{Session}
use Rattle.psap_machine.specs.Point.{Point}
use Rattle.psap_machine.specs.PointKept.{IsKept as point_IsKept}
use Rattle.psap_machine.specs.PointRows as point
use Rattle.psap_machine.proofs.Ticks.{due_is_least as point_due_is_least}
use Rattle.trace_model.specs.declared.entry.Entry.{Entry}
use Rattle.trace_model.specs.History.{told}
use Rattle.channel_sim.specs.declared.calls.call.Call as kept_call
use Rattle.channel_sim.specs.World as model
use Rattle.channel_sim.specs.World.{Call, World, Step, Act, Due, quiet_step, and_then, session_count, ends, carries, with_legs, seated, session_of, session_in, call_of, did, vehicle_did, session_did, session_acts, does, does_each, consequences, settled, performs, one_handed, hands_up, hands_down, each, vehicle_is_in, point_is_in, due_in, flows_up, flows_down, vehicle_passes, session_passes, sessions_pass, unit, units}
use Rattle.trace_fit.specs.Seats.{left_by, is_number}
use Rattle.channel_sim.specs.Lag.{LeastPassed, SessionLags, SeatLags, CallLags, CallsLag}
use Rattle.channel_sim.specs.inner.Passes.{once_if}
use Rattle.channel_sim.specs.Passes.{passes_of}
use Rattle.channel_sim.specs.inner.Places.{place_of}
use Rattle.channel_sim.specs.Tidy.{numbers_of}
use Rattle.channel_sim.proofs.PlaceLemmas.{next_place-some, place_first, place_behind}

-- Sums.

pub length_told : (now : ℕ) (items : List Note) → length (told now items) ≡ length items
length_told now [] = refl
length_told now (x ∷ xs) = ap suc (length_told now xs)

pub passes_then : (s : Step) (f : World → Step) → passes_of (and_then s f) ≡ passes_of s + passes_of (f s.world)
passes_then s f =
    let t : Step = f s.world in
    let e : length (s.entries ++ t.entries) ≡ length s.entries + length t.entries = length-append s.entries t.entries in
    omega arith

-- an end's items, and what follows from them
pub passes_settled : (w : World) (items : List Note) (v : Vehicle) (ks : List Call)
    → passes_of (settled (did w items v ks)) ≡ length items + passes_of (does_each (consequences (told w.tick items)) (did w items v ks).world)
passes_settled w items v ks =
    let e : length (told w.tick items) ≡ length items = length_told w.tick items in
    let s : passes_of (settled (did w items v ks)) ≡ passes_of (did w items v ks) + passes_of (does_each (consequences (told w.tick items)) (did w items v ks).world) = passes_then (did w items v ks) (does_each (consequences (told w.tick items))) in
    omega arith

pub some_items : (items : List Note) → items ≢ [] → 1 ≤ length items
some_items [] h = absurd (h refl)
some_items (x ∷ xs) h = omega arith

-- a hang-up gives an item
hangup_in : (v : Vehicle) (p : Phase)
    → 1 ≤ length (unwrap_or (vehicle.named vehicle.Hangup v p) (vehicle.unnamed vehicle.Hangup v)).items
hangup_in v Idle = omega arith
hangup_in v Standby = omega arith
hangup_in v (Arming left) = omega arith
hangup_in v (InSeries s) = omega arith
hangup_in v (InCall stage) = omega arith

pub hangup_gives : (w : World) → 1 ≤ passes_of (vehicle_did w (vehicle.vehicle_row w.vehicle vehicle.Hangup))
hangup_gives w =
    let items = (vehicle.vehicle_row w.vehicle vehicle.Hangup).items in
    let some : 1 ≤ length items = hangup_in w.vehicle w.vehicle.phase in
    let e : length (told w.tick items) ≡ length items = length_told w.tick items in
    omega arith

-- No step adds an end.

count_more : (k : Call) (xs ys : List Call) → session_count xs ≤ session_count ys
    → session_count (k ∷ xs) ≤ session_count (k ∷ ys)
count_more k xs ys h = at (is_some k.session)
  where
    at : (b : Bool)
        → (if b then session_count xs + 1 else session_count xs) ≤ (if b then session_count ys + 1 else session_count ys)
    at true = omega arith
    at false = h

count_skip : (k : Call) (xs ys : List Call) → session_count xs ≤ session_count ys
    → session_count xs ≤ session_count (k ∷ ys)
count_skip k xs ys h = at (is_some k.session)
  where
    at : (b : Bool) → session_count xs ≤ (if b then session_count ys + 1 else session_count ys)
    at true = omega arith
    at false = h

count_carries : (es : List Entry) (ks : List Call) → session_count (map (carries es) ks) ≤ session_count ks
count_carries es [] = omega arith
count_carries es (k ∷ ks) = count_more k (map (carries es) ks) ks (count_carries es ks)

count_legs : (ic : Option ℕ) (ks : List Call) → session_count (with_legs ic ks) ≤ session_count ks
count_legs ic [] = omega arith
count_legs ic (k ∷ ks) = at (is_number k.number ic || is_some k.session) (count_legs ic ks)
  where
    at : (b : Bool) → session_count (with_legs ic ks) ≤ session_count ks
        → session_count (if b then k ∷ with_legs ic ks else with_legs ic ks) ≤ session_count (k ∷ ks)
    at true h = count_more k (with_legs ic ks) ks h
    at false h = count_skip k (with_legs ic ks) ks h

put_for : (k : Call) (o : Option Point) (ks : List Call) → is_some k.session ≡ true
    → session_count (record k { session = o } ∷ ks) ≤ session_count (k ∷ ks)
put_for k None ks h = count_skip k ks ks (omega arith)
put_for k (Some p) ks h = subst (λ b. session_count ks + 1 ≤ (if b then session_count ks + 1 else session_count ks)) (sym h) (omega arith)

pub count_seated : (c : ℕ) (o : Option Point) (ks : List Call) → is_some (session_of c ks) ≡ true
    → session_count (seated c o ks) ≤ session_count ks
count_seated c o [] h = omega arith
count_seated c o (k ∷ ks) h = at (k.number == c) h (count_seated c o ks)
  where
    at : (b : Bool) → is_some (session_in (if b then Some k else call_of c ks)) ≡ true
        → (is_some (session_of c ks) ≡ true → session_count (seated c o ks) ≤ session_count ks)
        → session_count (if b then record k { session = o } ∷ ks else k ∷ seated c o ks) ≤ session_count (k ∷ ks)
    at true there rest = put_for k o ks there
    at false there rest = count_more k (seated c o ks) ks (rest there)

did_ends : (w : World) (items : List Note) (v : Vehicle) (ks : List Call) → session_count ks ≤ session_count w.calls
    → ends (did w items v ks).world ≤ ends w
did_ends w items v ks h =
    let es : List Entry = told w.tick items in
    let legs : session_count (with_legs (vehicle_call v) (map (carries es) ks)) ≤ session_count (map (carries es) ks) = count_legs (vehicle_call v) (map (carries es) ks) in
    let same : session_count (map (carries es) ks) ≤ session_count ks = count_carries es ks in
    omega arith

vehicle_did_ends : (w : World) (row : Row Vehicle) → ends (vehicle_did w row).world ≤ ends w
vehicle_did_ends w row = did_ends w row.items row.new w.calls (omega arith)

session_acts_ends : (c : ℕ) (w : World) (row : Point → Row Point)
    → ends (session_acts c w row (session_of c w.calls)).world ≤ ends w
session_acts_ends c w row = at (session_of c w.calls) refl
  where
    at : (o : Option Point) → session_of c w.calls ≡ o → ends (session_acts c w row o).world ≤ ends w
    at None e = omega arith
    at (Some s) e = did_ends w (row s).items w.vehicle (seated c (left_by (row s).new) w.calls) (count_seated c (left_by (row s).new) w.calls (ap is_some e))

does_ends : (a : Act) (w : World) → ends (does a w).world ≤ ends w
does_ends (model.Hears e) w = vehicle_did_ends w (vehicle.vehicle_row w.vehicle e)
does_ends (model.InCall c e) w = at (vehicle_is_in c w)
  where
    at : (b : Bool) → ends (if b then vehicle_did w (vehicle.vehicle_row w.vehicle e) else quiet_step w).world ≤ ends w
    at true = vehicle_did_ends w (vehicle.vehicle_row w.vehicle e)
    at false = omega arith
does_ends (model.Session c e) w = session_acts_ends c w (λ s. point.point_row s e)

then_ends : (n : ℕ) (s : Step) (f : World → Step) → ends s.world ≤ n → ((u : World) → ends (f u).world ≤ ends u)
    → ends (and_then s f).world ≤ n
then_ends n s f h rest = let more : ends (f s.world).world ≤ ends s.world = rest s.world in omega arith

does_each_ends : (acts : List Act) (w : World) → ends (does_each acts w).world ≤ ends w
does_each_ends [] w = omega arith
does_each_ends (a ∷ acts) w = then_ends (ends w) (does a w) (does_each acts) (does_ends a w) (does_each_ends acts)

settled_ends : (n : ℕ) (s : Step) → ends s.world ≤ n → ends (settled s).world ≤ n
settled_ends n s h = then_ends n s (does_each (consequences s.entries)) h (does_each_ends (consequences s.entries))

performs_ends : (a : Act) (w : World) → ends (performs a w).world ≤ ends w
performs_ends a w = settled_ends (ends w) (does a w) (does_ends a w)

hands_up_ends : (d : Due) (w : World) → ends (hands_up d w).world ≤ ends w
hands_up_ends d w = at (point_is_in d.call w)
  where
    at : (b : Bool)
        → ends (if b then one_handed (performs (model.Session d.call (point.Arrives d.frame)) w) else quiet_step w).world ≤ ends w
    at true = performs_ends (model.Session d.call (point.Arrives d.frame)) w
    at false = omega arith

hands_down_ends : (d : Due) (w : World) → ends (hands_down d w).world ≤ ends w
hands_down_ends d w = at (vehicle_is_in d.call w)
  where
    at : (b : Bool)
        → ends (if b then one_handed (performs (model.InCall d.call (vehicle.Arrives d.frame)) w) else quiet_step w).world ≤ ends w
    at true = performs_ends (model.InCall d.call (vehicle.Arrives d.frame)) w
    at false = omega arith

each_ends : {A : Type 0} (step : A → World → Step) (xs : List A) (w : World)
    → ((a : A) (u : World) → ends (step a u).world ≤ ends u) → ends (each step xs w).world ≤ ends w
each_ends step [] w h = omega arith
each_ends step (x ∷ xs) w h = then_ends (ends w) (step x w) (each step xs) (h x w) (λ u. each_ends step xs u h)

session_passes_ends : (c : ℕ) (w : World) → ends (session_passes c w).world ≤ ends w
session_passes_ends c w = settled_ends (ends w) (session_acts c w point.unit_row (session_of c w.calls)) (session_acts_ends c w point.unit_row)

unit_ends : (w : World) → ends (unit w).world ≤ ends w
unit_ends w =
    let now : World = record w { tick = w.tick + 1 } in
    let first : Step = vehicle_passes now in
    let second : Step = and_then first sessions_pass in
    let third : Step = and_then second flows_up in
    let a : ends first.world ≤ ends w = settled_ends (ends w) (vehicle_did now (vehicle.unit_row w.vehicle)) (vehicle_did_ends now (vehicle.unit_row w.vehicle)) in
    let b : ends second.world ≤ ends w = then_ends (ends w) first sessions_pass a (λ u. each_ends session_passes (map (λ k. k.number) u.calls) u session_passes_ends) in
    let c : ends third.world ≤ ends w = then_ends (ends w) second flows_up b (λ u. each_ends hands_up (due_in (λ k. k.up) u.up_flow u.tick u.calls) u hands_up_ends) in
    then_ends (ends w) third flows_down c (λ u. each_ends hands_down (due_in (λ k. k.down) u.down_flow u.tick u.calls) u hands_down_ends)

-- within unit ticks no session comes up
pub units_ends : (n : ℕ) (w : World) → ends (units n w).world ≤ ends w
units_ends zero w = omega arith
units_ends (suc n) w = then_ends (ends w) (unit w) (units n) (unit_ends w) (units_ends n)

-- An end that lags is passed once.

pub due_above : (n : ℕ) (o : Option ℕ) → IfSome o (λ due. n < due) → IfSome o (λ due. n ≤ due)
due_above n None h = tt
due_above n (Some due) h = omega arith

pub seat_once : (n before after : ℕ) (session : Session) (o : Option Point) → SeatLags n (Some session) o
    → ((s : Point) → SessionLags n session s → after ≤ before + 1) → after ≤ before + once_if o
seat_once n before after session None h passes = absurd h
seat_once n before after session (Some s) h passes = passes s h

pub seat_has : (P : Type 0) (n : ℕ) (session : Session) (o : Option Point) → SeatLags n (Some session) o
    → ((s : Point) → SessionLags n session s → P) → P
seat_has P n session None h found = absurd h
seat_has P n session (Some s) h found = found s h

-- what is due gives an item
pub session_gives : (due : ℕ) (s : Point) → point_IsKept s → point.due_of s ≡ Some due
    → 1 ≤ length (point.units due s).items
session_gives due s kept e =
    let h : point.IsLeastDue (Some due) s = subst (λ o. point.IsLeastDue o s) e (point_due_is_least s kept) in
    some_items (point.units due s).items h.gives

pub vehicle_gives : (due : ℕ) (v : Vehicle) → IsKept v → vehicle.due_of v ≡ Some due
    → 1 ≤ length (vehicle.units due v).items
vehicle_gives due v kept e =
    let h : vehicle.IsLeastDue (Some due) v = subst (λ o. vehicle.IsLeastDue o v) e (vehicle_due_is_least v kept) in
    some_items (vehicle.units due v).items h.gives

-- what holds of the call at a place holds of the call of that number
pub call_at : (P : Option Point → Type 0) (floor : LeastPassed) (clock : ℕ → ℕ) (c : ℕ) (xs : List kept_call.Call) (ks : List Call) (i : ℕ) (d : kept_call.Call)
    → CallsLag floor clock xs ks → place_of c (numbers_of ks) ≡ Some i
    → ((k : Call) → CallLags floor (clock c) (get_or xs i d) k → P k.session) → P (session_of c ks)
call_at P floor clock c [] [] i d h place found = cc
call_at P floor clock c [] (k ∷ ks) i d h place found = absurd h
call_at P floor clock c (x ∷ xs) [] i d h place found = absurd h
call_at P floor clock c (x ∷ xs) (k ∷ ks) i d h place found = at (λ j. call_at P floor clock c xs ks j d h.1) (k.number == c) refl
  where
    at : ((j : ℕ) → place_of c (numbers_of ks) ≡ Some j → ((m : Call) → CallLags floor (clock c) (get_or xs j d) m → P m.session) → P (session_of c ks))
        → (b : Bool) → (k.number == c) ≡ b → P (session_in (if b then Some k else call_of c ks))
    at further true same =
        let first = place_first c k.number (numbers_of ks) same in
        let z : 0 ≡ i = cc in
        found k (subst (λ n. CallLags floor (clock n) (get_or (x ∷ xs) i d) k) (eqb-true k.number c same) (subst (λ j. CallLags floor (clock k.number) (get_or (x ∷ xs) j d) k) z h.0))
    at further false other =
        let next = next_place-some (place_of c (numbers_of ks)) i (sym (place_behind c k.number (numbers_of ks) other) ∙ place) in
        further next.0 next.1 (λ m lags. found m (subst (λ j. CallLags floor (clock c) (get_or (x ∷ xs) j d) m) (sym next.2) lags))

-- one session more was passed
count_next : (floor : LeastPassed) (tick before after m : ℕ) (xs : List kept_call.Call) (ks : List Call) (i : ℕ) (d : kept_call.Call)
    → CallsLag floor (λ c. tick) xs ks → i < length xs → before ≤ m + session_count (take i ks)
    → ((k : Call) → CallLags floor tick (get_or xs i d) k → after ≤ before + once_if k.session)
    → after ≤ m + session_count (take (suc i) ks)
count_next floor tick before after m [] ks i d h inside so_far one = absurd (omega arith)
count_next floor tick before after m (x ∷ xs) [] i d h inside so_far one = absurd h
count_next floor tick before after m (x ∷ xs) (k ∷ ks) zero d h inside so_far one = at (is_some k.session) (one k h.0)
  where
    at : (b : Bool) → after ≤ before + (if b then 1 else 0) → after ≤ m + (if b then 1 else 0)
    at true e = omega arith
    at false e = omega arith
count_next floor tick before after m (x ∷ xs) (k ∷ ks) (suc i) d h inside so_far one = at (is_some k.session) so_far (λ n. λ e. count_next floor tick before after n xs ks i d h.1 (omega arith) e one)
  where
    at : (b : Bool) → before ≤ m + (if b then session_count (take i ks) + 1 else session_count (take i ks))
        → ((n : ℕ) → before ≤ n + session_count (take i ks) → after ≤ n + session_count (take (suc i) ks))
        → after ≤ m + (if b then session_count (take (suc i) ks) + 1 else session_count (take (suc i) ks))
    at true e further = let more : after ≤ (m + 1) + session_count (take (suc i) ks) = further (m + 1) (omega arith) in omega arith
    at false e further = further m e

pub count_more_passed : (floor : LeastPassed) (tick before after m : ℕ) (xs : List kept_call.Call) (ks : List Call) (i : ℕ) (d : kept_call.Call)
    → CallsLag floor (λ c. tick) xs ks → i < length xs → before ≤ m + session_count (take i ks)
    → ((k : Call) → CallLags floor tick (get_or xs i d) k → after ≤ before + once_if k.session)
    → after ≤ m + session_count (take (i + 1) ks)
count_more_passed floor tick before after m xs ks i d h inside so_far one =
    subst (λ n. after ≤ m + session_count (take n ks)) (sym (add-one i)) (count_next floor tick before after m xs ks i d h inside so_far one)

-- so many of the calls have no more sessions
pub count_taken : (n : ℕ) (ks : List Call) → session_count (take n ks) ≤ session_count ks
count_taken zero ks = omega arith
count_taken (suc n) [] = omega arith
count_taken (suc n) (k ∷ ks) = count_more k (take n ks) ks (count_taken n ks)

-- Passes of a part of a step.

pub passes_more : (s : Step) (f : World → Step) (m before after : ℕ) → before ≤ m + passes_of s
    → after ≤ before + passes_of (f s.world) → after ≤ m + passes_of (and_then s f)
passes_more s f m before after first second =
    subst (λ n. after ≤ m + n) (sym (passes_then s f)) (sums (passes_of s) (passes_of (f s.world)) m before after first second)
  where
    sums : (a b m before after : ℕ) → before ≤ m + a → after ≤ before + b → after ≤ m + (a + b)
    sums a b m before after first second = omega arith

-- a front of a step passes no more ends than the step
pub passes_front : (s : Step) (f : World → Step) (m after : ℕ) → after ≤ m + passes_of s → after ≤ m + passes_of (and_then s f)
passes_front s f m after few =
    subst (λ n. after ≤ m + n) (sym (passes_then s f)) (sums (passes_of s) (passes_of (f s.world)) few)
  where
    sums : (a b : ℕ) → after ≤ m + a → after ≤ m + (a + b)
    sums a b few = omega arith

-- one pass, for a step with an item
pub once_more : (old new : ℕ) (s t : Step) → s ≡ t → 1 ≤ passes_of t → new ≤ old + 1 → new ≤ old + passes_of s
once_more old new s t e some once = subst (λ (z : Step). new ≤ old + passes_of z) (sym e) (sums (passes_of t) some)
  where
    sums : (n : ℕ) → 1 ≤ n → new ≤ old + n
    sums n some = omega arith

-- items that were told, and what follows from them
pub settled_more : (w : World) (items : List Note) (v : Vehicle) (ks : List Call) (old new : ℕ)
    → new ≤ old + passes_of (does_each (consequences (told w.tick items)) (did w items v ks).world)
    → new + length items ≤ old + passes_of (settled (did w items v ks))
settled_more w items v ks old new least =
    subst (λ n. new + length items ≤ old + n) (sym (passes_settled w items v ks)) (sums (length items) _ least)
  where
    sums : (a b : ℕ) → new ≤ old + b → new + a ≤ old + (a + b)
    sums a b least = omega arith

pub settled_none : (w : World) (items : List Note) (v : Vehicle) (ks : List Call) (m : ℕ)
    → m + length items ≤ m + passes_of (settled (did w items v ks))
settled_none w items v ks m = settled_more w items v ks m m (omega arith)

pub fewer : (new n most : ℕ) → new + n ≤ most → new ≤ most
fewer new n most least = omega arith

-- what an end does, and then what follows
pub acted_more : (old mid new n most : ℕ) → mid ≤ old + n → new + n ≤ mid + most → new ≤ old + most
acted_more old mid new n most first least = omega arith

pub ends_more : (n few most m before after : ℕ) → before ≤ m + n → after ≤ before + few → few ≤ most
    → after ≤ m + (n + most)
ends_more n few most m before after first second fall = omega arith

-- where no session is there, nothing was passed
pub unheard_more : (o : Option Point) (old new more : ℕ) → is_some o ≡ false → new ≤ old + once_if o → new ≤ old + more
unheard_more None old new more gone h = let none : new ≤ old + 0 = h in omega (arith, none)
unheard_more (Some s) old new more gone h = cc

-- a frame handed over

pub handed_up_more : (d : Due) (w : World) (old mid new : ℕ)
    → mid ≤ old + once_if (session_of d.call w.calls)
    → new ≤ mid + passes_of (performs (model.Session d.call (point.Arrives d.frame)) w)
    → new ≤ old + passes_of (hands_up d w)
handed_up_more d w old mid new = at (session_of d.call w.calls)
  where
    row : Point → Row Point
    row s = point.point_row s (point.Arrives d.frame)

    at : (o : Option Point) → mid ≤ old + once_if o
        → new ≤ mid + passes_of (settled (session_acts d.call w row o))
        → new ≤ old + passes_of (if is_some o then one_handed (settled (session_acts d.call w row o)) else quiet_step w)
    at None once least = none least once
      where
        none : new ≤ mid + 0 → mid ≤ old + 0 → new ≤ old + 0
        none least once = omega arith
    at (Some s) once least = one (length (settled (session_acts d.call w row (Some s))).entries) (settled (session_acts d.call w row (Some s))).handed least once
      where
        one : (a b : ℕ) → new ≤ mid + (a + b) → mid ≤ old + 1 → new ≤ old + (a + (b + 1))
        one a b least once = omega arith

pub handed_down_more : (d : Due) (w : World) (old mid new : ℕ)
    → vehicle_is_in d.call w ≡ true → mid ≤ old + 1 → new ≡ mid → new ≤ old + passes_of (hands_down d w)
handed_down_more d w old mid new inside once still =
    subst (λ b. new ≤ old + passes_of (if b then one_handed (performs (model.InCall d.call (vehicle.Arrives d.frame)) w) else quiet_step w)) (sym inside)
    (one (length (performs (model.InCall d.call (vehicle.Arrives d.frame)) w).entries) (performs (model.InCall d.call (vehicle.Arrives d.frame)) w).handed)
  where
    one : (a b : ℕ) → new ≤ old + (a + (b + 1))
    one a b = omega arith
