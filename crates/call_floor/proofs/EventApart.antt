-- A line of one vehicle, or of a call of it, in its own world: it moves that one alone, and draws at most one number.
use Rattle.std.proofs.Common.{◌≡◌, ℕ, Bool, true, false, List, [], ◌∷◌, ◌++◌, ◌==◌, ◌+◌, ◌≤◌, ◌⊎◌, inl, inr, Option, Some, None, map, length, option_map, if◌then◌else◌, refl, ap, sym, ◌∙◌, subst, arith, le-ltb, lt-ltb}
use Rattle.std.specs.List.{AllByRecursion}
use Rattle.ivs_machine.specs.Vehicle.{is_dialling, is_reachable}
use Rattle.ivs_machine.specs.VehicleRows as vehicle
use Rattle.link_frames.specs.declared.frame.End.TheVariants as «end»
use Rattle.link_frames.specs.Row.{Row}
use Rattle.psap_machine.specs.Point.{Point}
use Rattle.psap_machine.specs.PointRows as point
use Rattle.trace_model.specs.declared.event.Event.{Event}
use Rattle.trace_model.specs.declared.event.Event.TheVariants as event
use Rattle.channel_sim.specs.Fit.{IsCall}
use Rattle.channel_sim.specs.World.{Call, World, Step, each}
use Rattle.channel_sim.specs.Lines.{Deed, Does, HandsUp, HandsDown, Answers, CallsBack, deed, deeds_of, when, or_nothing, step, comes_up}
use Rattle.channel_sim.specs.WorldStands.{NeedsCall}
use Rattle.call_floor.specs.Floor.{own_of, Floor, FloorStep, Stand, stand_of, own, put, drawn_by, turn, turn_in}
use Rattle.call_floor.specs.declared.event.CallLine.{CallLine}
use Rattle.call_floor.specs.declared.event.CallLine.TheVariants as call_line
use Rattle.call_floor.specs.declared.event.VehicleLine.{VehicleLine}
use Rattle.call_floor.specs.declared.event.VehicleLine.TheVariants as vehicle_line
use Rattle.call_floor.specs.FloorEvents.{vehicle_event, call_event}
use Rattle.call_floor.specs.inner.Subjects.{Subject, OfVehicle, OfCall, OfAll, subject, IsTurn, event_with}
use Rattle.call_floor.specs.Parts.{own_entries}
use Rattle.call_floor.proofs.Alone.{AreLow, skip, unskip, unskip_skip, skip_low, skip_zero, stays_low}
use Rattle.call_floor.proofs.Apart.{IsStill, Still, IsOwn, put_same, put_other, put_numbers, told_same, told_other}
use Rattle.call_floor.proofs.DeedLemmas.{DrawsNone, draws_none}
use Rattle.call_floor.proofs.Places.{apart, length_more}
use Rattle.call_floor.proofs.StillLemmas.{still_here, still_both, performs_still, up_still, down_still}
use Rattle.call_floor.proofs.WorldRenumbered.{world_at, step_at, line_same}

-- What a line leaves: the world's tick and its flows; and at most one more number is drawn.
pub record IsMoved (u later : World) : Type 0 where
  pub tick : later.tick ≡ u.tick
  pub up_flow : later.up_flow ≡ u.up_flow
  pub down_flow : later.down_flow ≡ u.down_flow
  pub drawn : (later.drawn ≡ u.drawn) ⊎ (later.drawn ≡ u.drawn + 1)

-- any property of numbers
abbrev any : ℕ → Type 0
any n = Unit {0}

moved_still : (u later : World) → IsStill any u later → IsMoved u later
moved_still u later h = record { tick = h.tick; up_flow = h.up_flow; down_flow = h.down_flow; drawn = inl h.drawn }

deed_still : (x : Deed) → DrawsNone x → Still any (deed x)
deed_still (Does a) h w = performs_still any a w
deed_still (HandsUp x) h w = up_still any x w
deed_still (HandsDown x) h w = down_still any x w
deed_still Answers h w = absurd h
deed_still CallsBack h w = absurd h

deeds_still : (xs : List Deed) → AllByRecursion DrawsNone xs → Still any (each deed xs)
deeds_still [] h w = still_here any w
deeds_still (x ∷ xs) h w =
    still_both any w (deed x w).world (each deed xs (deed x w).world).world (deed_still x h.0 w) (deeds_still xs h.1 (deed x w).world)

line_still : (xs : List Deed) → AllByRecursion DrawsNone xs → Still any (or_nothing xs)
line_still [] h w = record { tick = refl; drawn = refl; up_flow = refl; down_flow = refl; order = λ o. o; numbers = λ o. o }
line_still (x ∷ xs) h w = deeds_still (x ∷ xs) h w

other_still : (e : Event) → (NeedsCall e → ⊥) → (u : World) → IsStill any u (or_nothing (deeds_of u e) u).world
other_still e h u = line_still (deeds_of u e) (draws_none e h u) u

-- a line of a turn that draws nothing leaves the last number
pub step_still : (e : Event) → IsTurn (subject e) → (NeedsCall e → ⊥) → (u : World) → IsStill any u (step u e).world
step_still event.Answer t h u = absurd (h tt)
step_still event.Callback t h u = absurd (h tt)
step_still (event.Flow up delay) t h u = absurd t
step_still (event.Tick n) t h u = absurd t
step_still (event.Reset «end».Point) t h u = absurd t
step_still (event.Trigger cause) t h u = other_still (event.Trigger cause) h u
step_still event.Cancel t h u = other_still event.Cancel h u
step_still (event.Net up) t h u = other_still (event.Net up) h u
step_still event.Fail t h u = other_still event.Fail h u
step_still event.Sleep t h u = other_still event.Sleep h u
step_still event.FaultVehicle t h u = other_still event.FaultVehicle h u
step_still (event.FaultPoint c) t h u = other_still (event.FaultPoint c) h u
step_still (event.Damaged c) t h u = other_still (event.Damaged c) h u
step_still (event.Request c) t h u = other_still (event.Request c) h u
step_still (event.Clear c) t h u = other_still (event.Clear c) h u
step_still (event.Hangup c) t h u = other_still (event.Hangup c) h u
step_still (event.Reset «end».Vehicle) t h u = other_still (event.Reset «end».Vehicle) h u
step_still event.DropVehicle t h u = other_still event.DropVehicle h u
step_still (event.DropPoint c) t h u = other_still (event.DropPoint c) h u
step_still (event.DropBoth c) t h u = other_still (event.DropBoth c) h u
step_still (event.Deliver up c k) t h u = other_still (event.Deliver up c k) h u

comes_up_moves : (x : Deed) (e : ℕ → vehicle.Heard) (arrival : ℕ → Row Point) (u : World) → deed x u ≡ comes_up e arrival u → (b : Bool) → IsMoved u (or_nothing (when b x) u).world
comes_up_moves x e arrival u same true =
    subst (λ (s : Step). IsMoved u s.world) (sym same) (record { tick = refl; up_flow = refl; down_flow = refl; drawn = inr refl })
comes_up_moves x e arrival u same false = record { tick = refl; up_flow = refl; down_flow = refl; drawn = inl refl }

pub step_moves : (e : Event) → IsTurn (subject e) → (u : World) → IsMoved u (step u e).world
step_moves event.Answer t u = comes_up_moves Answers vehicle.Answered point.arriving u refl (is_dialling u.vehicle)
step_moves event.Callback t u = comes_up_moves CallsBack vehicle.Incoming point.called u refl (is_reachable u.vehicle)
step_moves (event.Flow up delay) t u = absurd t
step_moves (event.Tick n) t u = absurd t
step_moves (event.Reset «end».Point) t u = absurd t
step_moves (event.Trigger cause) t u = moved_still u (step u (event.Trigger cause)).world (step_still (event.Trigger cause) t (λ h. h) u)
step_moves event.Cancel t u = moved_still u (step u event.Cancel).world (step_still event.Cancel t (λ h. h) u)
step_moves (event.Net up) t u = moved_still u (step u (event.Net up)).world (step_still (event.Net up) t (λ h. h) u)
step_moves event.Fail t u = moved_still u (step u event.Fail).world (step_still event.Fail t (λ h. h) u)
step_moves event.Sleep t u = moved_still u (step u event.Sleep).world (step_still event.Sleep t (λ h. h) u)
step_moves event.FaultVehicle t u = moved_still u (step u event.FaultVehicle).world (step_still event.FaultVehicle t (λ h. h) u)
step_moves (event.FaultPoint c) t u = moved_still u (step u (event.FaultPoint c)).world (step_still (event.FaultPoint c) t (λ h. h) u)
step_moves (event.Damaged c) t u = moved_still u (step u (event.Damaged c)).world (step_still (event.Damaged c) t (λ h. h) u)
step_moves (event.Request c) t u = moved_still u (step u (event.Request c)).world (step_still (event.Request c) t (λ h. h) u)
step_moves (event.Clear c) t u = moved_still u (step u (event.Clear c)).world (step_still (event.Clear c) t (λ h. h) u)
step_moves (event.Hangup c) t u = moved_still u (step u (event.Hangup c)).world (step_still (event.Hangup c) t (λ h. h) u)
step_moves (event.Reset «end».Vehicle) t u =
    moved_still u (step u (event.Reset «end».Vehicle)).world (step_still (event.Reset «end».Vehicle) t (λ h. h) u)
step_moves event.DropVehicle t u = moved_still u (step u event.DropVehicle).world (step_still event.DropVehicle t (λ h. h) u)
step_moves (event.DropPoint c) t u = moved_still u (step u (event.DropPoint c)).world (step_still (event.DropPoint c) t (λ h. h) u)
step_moves (event.DropBoth c) t u = moved_still u (step u (event.DropBoth c)).world (step_still (event.DropBoth c) t (λ h. h) u)
step_moves (event.Deliver up c k) t u = moved_still u (step u (event.Deliver up c k)).world (step_still (event.Deliver up c k) t (λ h. h) u)

-- Lines under other numbers.

-- a line of a vehicle names no call
pub vehicle_plain : (f : ℕ → ℕ) (l : VehicleLine) → event_with f (vehicle_event l) ≡ vehicle_event l
vehicle_plain f (vehicle_line.Trigger cause) = refl
vehicle_plain f _ = refl

pub vehicle_turn : (l : VehicleLine) → IsTurn (subject (vehicle_event l))
vehicle_turn (vehicle_line.Trigger cause) = tt
vehicle_turn _ = tt

pub call_subject : (c : ℕ) (l : CallLine) → subject (call_event c l) ≡ OfCall c
call_subject c call_line.Fault = refl
call_subject c _ = refl

pub call_renamed : (f : ℕ → ℕ) (c : ℕ) (l : CallLine) → event_with f (call_event c l) ≡ call_event (f c) l
call_renamed f c call_line.Fault = refl
call_renamed f c _ = refl

-- this holds of the call that a line names
abbrev pub OfIts : (ℕ → Type 0) → Subject → Type 0
OfIts P (OfCall c) = P c
OfIts P _ = Unit {0}

pub event_fixed : (f : ℕ → ℕ) (e : Event) → OfIts (λ c. f c ≡ c) (subject e) → event_with f e ≡ e
event_fixed f (event.FaultPoint c) h = ap event.FaultPoint h
event_fixed f (event.Damaged c) h = ap event.Damaged h
event_fixed f (event.Request c) h = ap event.Request h
event_fixed f (event.Clear c) h = ap event.Clear h
event_fixed f (event.Hangup c) h = ap event.Hangup h
event_fixed f (event.DropPoint c) h = ap event.DropPoint h
event_fixed f (event.DropBoth c) h = ap event.DropBoth h
event_fixed f (event.Deliver up c k) h = ap (λ x. event.Deliver up x k) h
event_fixed f _ h = refl

pub vehicle_names : (P : ℕ → Type 0) (l : VehicleLine) → OfIts P (subject (vehicle_event l))
vehicle_names P (vehicle_line.Trigger cause) = tt
vehicle_names P _ = tt

its_other : (P Q : ℕ → Type 0) → ((c : ℕ) → P c → Q c) → (s : Subject) → OfIts P s → OfIts Q s
its_other P Q h (OfCall c) p = h c p
its_other P Q h OfVehicle p = tt
its_other P Q h OfAll p = tt

-- A line that names no higher call than were drawn leaves the number of the vehicle's call among those drawn.

same_skipped : (n : ℕ) (e : Event) (w : World) → OfIts (λ c. c ≤ n) (subject e) → (NeedsCall e → w.drawn + 1 ≤ n) → step (world_at (skip n) 0 w) e ≡ step_at (skip n) 0 (step w e)
same_skipped n e w low next =
    ap (step (world_at (skip n) 0 w)) (sym (event_fixed (skip n) e (its_other (λ c. c ≤ n) (λ c. skip n c ≡ c) (skip_low n) (subject e) low)))
    ∙ line_same (skip n) (apart (skip n) (unskip n) (unskip_skip n)) (skip_zero n) 0 e w
    (λ h. let below = next h in skip_low n (w.drawn + 1) below ∙ omega arith)

raised : (n m : ℕ) → n ≤ m → (w : World) → AreLow n w → AreLow m w
raised n m low w h = record { vehicle = omega (arith, h.vehicle); calls = all w.calls h.calls }
  where
    all : (ks : List Call) → AllByRecursion (IsCall n) ks → AllByRecursion (IsCall m) ks
    all [] a = tt
    all (k ∷ ks) a = let one : IsCall n k = a.0 in (record { number = omega (arith, one.number); session = one.session }, all ks a.1)

-- where a call comes up, or where none does
up_low : (x : Deed) (e : Event) (w : World) → (step w e ≡ or_nothing (when true x) w → (step w e).world.vehicle.call ≤ w.drawn + 1) → (b : Bool) → step w e ≡ or_nothing (when b x) w → (or_nothing (when true x) w).world.drawn ≡ w.drawn + 1 → AreLow w.drawn w → (step w e).world.vehicle.call ≤ (step w e).world.drawn
up_low x e w low true same one h =
    let up = low same in
    let last : (step w e).world.drawn ≡ w.drawn + 1 = ap (λ (s : Step). s.world.drawn) same ∙ one in
    omega (arith, up, last)
up_low x e w low false same one h =
    subst (λ (s : Step). s.world.vehicle.call ≤ s.world.drawn) (sym same) h.vehicle

other_low : (e : Event) → IsTurn (subject e) → (NeedsCall e → ⊥) → (w : World) → AreLow w.drawn w → OfIts (λ c. c ≤ w.drawn) (subject e) → (step w e).world.vehicle.call ≤ (step w e).world.drawn
other_low e t none w h low =
    let up = stays_low w.drawn (λ u. step u e) w h (same_skipped w.drawn e w low (λ n. absurd (none n))) in
    omega (arith, up, (step_still e t none w).drawn)

pub step_low : (e : Event) → IsTurn (subject e) → (w : World) → AreLow w.drawn w → OfIts (λ c. c ≤ w.drawn) (subject e) → (step w e).world.vehicle.call ≤ (step w e).world.drawn
step_low event.Answer t w h low =
    up_low Answers event.Answer w (λ same. stays_low (w.drawn + 1) (λ u. step u event.Answer) w (raised w.drawn (w.drawn + 1) (omega arith) w h) (same_skipped (w.drawn + 1) event.Answer w tt (λ n. omega arith))) (is_dialling w.vehicle) refl refl h
step_low event.Callback t w h low =
    up_low CallsBack event.Callback w (λ same. stays_low (w.drawn + 1) (λ u. step u event.Callback) w (raised w.drawn (w.drawn + 1) (omega arith) w h) (same_skipped (w.drawn + 1) event.Callback w tt (λ n. omega arith))) (is_reachable w.vehicle) refl refl h
step_low (event.Flow up delay) t w h low = absurd t
step_low (event.Tick n) t w h low = absurd t
step_low (event.Reset «end».Point) t w h low = absurd t
step_low (event.Reset «end».Vehicle) t w h low = other_low (event.Reset «end».Vehicle) t (λ n. n) w h low
step_low (event.Trigger cause) t w h low = other_low (event.Trigger cause) t (λ n. n) w h low
step_low event.Cancel t w h low = other_low event.Cancel t (λ n. n) w h low
step_low (event.Net up) t w h low = other_low (event.Net up) t (λ n. n) w h low
step_low event.Fail t w h low = other_low event.Fail t (λ n. n) w h low
step_low event.Sleep t w h low = other_low event.Sleep t (λ n. n) w h low
step_low event.FaultVehicle t w h low = other_low event.FaultVehicle t (λ n. n) w h low
step_low (event.FaultPoint c) t w h low = other_low (event.FaultPoint c) t (λ n. n) w h low
step_low (event.Damaged c) t w h low = other_low (event.Damaged c) t (λ n. n) w h low
step_low (event.Request c) t w h low = other_low (event.Request c) t (λ n. n) w h low
step_low (event.Clear c) t w h low = other_low (event.Clear c) t (λ n. n) w h low
step_low (event.Hangup c) t w h low = other_low (event.Hangup c) t (λ n. n) w h low
step_low event.DropVehicle t w h low = other_low event.DropVehicle t (λ n. n) w h low
step_low (event.DropPoint c) t w h low = other_low (event.DropPoint c) t (λ n. n) w h low
step_low (event.DropBoth c) t w h low = other_low (event.DropBoth c) t (λ n. n) w h low
step_low (event.Deliver up c k) t w h low = other_low (event.Deliver up c k) t (λ n. n) w h low

-- Turns that may draw a number.

drawn_on : (a n : ℕ) (ds : List ℕ) → n ≡ length ds + 1 → drawn_by a n ds ≡ ds ++ a ∷ []
drawn_on a n ds e = ap (λ b. if b then ds ++ a ∷ [] else ds) (lt-ltb (length ds) n (omega (arith, e)))

drawn_off : (a n : ℕ) (ds : List ℕ) → n ≡ length ds → drawn_by a n ds ≡ ds
drawn_off a n ds e = ap (λ b. if b then ds ++ a ∷ [] else ds) (le-ltb (length ds) n (omega (arith, e)))

-- The numbers drawn behind a turn: these, and where it drew one, this vehicle's.
abbrev pub DrewFor : ℕ → (before later : List ℕ) → (last : ℕ) → Type 0
DrewFor a before later last =
    ((later ≡ before) × (last ≡ length before)) ⊎ ((later ≡ before ++ a ∷ []) × (last ≡ length before + 1))

drew : (a n : ℕ) (ds : List ℕ) → (n ≡ length ds) ⊎ (n ≡ length ds + 1) → DrewFor a ds (drawn_by a n ds) n
drew a n ds (inl e) = inl (drawn_off a n ds e, e)
drew a n ds (inr e) = inr (drawn_on a n ds e, e)

pub drew_length : (a n : ℕ) (ds later : List ℕ) → DrewFor a ds later n → length later ≡ n
drew_length a n ds later (inl e) = ap length e.0 ∙ sym e.1
drew_length a n ds later (inr e) = ap length e.0 ∙ length_more ds a ∙ omega (arith, e.1)

-- a vehicle's own turn
pub record TurnOwn (v : ℕ) (w : Floor) (s : FloorStep) (t : Step) : Type 0 where
  pub its : IsOwn v s t
  pub drew : DrewFor v w.drawn s.floor.drawn t.world.drawn

some_world : (x y : World) → Some x ≡ Some y → x ≡ y
some_world x y e = cc

own_turn_in : (v : ℕ) (act : World → Step) (w : Floor) (s : Stand) → stand_of v w.stands ≡ Some s → IsMoved (own w s) (act (own w s)).world → TurnOwn v w (turn_in v act w (Some s)) (act (own w s))
own_turn_in v act w s found h =
    let later : World = (act (own w s)).world in
    let ds : List ℕ = drawn_by v later.drawn w.drawn in
    let drew_it : DrewFor v w.drawn ds later.drawn = drew v later.drawn w.drawn h.drawn in
    record {
      its =
          record {
            there =
                ap (option_map (own (record w { stands = put v later w.stands; drawn = ds }))) (put_same v later w.stands s found)
                ∙ ap (λ n. Some (record { tick = n; vehicle = later.vehicle; drawn = length ds; calls = later.calls; up_flow = w.up_flow; down_flow = w.down_flow })) (sym h.tick)
                ∙ ap (λ n. Some (record { tick = later.tick; vehicle = later.vehicle; drawn = n; calls = later.calls; up_flow = w.up_flow; down_flow = w.down_flow })) (drew_length v later.drawn w.drawn ds drew_it)
                ∙ ap (λ n. Some (record { tick = later.tick; vehicle = later.vehicle; drawn = later.drawn; calls = later.calls; up_flow = n; down_flow = w.down_flow })) (sym h.up_flow)
                ∙ ap (λ n. Some (record { tick = later.tick; vehicle = later.vehicle; drawn = later.drawn; calls = later.calls; up_flow = later.up_flow; down_flow = n })) (sym h.down_flow);
            told = told_same v (act (own w s)).entries;
          };
      drew = drew_it;
    }

pub own_turn : (v : ℕ) (act : World → Step) → ((u : World) → IsMoved u (act u).world) → (w : Floor) (u : World) → own_of v w ≡ Some u → TurnOwn v w (turn v act w) (act u)
own_turn v act moves w u h = by (stand_of v w.stands) refl h
  where
    by : (o : Option Stand) → stand_of v w.stands ≡ o → option_map (own w) o ≡ Some u → TurnOwn v w (turn_in v act w o) (act u)
    by None e f = cc
    by (Some s) e f = subst (λ x. TurnOwn v w (turn_in v act w (Some s)) (act x)) (some_world (own w s) u f) (own_turn_in v act w s e (moves (own w s)))

-- another vehicle's turn
pub record TurnOther (a v : ℕ) (w : Floor) (s : FloorStep) (u : World) : Type 0 where
  pub there : own_of v s.floor ≡ Some (record u { drawn = length s.floor.drawn })
  pub told : own_entries v s.entries ≡ []
  pub drew : (s.floor.drawn ≡ w.drawn) ⊎ (s.floor.drawn ≡ w.drawn ++ a ∷ [])

last_of : (v : ℕ) (w : Floor) (u : World) → own_of v w ≡ Some u → u ≡ record u { drawn = length w.drawn }
last_of v w u h = by (stand_of v w.stands) h
  where
    by : (o : Option Stand) → option_map (own w) o ≡ Some u → u ≡ record u { drawn = length w.drawn }
    by None f = cc
    by (Some s) f = subst (λ (x : World). x ≡ record x { drawn = length w.drawn }) (some_world (own w s) u f) refl

pub other_turn : (a v : ℕ) → (a == v) ≡ false → (act : World → Step) → ((u : World) → IsMoved u (act u).world) → (w : Floor) (u : World) → own_of v w ≡ Some u → TurnOther a v w (turn a act w) u
other_turn a v apart act moves w u h = by (stand_of a w.stands)
  where
    line : (ds : List ℕ) (ss : List Stand) → stand_of v ss ≡ stand_of v w.stands → own_of v (record w { stands = ss; drawn = ds }) ≡ Some (record u { drawn = length ds })
    line ds ss same = ap (option_map (own (record w { stands = ss; drawn = ds }))) same ∙ under (stand_of v w.stands) ∙ ap (option_map (λ (x : World). record x { drawn = length ds })) h
      where
        under : (o : Option Stand) → option_map (own (record w { stands = ss; drawn = ds })) o ≡ option_map (λ (x : World). record x { drawn = length ds }) (option_map (own w) o)
        under None = refl
        under (Some s) = refl

    which : (n : ℕ) (later : List ℕ) → DrewFor a w.drawn later n → (later ≡ w.drawn) ⊎ (later ≡ w.drawn ++ a ∷ [])
    which n later (inl e) = inl e.0
    which n later (inr e) = inr e.0

    by : (o : Option Stand) → TurnOther a v w (turn_in a act w o) u
    by None = record { there = line w.drawn w.stands refl; told = refl; drew = inl refl }
    by (Some s) =
        let later : World = (act (own w s)).world in
        record {
          there = line (drawn_by a later.drawn w.drawn) (put a later w.stands) (put_other a v later apart w.stands);
          told = told_other a v apart (act (own w s)).entries;
          drew = which later.drawn (drawn_by a later.drawn w.drawn) (drew a later.drawn w.drawn (moves (own w s)).drawn);
        }

pub turn_numbers : (a : ℕ) (act : World → Step) (w : Floor) → map (λ (s : Stand). s.number) (turn a act w).floor.stands ≡ map (λ (s : Stand). s.number) w.stands
turn_numbers a act w = by (stand_of a w.stands)
  where
    by : (o : Option Stand) → map (λ (s : Stand). s.number) (turn_in a act w o).floor.stands ≡ map (λ (s : Stand). s.number) w.stands
    by None = refl
    by (Some s) = put_numbers a (act (own w s)).world w.stands

pub last_drawn : (v : ℕ) (w : Floor) (u : World) → own_of v w ≡ Some u → record u { drawn = length w.drawn } ≡ u
last_drawn v w u h = sym (last_of v w u h)
