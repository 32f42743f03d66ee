-- A unit tick of the world keeps a world that fits: the vehicle passes, then each session, then frames are handed over.
use Rattle.std.specs.Prelude.{◌≡◌, ◌||◌, ◌≤◌, ◌+◌, ℕ, ◌==◌, zero, suc, Bool, true, false, List, [], ◌∷◌, ◌++◌, Option, Some, None, IfSome, map, if◌then◌else◌}
use Rattle.std.specs.List.{AllByRecursion}
use Rattle.std.proofs.Common.{refl, sym, ap, subst, ◌∙◌, arith, append_assoc}
use Rattle.std.proofs.lemmas.Bool.{eqb-true, eqb-false, eq-eqb, ne_eqb}
use Rattle.link_frames.specs.declared.frame.End.{End}
use Rattle.link_frames.specs.declared.frame.End.TheVariants as «end»
use Rattle.link_frames.specs.declared.frame.Frame.{Frame}
use Rattle.link_frames.specs.declared.frame.Frame.TheVariants as frame
use Rattle.link_frames.specs.Legs.{Kept, through}
use Rattle.link_frames.specs.Owes.{Seat, elapsed, set_for, Owes}
use Rattle.link_frames.specs.Row.{Row}
use Rattle.ivs_machine.specs.Vehicle.{Vehicle}
use Rattle.ivs_machine.specs.VehicleOwes.{VehicleOwes, StaysIn, seat_of, number_of}
use Rattle.ivs_machine.specs.VehicleRows as vehicle
use Rattle.ivs_machine.proofs.VehicleOwed as vehicle_owed
use Rattle.psap_machine.specs.Point.{Point}
use Rattle.psap_machine.specs.PointOwes as point_owes
use Rattle.psap_machine.specs.PointRows as point
use Rattle.psap_machine.proofs.PointOwed as point_owed
use Rattle.trace_model.specs.declared.entry.Entry.{Entry}
use Rattle.trace_model.specs.History.{Sent, told, sets_step, sets_of}
use Rattle.trace_model.specs.Safety.{is_leg, is_own, own}
use Rattle.trace_model.proofs.Folds.{through_append}
use Rattle.channel_sim.specs.World.{Call, World, Step, InCall, Session, Due, quiet_step, and_then, call_of, session_in, session_of, point_is_in, vehicle_is_in, seated, vehicle_did, session_did, session_acts, does, performs, one_handed, hands_up, hands_down, each, due_frames, due_in, flows_up, flows_down, vehicle_passes, session_passes, sessions_pass, unit}
use Rattle.trace_fit.specs.Seats.{left_by}
use Rattle.channel_sim.specs.Fit.{seats_of, FramesFit}
use Rattle.trace_fit.specs.Links.{CarriesMade, ConfirmsShown, CallLinks}
use Rattle.trace_fit.specs.Order.{Rises}
use Rattle.trace_fit.specs.Seats.{vehicle_seat, point_seat, IsSessionOf}
use Rattle.channel_sim.specs.Tidy.{AreAbove, numbers_of}
use Rattle.channel_sim.specs.inner.FitAt.{FitsAt, Goes, Settles, all_at}
use Rattle.trace_fit.specs.inner.FitAt.{Came, Clocks}
use Rattle.trace_fit.proofs.Lists.{all_append, all_into}
use Rattle.trace_fit.proofs.LinksRow.{sets_stay}
use Rattle.trace_fit.proofs.RowOwes.{unit_kept}
use Rattle.channel_sim.proofs.CallsKept.{found_session}
use Rattle.trace_fit.proofs.Seats.{stays_own, seat_as, seat_apart, none_through, left_session}
use Rattle.channel_sim.proofs.Acts.{did_goes, vehicle_others, own_seat, number_drawn, still_listed, session_others, session_here, seated_goes, owes_here, session_drawn, quiet_goes, then_goes, in_call_goes, session_act_goes, settled_goes}
use Rattle.trace_fit.proofs.Clocks.{reclock}

-- the vehicle was passed, and no session
abbrev pub vehicle_passed : ℕ → Clocks
vehicle_passed m «end».Vehicle c = m + 1
vehicle_passed m «end».Point c = m

-- just one leg was passed
abbrev one_passed : (m : ℕ) → End → ℕ → Clocks
one_passed m e c f d = if is_leg f d e c then m + 1 else m

-- whether a number is among these
abbrev pub is_left : ℕ → List ℕ → Bool
is_left d [] = false
is_left d (c ∷ cs) = (c == d) || is_left d cs

-- all were passed but the sessions of these calls
abbrev pub passed_but : ℕ → List ℕ → Clocks
passed_but m cs «end».Vehicle d = m + 1
passed_but m cs «end».Point d = if is_left d cs then m else m + 1

rises_later : (a b c : ℕ) → b ≤ c → (xs : List Entry) → Rises a xs b → Rises a xs c
rises_later a b c h [] k = omega (arith, h, k)
rises_later a b c h (x ∷ xs) k = (k.0, rises_later x.tick b c h xs k.1)

-- the tick is one more, and nobody was passed yet
pub later : (m last : ℕ) (w : World) (t : List Entry) → FitsAt (all_at m) m last w t →
    FitsAt (all_at m) (m + 1) last (record w { tick = w.tick + 1 }) t
later m last w t f =
    record {
      tick = ap (λ z. z + 1) f.tick;
      drawn = f.drawn;
      fit =
          record {
            seats = f.fit.seats;
            in_time = f.fit.in_time;
            near = λ e c. omega arith;
            links = f.fit.links;
            drawn = f.fit.drawn;
            rises = rises_later 0 m (m + 1) (omega arith) t f.fit.rises;
            agreed = f.fit.agreed;
            ordered = f.fit.ordered;
            safe = f.fit.safe;
          };
      vehicle = f.vehicle;
      calls = f.calls;
      frames = f.frames;
      legs = f.legs;
      in_order = f.in_order;
      listed = f.listed;
    }

any : (x y : ℕ) → x ≡ y → (o : Option Seat) → IfSome o (λ s. x ≡ y)
any x y h None = tt
any x y h (Some s) = h

-- The vehicle's unit tick.

leg_apart : (m c : ℕ) (e f : End) (d : ℕ) → is_leg f d e c ≡ false → one_passed m e c f d ≡ m
leg_apart m c e f d h = rw h refl

vehicle_near : (m : ℕ) → (f : End) (d : ℕ) → m + 1 ≤ vehicle_passed m f d + 1
vehicle_near m «end».Vehicle d = omega arith
vehicle_near m «end».Point d = omega arith

settles_vehicle : (m : ℕ) → Settles (vehicle_passed m) (m + 1)
settles_vehicle m = record { vehicle = λ c. refl; point = λ c. omega arith }

-- the vehicle's seats behind its unit tick
vehicle_clock : (m c : ℕ) (v : Vehicle) (calls : List Call) → StaysIn c v v.phase → (f : End) (d : ℕ) →
    IfSome (seats_of v calls f d) (λ s. vehicle_passed m f d ≡ one_passed m «end».Vehicle c f d)
vehicle_clock m c v calls same «end».Vehicle d = at (d == c) refl
  where
    at : (b : Bool) → (d == c) ≡ b → IfSome (vehicle_seat d v) (λ s. m + 1 ≡ (if d == c then m + 1 else m))
    at true h = rw h (any (m + 1) (m + 1) refl (vehicle_seat d v))
    at false h = rw (seat_apart c d v h same) tt
vehicle_clock m c v calls same «end».Point d = any m m refl (point_seat (session_of d calls))

pub vehicle_unit_goes : (m last : ℕ) (w : World) (t : List Entry) (row : Row Vehicle)
    → FitsAt (all_at m) (m + 1) last w t
    → VehicleOwes w.vehicle None (elapsed (seat_of w.vehicle)) row
    → Goes (vehicle_passed m) (m + 1) last (vehicle_did w row) t
vehicle_unit_goes m last w t row f owes =
    let c : ℕ = number_of w.vehicle in
    did_goes (vehicle_passed m) (m + 1) last w t row.items row.new w.calls f.tick f.drawn
    (reclock (one_passed m «end».Vehicle c) (vehicle_passed m) (seats_of row.new w.calls) (m + 1) last (t ++ told (m + 1) row.items)
    (unit_kept (all_at m) (one_passed m «end».Vehicle c) (seats_of w.vehicle w.calls) (seats_of row.new w.calls) (m + 1) last t «end».Vehicle c row.items (seat_of row.new) f.fit
    (number_drawn (all_at m) (m + 1) last w t f.fit) refl
    (rw (eq-eqb c c refl) refl)
    (subst (λ (z : Option Seat). Owes «end».Vehicle c None (elapsed z) row.items (seat_of row.new)) (sym (own_seat w.vehicle)) owes.owes)
    (record {
      here = seat_as c row.new owes.call;
      others = vehicle_others w.vehicle row.new w.calls c (stays_own w.vehicle) owes.call;
      clocks = λ g d apart. leg_apart m c «end».Vehicle g d apart;
    }))
    (vehicle_clock m c row.new w.calls owes.call)
    (vehicle_near m))
    owes.kept f.calls f.frames f.in_order
    (still_listed w.vehicle row.new w.calls owes.call
    (λ none. owes.owes.seat ∙ rw none (none_through «end».Vehicle row.items)) f.listed)

-- The sessions' unit ticks.

but_near : (m : ℕ) (cs : List ℕ) → (f : End) (d : ℕ) → m + 1 ≤ passed_but m cs f d + 1
but_near m cs «end».Vehicle d = omega arith
but_near m cs «end».Point d = at (is_left d cs)
  where
    at : (b : Bool) → m + 1 ≤ (if b then m else m + 1) + 1
    at true = omega arith
    at false = omega arith

settles_but : (m : ℕ) (cs : List ℕ) → Settles (passed_but m cs) (m + 1)
settles_but m cs = record { vehicle = λ c. refl; point = λ c. at (is_left c cs) }
  where
    at : (b : Bool) → (if b then m else m + 1) ≤ m + 1
    at true = omega arith
    at false = omega arith

flip_false : (a b : ℕ) → (a == b) ≡ false → (b == a) ≡ false
flip_false a b h = ne_eqb b a (λ e. eqb-false a b h (sym e))

but_others : (m c : ℕ) (cs : List ℕ) (f : End) (d : ℕ) → is_leg f d «end».Point c ≡ false →
    passed_but m cs f d ≡ passed_but m (c ∷ cs) f d
but_others m c cs «end».Vehicle d h = refl
but_others m c cs «end».Point d h = ap (λ b. if b || is_left d cs then m else m + 1) (sym (flip_false d c h))

session_unit_goes : (m last c : ℕ) (cs : List ℕ) (w : World) (t : List Entry) (p : Point) (row : Row Point)
    → is_left c cs ≡ false
    → FitsAt (passed_but m (c ∷ cs)) (m + 1) last w t
    → session_of c w.calls ≡ Some p
    → point_owes.PointOwes p None (elapsed (point_owes.seat_of p)) row
    → Goes (passed_but m cs) (m + 1) last (session_did c w row) t
session_unit_goes m last c cs w t p row once f found owes =
    let is : IsSessionOf c p = found_session c last p w.calls f.calls found in
    seated_goes (passed_but m (c ∷ cs)) (passed_but m cs) (m + 1) last w t c row f
    (left_session c row.new owes.kept (owes.call ∙ is.call))
    (unit_kept (passed_but m (c ∷ cs)) (passed_but m cs) (seats_of w.vehicle w.calls) (seats_of w.vehicle (seated c (left_by row.new) w.calls)) (m + 1) last t «end».Point c row.items (point_owes.seat_of row.new) f.fit
    (session_drawn c last w.calls p f.calls found)
    (ap (λ b. (if b || is_left c cs then m else m + 1) + 1) (eq-eqb c c refl))
    (ap (λ b. if b then m else m + 1) once)
    (owes_here c w.calls p None elapsed row is.call found owes)
    (record {
      here = session_here c w.calls p row.new found;
      others = session_others w.vehicle w.calls c (left_by row.new);
      clocks = but_others m c cs;
    }))

-- the clock of a session that isn't there is free
reclocked : (clock clock' : Clocks) (now last : ℕ) (w : World) (t : List Entry) → FitsAt clock now last w t →
    ((e : End) (c : ℕ) → IfSome (seats_of w.vehicle w.calls e c) (λ s. clock' e c ≡ clock e c)) →
    ((e : End) (c : ℕ) → now ≤ clock' e c + 1) → FitsAt clock' now last w t
reclocked clock clock' now last w t f same near =
    record {
      tick = f.tick;
      drawn = f.drawn;
      fit = reclock clock clock' (seats_of w.vehicle w.calls) now last t f.fit same near;
      vehicle = f.vehicle;
      calls = f.calls;
      frames = f.frames;
      legs = f.legs;
      in_order = f.in_order;
      listed = f.listed;
    }

no_session : (m last c : ℕ) (cs : List ℕ) (w : World) (t : List Entry) →
    FitsAt (passed_but m (c ∷ cs)) (m + 1) last w t → session_of c w.calls ≡ None →
    FitsAt (passed_but m cs) (m + 1) last w t
no_session m last c cs w t f none =
    reclocked (passed_but m (c ∷ cs)) (passed_but m cs) (m + 1) last w t f same (but_near m cs)
  where
    at : (d : ℕ) → (b : Bool) → (d == c) ≡ b →
        IfSome (point_seat (session_of d w.calls)) (λ s. passed_but m cs «end».Point d ≡ passed_but m (c ∷ cs) «end».Point d)
    at d true h = rw (eqb-true d c h, none) tt
    at d false h = any _ _ (but_others m c cs «end».Point d h) (point_seat (session_of d w.calls))

    same : (f : End) (d : ℕ) →
        IfSome (seats_of w.vehicle w.calls f d) (λ s. passed_but m cs f d ≡ passed_but m (c ∷ cs) f d)
    same «end».Vehicle d = any (m + 1) (m + 1) refl (vehicle_seat d w.vehicle)
    same «end».Point d = at d (d == c) refl

session_passes_goes : (m last c : ℕ) (cs : List ℕ) → is_left c cs ≡ false → (w : World) (t : List Entry) →
    FitsAt (passed_but m (c ∷ cs)) (m + 1) last w t → Goes (passed_but m cs) (m + 1) last (session_passes c w) t
session_passes_goes m last c cs once w t f =
    settled_goes (passed_but m cs) (m + 1) last (settles_but m cs) (session_acts c w point.unit_row (session_of c w.calls)) t
    (at (session_of c w.calls) refl)
  where
    at : (o : Option Point) → session_of c w.calls ≡ o →
        Goes (passed_but m cs) (m + 1) last (session_acts c w point.unit_row o) t
    at None h = quiet_goes (passed_but m cs) (m + 1) last w t (no_session m last c cs w t f h)
    at (Some p) h =
        session_unit_goes m last c cs w t p (point.unit_row p) once f h
        (point_owed.owes_unit p (found_session c last p w.calls f.calls h).kept)

-- no number stands there twice
abbrev pub Apart : List ℕ → Type 0
Apart [] = Unit {0}
Apart (c ∷ cs) = (is_left c cs ≡ false) × Apart cs

abbrev numbers : List Call → List ℕ
numbers calls = map (λ k. k.number) calls

all_above : (n c : ℕ) → c ≤ n → (ks : List Call) → AreAbove n (numbers_of ks) → is_left c (numbers ks) ≡ false
all_above n c h [] o = refl
all_above n c h (k ∷ ks) o =
    rw (ne_eqb k.number c (λ e. absurd (omega (arith, h, o.0, e))))
    (all_above k.number c (omega (arith, h, o.0)) ks o.1)

apart : (n : ℕ) → (ks : List Call) → AreAbove n (numbers_of ks) → Apart (numbers ks)
apart n [] o = tt
apart n (k ∷ ks) o = (all_above k.number k.number (omega arith) ks o.1, apart k.number ks o.1)

each_session_goes : (m last : ℕ) → (cs : List ℕ) → Apart cs → (w : World) (t : List Entry) →
    FitsAt (passed_but m cs) (m + 1) last w t → Goes (passed_but m []) (m + 1) last (each session_passes cs w) t
each_session_goes m last [] a w t f = quiet_goes (passed_but m []) (m + 1) last w t f
each_session_goes m last (c ∷ cs) a w t f =
    then_goes (passed_but m cs) (passed_but m []) (m + 1) last t (session_passes c w) (each session_passes cs)
    (session_passes_goes m last c cs a.0 w t f)
    (λ u g. each_session_goes m last cs a.1 (session_passes c w).world u g)

found_left : (d : ℕ) → (ks : List Call) (p : Point) → session_of d ks ≡ Some p → is_left d (numbers ks) ≡ true
found_left d [] p h = cc
found_left d (k ∷ ks) p h = at (k.number == d) (found_left d ks p) h
  where
    at : (b : Bool) → (session_of d ks ≡ Some p → is_left d (numbers ks) ≡ true) →
        session_in (if b then Some k else call_of d ks) ≡ Some p → (b || is_left d (numbers ks)) ≡ true
    at true rest k = refl
    at false rest k = rest k

-- each session's call is among them, so at first no session was passed, and at the end all were
begins : (m last : ℕ) (w : World) (t : List Entry) → FitsAt (vehicle_passed m) (m + 1) last w t →
    FitsAt (passed_but m (numbers w.calls)) (m + 1) last w t
begins m last w t f =
    reclocked (vehicle_passed m) (passed_but m (numbers w.calls)) (m + 1) last w t f same (but_near m (numbers w.calls))
  where
    at : (d : ℕ) → (o : Option Point) → session_of d w.calls ≡ o →
        IfSome (point_seat o) (λ s. passed_but m (numbers w.calls) «end».Point d ≡ m)
    at d None h = tt
    at d (Some p) h = any _ _ (ap (λ b. if b then m else m + 1) (found_left d w.calls p h)) (point_seat (Some p))

    same : (f : End) (d : ℕ) →
        IfSome (seats_of w.vehicle w.calls f d) (λ s. passed_but m (numbers w.calls) f d ≡ vehicle_passed m f d)
    same «end».Vehicle d = any (m + 1) (m + 1) refl (vehicle_seat d w.vehicle)
    same «end».Point d = at d (session_of d w.calls) refl

ends : (m last : ℕ) (w : World) (t : List Entry) → FitsAt (passed_but m []) (m + 1) last w t →
    FitsAt (all_at (m + 1)) (m + 1) last w t
ends m last w t f = reclocked (passed_but m []) (all_at (m + 1)) (m + 1) last w t f same (λ e c. omega arith)
  where
    same : (f : End) (d : ℕ) → IfSome (seats_of w.vehicle w.calls f d) (λ s. m + 1 ≡ passed_but m [] f d)
    same «end».Vehicle d = any (m + 1) (m + 1) refl (vehicle_seat d w.vehicle)
    same «end».Point d = any (m + 1) (m + 1) refl (point_seat (session_of d w.calls))

sessions_goes : (m last : ℕ) (w : World) (t : List Entry) → FitsAt (vehicle_passed m) (m + 1) last w t →
    Goes (all_at (m + 1)) (m + 1) last (sessions_pass w) t
sessions_goes m last w t f =
    ends m last (sessions_pass w).world (t ++ (sessions_pass w).entries)
    (each_session_goes m last (numbers w.calls) (apart 0 w.calls f.in_order) w t (begins m last w t f))

-- Frames that are handed over were sent, and stay sent as the trace grows.

own_stays : (e : End) (r : ℕ) (o : List ℕ) (x : Entry) (sets : List Kept) → set_for r sets ≡ Some o → (b : Bool) →
    set_for r (if b then sets_step e sets x else sets) ≡ Some o
own_stays e r o x sets h true = sets_stay e r o x.note sets h
own_stays e r o x sets h false = h

set_stays : (e : End) (c r : ℕ) (o : List ℕ) (sets : List Kept) → set_for r sets ≡ Some o → (u : List Entry) →
    set_for r (through (own (sets_step e) e c) sets u) ≡ Some o
set_stays e c r o sets h [] = h
set_stays e c r o sets h (x ∷ u) =
    set_stays e c r o (own (sets_step e) e c sets x) (own_stays e r o x sets h (is_own e c x.note)) u

sets_of_stay : (e : End) (c r : ℕ) (o : List ℕ) (t u : List Entry) → set_for r (sets_of e c t) ≡ Some o →
    set_for r (sets_of e c (t ++ u)) ≡ Some o
sets_of_stay e c r o t u h = rw (through_append (own (sets_step e) e c) [] t u) (set_stays e c r o (sets_of e c t) h u)

pub came_stays : (e : End) (c : ℕ) (t u : List Entry) (f : Frame) → Came e c t f → Came e c (t ++ u) f
came_stays «end».Vehicle c t u (frame.Ack r) h = (h.0, sets_of_stay «end».Point c r h.0 t u h.1)
came_stays «end».Vehicle c t u (frame.App r a) h = (h.0, sets_of_stay «end».Point c r h.0 t u h.1)
came_stays «end».Vehicle c t u _ h = tt
came_stays «end».Point c t u (frame.Content r a o) h = sets_of_stay «end».Vehicle c r o t u h
came_stays «end».Point c t u _ h = tt

-- a frame that is due was sent, at the other end of its call
abbrev pub DueFits : End → List Entry → Due → Type 0
DueFits e t d = Came e d.call t d.frame

due_one : (e : End) (t : List Entry) (c delay now : ℕ) → (ss : List Sent) →
    AllByRecursion (λ s. Came e c t s.frame) ss → AllByRecursion (DueFits e t) (due_frames c delay now ss)
due_one e t c delay now [] a = tt
due_one e t c delay now (s ∷ ss) a = at (s.tick + delay == now) (due_one e t c delay now ss a.1)
  where
    at : (b : Bool) → AllByRecursion (DueFits e t) (due_frames c delay now ss) →
        AllByRecursion (DueFits e t) (if b then record { call = c; frame = s.frame } ∷ due_frames c delay now ss else due_frames c delay now ss)
    at true rest = (a.0, rest)
    at false rest = rest

-- the frames of a call, as the entries have them
pub up_fits : (t : List Entry) (k : Call) → CallLinks t k.number → FramesFit t k →
    AllByRecursion (λ s. Came «end».Point k.number t s.frame) k.up
up_fits t k links f =
    subst (λ (z : List Sent). AllByRecursion (λ s. CarriesMade (sets_of «end».Vehicle k.number t) s.frame) z) (sym f.up) links.carried

pub down_fits : (t : List Entry) (k : Call) → CallLinks t k.number → FramesFit t k →
    AllByRecursion (λ s. Came «end».Vehicle k.number t s.frame) k.down
down_fits t k links f =
    subst (λ (z : List Sent). AllByRecursion (λ s. ConfirmsShown (sets_of «end».Point k.number t) s.frame) z) (sym f.down) links.confirmed

due_fits : (e : End) (sent : Call → List Sent) (t : List Entry) (delay now : ℕ) →
    ((k : Call) → FramesFit t k → AllByRecursion (λ s. Came e k.number t s.frame) (sent k)) → (ks : List Call) →
    AllByRecursion (FramesFit t) ks → AllByRecursion (DueFits e t) (due_in sent delay now ks)
due_fits e sent t zero now fits ks a = tt
due_fits e sent t (suc d) now fits [] a = tt
due_fits e sent t (suc d) now fits (k ∷ ks) a =
    all_append (DueFits e t) (due_frames k.number (suc d) now (sent k)) (due_in sent (suc d) now ks)
    (due_one e t k.number (suc d) now (sent k) (fits k a.0)) (due_fits e sent t (suc d) now fits ks a.1)

pub settles_all : (n : ℕ) → Settles (all_at n) n
settles_all n = record { vehicle = λ c. refl; point = λ c. omega arith }

pub hands_up_goes : (n last : ℕ) (d : Due) (w : World) (t : List Entry) → FitsAt (all_at n) n last w t →
    DueFits «end».Point t d → Goes (all_at n) n last (hands_up d w) t
hands_up_goes n last d w t f came = at (point_is_in d.call w)
  where
    at : (b : Bool) →
        Goes (all_at n) n last (if b then one_handed (performs (Session d.call (point.Arrives d.frame)) w) else quiet_step w) t
    at true =
        settled_goes (all_at n) n last (settles_all n) (does (Session d.call (point.Arrives d.frame)) w) t
        (session_act_goes (all_at n) n last w t d.call (point.Arrives d.frame) f refl came)
    at false = quiet_goes (all_at n) n last w t f

pub hands_down_goes : (n last : ℕ) (d : Due) (w : World) (t : List Entry) → FitsAt (all_at n) n last w t →
    DueFits «end».Vehicle t d → Goes (all_at n) n last (hands_down d w) t
hands_down_goes n last d w t f came = at (vehicle_is_in d.call w)
  where
    at : (b : Bool) →
        Goes (all_at n) n last (if b then one_handed (performs (InCall d.call (vehicle.Arrives d.frame)) w) else quiet_step w) t
    at true =
        settled_goes (all_at n) n last (settles_all n) (does (InCall d.call (vehicle.Arrives d.frame)) w) t
        (in_call_goes (all_at n) n last w t d.call (vehicle.Arrives d.frame) f (λ c. refl) tt came)
    at false = quiet_goes (all_at n) n last w t f

-- frames are handed over one behind the other
each_hand_goes : (e : End) (n last : ℕ) (hand : Due → World → Step) →
    ((d : Due) (w : World) (t : List Entry) → FitsAt (all_at n) n last w t → DueFits e t d →
    Goes (all_at n) n last (hand d w) t) → (ds : List Due) (w : World) (t : List Entry) → FitsAt (all_at n) n last w t →
    AllByRecursion (DueFits e t) ds → Goes (all_at n) n last (each hand ds w) t
each_hand_goes e n last hand one [] w t f a = quiet_goes (all_at n) n last w t f
each_hand_goes e n last hand one (d ∷ ds) w t f a =
    subst (λ (u : List Entry). FitsAt (all_at n) n last (each hand ds (hand d w).world).world u)
    (append_assoc t (hand d w).entries (each hand ds (hand d w).world).entries)
    (each_hand_goes e n last hand one ds (hand d w).world (t ++ (hand d w).entries) (one d w t f a.0)
    (all_into _ _ (λ z h. came_stays e z.call t (hand d w).entries z.frame h) ds a.1))

flows_up_goes : (n last : ℕ) (w : World) (t : List Entry) → FitsAt (all_at n) n last w t →
    Goes (all_at n) n last (flows_up w) t
flows_up_goes n last w t f =
    each_hand_goes «end».Point n last hands_up (hands_up_goes n last) (due_in (λ k. k.up) w.up_flow w.tick w.calls) w t f
    (due_fits «end».Point (λ k. k.up) t w.up_flow w.tick (λ k h. up_fits t k (f.fit.links k.number) h) w.calls f.frames)

flows_down_goes : (n last : ℕ) (w : World) (t : List Entry) → FitsAt (all_at n) n last w t →
    Goes (all_at n) n last (flows_down w) t
flows_down_goes n last w t f =
    each_hand_goes «end».Vehicle n last hands_down (hands_down_goes n last) (due_in (λ k. k.down) w.down_flow w.tick w.calls) w t f
    (due_fits «end».Vehicle (λ k. k.down) t w.down_flow w.tick (λ k h. down_fits t k (f.fit.links k.number) h) w.calls f.frames)

-- The unit tick of the world.

vehicle_passes_goes : (m last : ℕ) (w : World) (t : List Entry) → FitsAt (all_at m) m last w t →
    Goes (vehicle_passed m) (m + 1) last (vehicle_passes (record w { tick = w.tick + 1 })) t
vehicle_passes_goes m last w t f =
    settled_goes (vehicle_passed m) (m + 1) last (settles_vehicle m)
    (vehicle_did (record w { tick = w.tick + 1 }) (vehicle.unit_row w.vehicle)) t
    (vehicle_unit_goes m last (record w { tick = w.tick + 1 }) t (vehicle.unit_row w.vehicle) (later m last w t f)
    (vehicle_owed.owes_unit w.vehicle f.vehicle))

pub unit_goes : (m last : ℕ) (w : World) (t : List Entry) → FitsAt (all_at m) m last w t →
    Goes (all_at (m + 1)) (m + 1) last (unit w) t
unit_goes m last w t f =
    let one : Step = vehicle_passes (record w { tick = w.tick + 1 }) in
    let two : Step = and_then one sessions_pass in
    let three : Step = and_then two flows_up in
    then_goes (all_at (m + 1)) (all_at (m + 1)) (m + 1) last t three flows_down
    (then_goes (all_at (m + 1)) (all_at (m + 1)) (m + 1) last t two flows_up
    (then_goes (vehicle_passed m) (all_at (m + 1)) (m + 1) last t one sessions_pass (vehicle_passes_goes m last w t f)
    (λ u g. sessions_goes m last one.world u g))
    (λ u g. flows_up_goes (m + 1) last two.world u g))
    (λ u g. flows_down_goes (m + 1) last three.world u g)
