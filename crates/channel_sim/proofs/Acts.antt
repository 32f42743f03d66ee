-- What one end does, and the consequences at the other, keep a world that fits.
use Rattle.std.specs.Prelude.{◌≡◌, ◌≤◌, ℕ, ◌==◌, Bool, true, false, List, [], ◌∷◌, ◌++◌, Option, Some, None, IfSome, map, if◌then◌else◌}
use Rattle.std.specs.List.{AllByRecursion}
use Rattle.std.specs.Option.{is_some}
use Rattle.std.proofs.Common.{refl, sym, ap, subst, ◌∙◌, arith, append_assoc}
use Rattle.std.proofs.lemmas.Bool.{eqb-true}
use Rattle.std.proofs.lemmas.List.{append-nil}
use Rattle.link_frames.specs.declared.frame.End.{End}
use Rattle.link_frames.specs.declared.frame.End.TheVariants as «end»
use Rattle.link_frames.specs.declared.frame.Frame.{Frame}
use Rattle.link_frames.specs.declared.note.Note.{Note}
use Rattle.link_frames.specs.declared.note.Note.TheVariants as note
use Rattle.link_frames.specs.declared.note.Why.{Why}
use Rattle.link_frames.specs.declared.note.Why.TheVariants as why
use Rattle.link_frames.specs.Owes.{Seat, Owes}
use Rattle.link_frames.specs.Row.{Row}
use Rattle.ivs_machine.specs.Vehicle.{Vehicle, vehicle_call}
use Rattle.ivs_machine.specs.VehicleKept as vehicle_kept
use Rattle.ivs_machine.specs.VehicleOwes.{VehicleOwes, StaysIn, came, seat_of, number_of}
use Rattle.ivs_machine.specs.VehicleRows as vehicle
use Rattle.ivs_machine.proofs.VehicleOwed as vehicle_owed
use Rattle.psap_machine.specs.Point.{Point}
use Rattle.psap_machine.specs.PointOwes as point_owes
use Rattle.psap_machine.specs.PointRows as point
use Rattle.psap_machine.proofs.PointOwed as point_owed
use Rattle.trace_model.specs.declared.entry.Entry.{Entry}
use Rattle.trace_model.specs.History.{told}
use Rattle.trace_model.specs.Safety.{is_leg}
use Rattle.channel_sim.specs.World.{Call, World, Step, Act, InCall, Session, quiet_step, and_then, vehicle_is_in, call_of, session_in, session_of, seated, carries, with_legs, did, vehicle_did, session_did, session_acts, does, does_each, consequence, consequences, settled}
use Rattle.trace_fit.specs.Seats.{left_by}
use Rattle.channel_sim.specs.Fit.{seats_of, FramesFit, IsCall}
use Rattle.trace_fit.specs.Seats.{vehicle_seat, point_seat, IsSessionOf}
use Rattle.channel_sim.specs.Tidy.{AreAbove, numbers_of}
use Rattle.channel_sim.specs.inner.FitAt.{FitsAt, Goes, Settles}
use Rattle.trace_fit.specs.inner.FitAt.{Came, Clocks, FitAt}
use Rattle.trace_fit.proofs.Lists.{all_append}
use Rattle.trace_fit.proofs.RowOwes.{event_kept, end_kept}
use Rattle.channel_sim.proofs.CallsKept.{carried_session, carried_listed, carried_order, carried_calls, carried_frames, is_listed, seated_here, seated_other, seated_listed, seated_order, seated_calls, seated_frames, kept_all, kept_legs, kept_order, kept_listed, kept_session, found_session}
use Rattle.trace_fit.proofs.Seats.{stays_own, seat_as, seat_apart, number_none, call_none, call_some, stays_call, number_as, none_through, left_seat, left_session, ended, was_drawn}
use Rattle.trace_fit.proofs.Clocks.{reseat}

-- An end did something.
pub did_goes : (clock : Clocks) (now last : ℕ) (w : World) (t : List Entry) (items : List Note) (v : Vehicle)
    (calls : List Call)
    → w.tick ≡ now
    → w.drawn ≡ last
    → FitAt clock (seats_of v calls) now last (t ++ told now items)
    → vehicle_kept.IsKept v
    → AllByRecursion (IsCall last) calls
    → AllByRecursion (FramesFit t) calls
    → AreAbove 0 (numbers_of calls)
    → IfSome (vehicle_call v) (λ c. is_some (call_of c calls) ≡ true)
    → Goes clock now last (did w items v calls) t
did_goes clock now last w t items v calls tick drawn fit kept each frames order listed =
    record {
      tick = tick;
      drawn = drawn;
      fit =
          reseat clock (seats_of v calls) (seats_of v (with_legs (vehicle_call v) (map (carries u) calls))) now last (t ++ u)
          (subst (λ (z : ℕ). FitAt clock (seats_of v calls) now last (t ++ told z items)) (sym tick) fit) same;
      vehicle = kept;
      calls = kept_all (IsCall last) (vehicle_call v) (map (carries u) calls) (carried_calls u last calls each);
      frames = kept_all (FramesFit (t ++ u)) (vehicle_call v) (map (carries u) calls) (carried_frames t u calls frames);
      legs = kept_legs (vehicle_call v) (map (carries u) calls);
      in_order = kept_order (vehicle_call v) 0 (map (carries u) calls) (carried_order u 0 calls order);
      listed = stays (vehicle_call v) listed;
    }
  where
    u : List Entry
    u = told w.tick items

    same : (e : End) (c : ℕ) →
        seats_of v (with_legs (vehicle_call v) (map (carries (told w.tick items)) calls)) e c ≡ seats_of v calls e c
    same «end».Vehicle c = refl
    same «end».Point c =
        ap point_seat
        (kept_session (vehicle_call v) c 0 (map (carries (told w.tick items)) calls) (carried_order (told w.tick items) 0 calls order)
        ∙ carried_session (told w.tick items) c calls)

    stays : (o : Option ℕ) → IfSome o (λ c. is_some (call_of c calls) ≡ true) →
        IfSome o (λ c. is_some (call_of c (with_legs o (map (carries (told w.tick items)) calls))) ≡ true)
    stays None h = tt
    stays (Some c) h = kept_listed c (map (carries (told w.tick items)) calls) (carried_listed (told w.tick items) c calls h)

-- The vehicle.

-- only the vehicle's seat of one call changes
pub vehicle_others : (v v' : Vehicle) (calls : List Call) (c : ℕ) → StaysIn c v v.phase → StaysIn c v' v'.phase →
    (f : End) (d : ℕ) → is_leg f d «end».Vehicle c ≡ false → seats_of v' calls f d ≡ seats_of v calls f d
vehicle_others v v' calls c old new «end».Vehicle d apart = seat_apart c d v' apart new ∙ sym (seat_apart c d v apart old)
vehicle_others v v' calls c old new «end».Point d apart = refl

pub own_seat : (v : Vehicle) → vehicle_seat (number_of v) v ≡ seat_of v
own_seat v = seat_as (number_of v) v (stays_own v)

-- the number of the vehicle's items was drawn, or is 0
pub number_drawn : (clock : Clocks) (now last : ℕ) (w : World) (t : List Entry) →
    FitAt clock (seats_of w.vehicle w.calls) now last t → number_of w.vehicle ≤ last
number_drawn clock now last w t fit = at (seat_of w.vehicle) refl
  where
    at : (s : Option Seat) → seat_of w.vehicle ≡ s → number_of w.vehicle ≤ last
    at None h = omega (arith, number_none w.vehicle h)
    at (Some k) h =
        was_drawn clock (seats_of w.vehicle w.calls) now last t fit «end».Vehicle (number_of w.vehicle) k (own_seat w.vehicle ∙ h)

-- a vehicle that is still in a call has that call among the calls
pub still_listed : (v v' : Vehicle) (calls : List Call) → StaysIn (number_of v) v' v'.phase →
    (seat_of v ≡ None → seat_of v' ≡ None) → IfSome (vehicle_call v) (λ c. is_some (call_of c calls) ≡ true) →
    IfSome (vehicle_call v') (λ c. is_some (call_of c calls) ≡ true)
still_listed v v' calls stays none listed = at (seat_of v) refl
  where
    of_number : is_some (call_of (number_of v) calls) ≡ true → (o : Option ℕ) → IfSome o (λ d. d ≡ number_of v) →
        IfSome o (λ c. is_some (call_of c calls) ≡ true)
    of_number h None k = tt
    of_number h (Some d) k = subst (λ (z : ℕ). is_some (call_of z calls) ≡ true) (sym k) h

    at : (s : Option Seat) → seat_of v ≡ s → IfSome (vehicle_call v') (λ c. is_some (call_of c calls) ≡ true)
    at None h = rw (call_none v' (none h)) tt
    at (Some k) h =
        of_number
        (subst (λ (z : Option ℕ). IfSome z (λ c. is_some (call_of c calls) ≡ true)) (call_some v k h) listed)
        (vehicle_call v') (stays_call (number_of v) v' stays)

-- what the vehicle does at an event that brings no call up
pub vehicle_goes : (clock : Clocks) (now last : ℕ) (w : World) (t : List Entry) (came : Option Frame) (row : Row Vehicle)
    → FitsAt clock now last w t
    → ((c : ℕ) → clock «end».Vehicle c ≡ now)
    → IfSome came (Came «end».Vehicle (number_of w.vehicle) t)
    → VehicleOwes w.vehicle came (seat_of w.vehicle) row
    → Goes clock now last (vehicle_did w row) t
vehicle_goes clock now last w t came row f passed brought owes =
    did_goes clock now last w t row.items row.new w.calls f.tick f.drawn
    (event_kept clock (seats_of w.vehicle w.calls) (seats_of row.new w.calls) now last t «end».Vehicle (number_of w.vehicle) came row.items (seat_of row.new) f.fit
    (number_drawn clock now last w t f.fit) brought (passed (number_of w.vehicle))
    (subst (λ (z : Option Seat). Owes «end».Vehicle (number_of w.vehicle) came z row.items (seat_of row.new)) (sym (own_seat w.vehicle)) owes.owes)
    (record {
      here = seat_as (number_of w.vehicle) row.new owes.call;
      others = vehicle_others w.vehicle row.new w.calls (number_of w.vehicle) (stays_own w.vehicle) owes.call;
      clocks = λ g d a. refl;
    }))
    owes.kept f.calls f.frames f.in_order
    (still_listed w.vehicle row.new w.calls owes.call
    (λ none. owes.owes.seat ∙ rw none (none_through «end».Vehicle row.items)) f.listed)

-- The sessions.

-- only the session of one call changes
pub session_others : (v : Vehicle) (calls : List Call) (c : ℕ) (new : Option Point) (f : End) (d : ℕ) →
    is_leg f d «end».Point c ≡ false → seats_of v (seated c new calls) f d ≡ seats_of v calls f d
session_others v calls c new «end».Vehicle d apart = refl
session_others v calls c new «end».Point d apart = ap point_seat (seated_other c d new apart calls)

-- the seat of a session that is another
pub session_here : (c : ℕ) (calls : List Call) (p new : Point) → session_of c calls ≡ Some p →
    point_seat (session_of c (seated c (left_by new) calls)) ≡ point_owes.seat_of new
session_here c calls p new found = ap point_seat (seated_here c (left_by new) calls (is_listed c calls p found)) ∙ left_seat new

-- the vehicle's call stays among the calls
pub listed_seated : (v : Vehicle) (calls : List Call) (c : ℕ) (new : Option Point) →
    IfSome (vehicle_call v) (λ d. is_some (call_of d calls) ≡ true) →
    IfSome (vehicle_call v) (λ d. is_some (call_of d (seated c new calls)) ≡ true)
listed_seated v calls c new h = at (vehicle_call v) h
  where
    at : (o : Option ℕ) → IfSome o (λ d. is_some (call_of d calls) ≡ true) →
        IfSome o (λ d. is_some (call_of d (seated c new calls)) ≡ true)
    at None h = tt
    at (Some d) h = seated_listed c d new calls h

-- what a session did, where its row kept the trace fitting
pub seated_goes : (clock clock' : Clocks) (now last : ℕ) (w : World) (t : List Entry) (c : ℕ) (row : Row Point)
    → FitsAt clock now last w t
    → IfSome (left_by row.new) (IsSessionOf c)
    → FitAt clock' (seats_of w.vehicle (seated c (left_by row.new) w.calls)) now last (t ++ told now row.items)
    → Goes clock' now last (session_did c w row) t
seated_goes clock clock' now last w t c row f stays fit =
    did_goes clock' now last w t row.items w.vehicle (seated c (left_by row.new) w.calls) f.tick f.drawn fit f.vehicle
    (seated_calls c last (left_by row.new) stays w.calls f.calls)
    (seated_frames t c (left_by row.new) w.calls f.frames)
    (seated_order c 0 (left_by row.new) w.calls f.in_order)
    (listed_seated w.vehicle w.calls c (left_by row.new) f.listed)

-- what a row of a session owes, said of its call and of its seat as the world has it
pub owes_here : (c : ℕ) (calls : List Call) (p : Point) (came : Option Frame) (passed : Option Seat → Option Seat)
    (row : Row Point) → p.call ≡ c → session_of c calls ≡ Some p →
    point_owes.PointOwes p came (passed (point_owes.seat_of p)) row →
    Owes «end».Point c came (passed (point_seat (session_of c calls))) row.items (point_owes.seat_of row.new)
owes_here c calls p came passed row call found owes =
    subst (λ (z : Option Point). Owes «end».Point c came (passed (point_seat z)) row.items (point_owes.seat_of row.new)) (sym found)
    (subst (λ (z : ℕ). Owes «end».Point z came (passed (point_owes.seat_of p)) row.items (point_owes.seat_of row.new)) call owes.owes)

abbrev unpassed : Option Seat → Option Seat
unpassed s = s

-- the number of a session's call was drawn
pub session_drawn : (c last : ℕ) (calls : List Call) (p : Point) → AllByRecursion (IsCall last) calls →
    session_of c calls ≡ Some p → c ≤ last
session_drawn c last [] p a h = cc
session_drawn c last (k ∷ ks) p a h = at (k.number == c) refl (λ g. session_drawn c last ks p a.1 g) h
  where
    at : (b : Bool) → (k.number == c) ≡ b → (session_of c ks ≡ Some p → c ≤ last) →
        session_in (if b then Some k else call_of c ks) ≡ Some p → c ≤ last
    at true e rest g = let same : k.number ≡ c = eqb-true k.number c e in omega (arith, a.0.number)
    at false e rest g = rest g

-- what a session does at an event, where it was passed up to this tick
pub session_goes : (clock : Clocks) (now last : ℕ) (w : World) (t : List Entry) (came : Option Frame) (c : ℕ) (p : Point)
    (row : Row Point)
    → FitsAt clock now last w t
    → clock «end».Point c ≡ now
    → session_of c w.calls ≡ Some p
    → IfSome came (Came «end».Point c t)
    → point_owes.PointOwes p came (point_owes.seat_of p) row
    → Goes clock now last (session_did c w row) t
session_goes clock now last w t came c p row f passed found brought owes =
    let is : IsSessionOf c p = found_session c last p w.calls f.calls found in
    seated_goes clock clock now last w t c row f (left_session c row.new owes.kept (owes.call ∙ is.call))
    (event_kept clock (seats_of w.vehicle w.calls) (seats_of w.vehicle (seated c (left_by row.new) w.calls)) now last t «end».Point c came row.items (point_owes.seat_of row.new) f.fit
    (session_drawn c last w.calls p f.calls found) brought passed
    (owes_here c w.calls p came unpassed row is.call found owes)
    (record {
      here = session_here c w.calls p row.new found;
      others = session_others w.vehicle w.calls c (left_by row.new);
      clocks = λ g d a. refl;
    }))

-- a session whose call ends, also where it wasn't passed up to this tick yet
pub session_ends : (clock : Clocks) (now last : ℕ) (w : World) (t : List Entry) (c : ℕ) (p : Point) (row : Row Point)
    → FitsAt clock now last w t
    → clock «end».Point c ≤ now
    → session_of c w.calls ≡ Some p
    → point_owes.PointOwes p None (point_owes.seat_of p) row
    → left_by row.new ≡ None
    → Goes clock now last (session_did c w row) t
session_ends clock now last w t c p row f passed found owes over =
    let is : IsSessionOf c p = found_session c last p w.calls f.calls found in
    let gone : point_owes.seat_of row.new ≡ None = sym (left_seat row.new) ∙ ap point_seat over in
    seated_goes clock clock now last w t c row f (left_session c row.new owes.kept (owes.call ∙ is.call))
    (end_kept clock (seats_of w.vehicle w.calls) (seats_of w.vehicle (seated c (left_by row.new) w.calls)) now last t «end».Point c None row.items f.fit
    (session_drawn c last w.calls p f.calls found) tt passed
    (subst (λ (z : Option Seat). Owes «end».Point c None (point_seat (session_of c w.calls)) row.items z) gone
    (owes_here c w.calls p None unpassed row is.call found owes))
    (record {
      here = session_here c w.calls p row.new found ∙ gone;
      others = session_others w.vehicle w.calls c (left_by row.new);
      clocks = λ g d a. refl;
    }))

-- Steps.

pub quiet_goes : (clock : Clocks) (now last : ℕ) (w : World) (t : List Entry) → FitsAt clock now last w t →
    Goes clock now last (quiet_step w) t
quiet_goes clock now last w t f = subst (λ (u : List Entry). FitsAt clock now last w u) (sym (append-nil t)) f

pub then_goes : (clock clock' : Clocks) (now last : ℕ) (t : List Entry) (first : Step) (second : World → Step) →
    Goes clock now last first t →
    ((u : List Entry) → FitsAt clock now last first.world u → Goes clock' now last (second first.world) u) →
    Goes clock' now last (and_then first second) t
then_goes clock clock' now last t first second one two =
    subst (λ (u : List Entry). FitsAt clock' now last (second first.world).world u)
    (append_assoc t first.entries (second first.world).entries) (two (t ++ first.entries) one)

-- Acts.

-- an event at which no call comes up
abbrev pub IsPlain : vehicle.Heard → Type 0
IsPlain (vehicle.Answered c) = ⊥
IsPlain (vehicle.Incoming c) = ⊥
IsPlain _ = Unit {0}

plain_owes : (e : vehicle.Heard) (v : Vehicle) → IsPlain e → vehicle_kept.IsKept v →
    VehicleOwes v (came e) (seat_of v) (vehicle.vehicle_row v e)
plain_owes (vehicle.Answered c) v h k = absurd h
plain_owes (vehicle.Incoming c) v h k = absurd h
plain_owes e v h k = vehicle_owed.owes_event e v k

-- the vehicle hears an event of its own
pub hears_goes : (clock : Clocks) (now last : ℕ) (w : World) (t : List Entry) (e : vehicle.Heard)
    → FitsAt clock now last w t
    → ((c : ℕ) → clock «end».Vehicle c ≡ now)
    → IsPlain e
    → IfSome (came e) (Came «end».Vehicle (number_of w.vehicle) t)
    → Goes clock now last (vehicle_did w (vehicle.vehicle_row w.vehicle e)) t
hears_goes clock now last w t e f passed plain brought =
    vehicle_goes clock now last w t (came e) (vehicle.vehicle_row w.vehicle e) f passed brought
    (plain_owes e w.vehicle plain f.vehicle)

-- an act on the vehicle where it is in this call
pub in_call_goes : (clock : Clocks) (now last : ℕ) (w : World) (t : List Entry) (c : ℕ) (e : vehicle.Heard)
    → FitsAt clock now last w t
    → ((d : ℕ) → clock «end».Vehicle d ≡ now)
    → IsPlain e
    → IfSome (came e) (Came «end».Vehicle c t)
    → Goes clock now last (does (InCall c e) w) t
in_call_goes clock now last w t c e f passed plain brought = at (vehicle_is_in c w) refl
  where
    at : (b : Bool) → vehicle_is_in c w ≡ b →
        Goes clock now last (if b then vehicle_did w (vehicle.vehicle_row w.vehicle e) else quiet_step w) t
    at true h =
        hears_goes clock now last w t e f passed plain
        (subst (λ (z : ℕ). IfSome (came e) (Came «end».Vehicle z t)) (sym (number_as c w.vehicle h)) brought)
    at false h = quiet_goes clock now last w t f

-- an act on a session
pub session_act_goes : (clock : Clocks) (now last : ℕ) (w : World) (t : List Entry) (c : ℕ) (e : point.Heard)
    → FitsAt clock now last w t
    → clock «end».Point c ≡ now
    → IfSome (point_owes.came e) (Came «end».Point c t)
    → Goes clock now last (does (Session c e) w) t
session_act_goes clock now last w t c e f passed brought = at (session_of c w.calls) refl
  where
    at : (o : Option Point) → session_of c w.calls ≡ o →
        Goes clock now last (session_acts c w (λ s. point.point_row s e) o) t
    at None h = quiet_goes clock now last w t f
    at (Some p) h =
        session_goes clock now last w t (point_owes.came e) c p (point.point_row p e) f passed h brought
        (point_owed.owes_event e p (found_session c last p w.calls f.calls h).kept)

-- a consequence, also where the session wasn't passed yet
pub ended_goes : (clock : Clocks) (now last : ℕ) (w : World) (t : List Entry) (c : ℕ) (y : Why)
    → FitsAt clock now last w t
    → clock «end».Point c ≤ now
    → Goes clock now last (does (Session c (point.Ended y)) w) t
ended_goes clock now last w t c y f passed = at (session_of c w.calls) refl
  where
    at : (o : Option Point) → session_of c w.calls ≡ o →
        Goes clock now last (session_acts c w (λ s. point.point_row s (point.Ended y)) o) t
    at None h = quiet_goes clock now last w t f
    at (Some p) h =
        session_ends clock now last w t c p (point.point_row p (point.Ended y)) f passed h
        (point_owed.owes_event (point.Ended y) p (found_session c last p w.calls f.calls h).kept) (ended p y)

-- Consequences.

abbrev pub IsConsequence : Act → Type 0
IsConsequence (Session c (point.Ended y)) = Unit {0}
IsConsequence (InCall c vehicle.Hangup) = Unit {0}
IsConsequence _ = ⊥

consequence_goes : (clock : Clocks) (now last : ℕ) → Settles clock now → (w : World) (t : List Entry) → (a : Act) →
    IsConsequence a → FitsAt clock now last w t → Goes clock now last (does a w) t
consequence_goes clock now last settles w t (Session c (point.Ended y)) h f =
    ended_goes clock now last w t c y f (settles.point c)
consequence_goes clock now last settles w t (InCall c vehicle.Hangup) h f =
    in_call_goes clock now last w t c vehicle.Hangup f settles.vehicle tt tt
consequence_goes clock now last settles w t _ h f = absurd h

each_goes : (clock : Clocks) (now last : ℕ) → Settles clock now → (acts : List Act) → AllByRecursion IsConsequence acts →
    (w : World) (t : List Entry) → FitsAt clock now last w t → Goes clock now last (does_each acts w) t
each_goes clock now last settles [] h w t f = quiet_goes clock now last w t f
each_goes clock now last settles (a ∷ acts) h w t f =
    then_goes clock clock now last t (does a w) (does_each acts) (consequence_goes clock now last settles w t a h.0 f)
    (λ u g. each_goes clock now last settles acts h.1 (does a w).world u g)

one_consequence : (n : Note) → AllByRecursion IsConsequence (consequence n)
one_consequence (note.Down «end».Vehicle c why.Release) = (tt, tt)
one_consequence (note.Down «end».Point c why.Release) = (tt, tt)
one_consequence (note.Down «end».Point c why.Hangup) = (tt, tt)
one_consequence _ = tt

all_consequences : (xs : List Entry) → AllByRecursion IsConsequence (consequences xs)
all_consequences [] = tt
all_consequences (x ∷ xs) =
    all_append IsConsequence (consequence x.note) (consequences xs) (one_consequence x.note) (all_consequences xs)

-- what one end does, and its consequences
pub settled_goes : (clock : Clocks) (now last : ℕ) → Settles clock now → (s : Step) (t : List Entry) →
    Goes clock now last s t → Goes clock now last (settled s) t
settled_goes clock now last settles s t g =
    then_goes clock clock now last t s (does_each (consequences s.entries)) g
    (λ u f. each_goes clock now last settles (consequences s.entries) (all_consequences s.entries) s.world u f)
