-- Both ends as seats in their calls.
use Rattle.std.specs.Prelude.{◌≡◌, ◌≤◌, ◌<◌, ℕ, ◌==◌, nat_lt, Bool, true, false, List, [], ◌∷◌, Option, Some, None, IfSome, unwrap_or, if◌then◌else◌}
use Rattle.std.specs.List.{AllByRecursion}
use Rattle.std.proofs.Common.{refl, sym, ap, subst, ◌∙◌, arith}
use Rattle.std.proofs.lemmas.Bool.{eqb-true, eqb-false, eq-eqb, ne_eqb, false≢true, ltb-true, ltb-false}
use Rattle.link_frames.specs.declared.frame.End.{End}
use Rattle.link_frames.specs.declared.frame.End.TheVariants as «end»
use Rattle.link_frames.specs.declared.note.Note.{Note}
use Rattle.link_frames.specs.declared.note.Why.{Why}
use Rattle.link_frames.specs.Legs.{through, owner}
use Rattle.link_frames.specs.Owes.{Seat, seat_moved}
use Rattle.ivs_machine.specs.Vehicle.{Vehicle, Phase, Idle, Standby, Arming, InSeries, InCall, call_in, vehicle_call}
use Rattle.ivs_machine.specs.VehicleOwes.{seat_in, seat_of, number_in, number_of, StaysIn}
use Rattle.psap_machine.specs.Point as session
use Rattle.psap_machine.specs.Point.{Point, Listening, Asking, Telling, Talking, Clearing, Over}
use Rattle.psap_machine.specs.PointKept as point
use Rattle.psap_machine.specs.PointOwes as point_owes
use Rattle.psap_machine.specs.PointRows.{Ended, named, unnamed, point_row}
use Rattle.trace_model.specs.declared.entry.Entry.{Entry}
use Rattle.trace_model.specs.History.{sets_of}
use Rattle.trace_model.specs.Safety.{is_leg, is_owned, own, first_leg, leg_step, leg_at}
use Rattle.trace_fit.specs.Seats.{is_number, unless_over, left_by}
use Rattle.trace_fit.specs.Order.{IsDrawn}
use Rattle.trace_fit.specs.Seats.{vehicle_seat, point_seat, IsSessionOf}
use Rattle.trace_fit.specs.inner.FitAt.{SeatedBy, SeatBy, Seats, Clocks, FitAt}

-- The vehicle.

abbrev seat_at : ℕ → Vehicle → Phase → Option Seat
seat_at c v p = if is_number c (call_in v p) then seat_in v p else None

stays_own_in : (v : Vehicle) (p : Phase) → StaysIn (number_in v p) v p
stays_own_in v (InCall stage) = refl
stays_own_in v _ = tt

-- the vehicle is in the call of its own number
pub stays_own : (v : Vehicle) → StaysIn (number_of v) v v.phase
stays_own v = stays_own_in v v.phase

seat_as_in : (c : ℕ) (v : Vehicle) (p : Phase) → StaysIn c v p → seat_at c v p ≡ seat_in v p
seat_as_in c v (InCall stage) h = rw (eq-eqb v.call c h) refl
seat_as_in c v Idle h = refl
seat_as_in c v Standby h = refl
seat_as_in c v (Arming before) h = refl
seat_as_in c v (InSeries s) h = refl

pub seat_as : (c : ℕ) (v : Vehicle) → StaysIn c v v.phase → vehicle_seat c v ≡ seat_of v
seat_as c v h = seat_as_in c v v.phase h

seat_apart_in : (c d : ℕ) (v : Vehicle) → (d == c) ≡ false → (p : Phase) → StaysIn c v p → seat_at d v p ≡ None
seat_apart_in c d v apart (InCall stage) h = rw (ne_eqb v.call d (λ e. eqb-false d c apart (sym e ∙ h))) refl
seat_apart_in c d v apart Idle h = refl
seat_apart_in c d v apart Standby h = refl
seat_apart_in c d v apart (Arming before) h = refl
seat_apart_in c d v apart (InSeries s) h = refl

pub seat_apart : (c d : ℕ) (v : Vehicle) → (d == c) ≡ false → StaysIn c v v.phase → vehicle_seat d v ≡ None
seat_apart c d v apart h = seat_apart_in c d v apart v.phase h

number_none_in : (v : Vehicle) (p : Phase) → seat_in v p ≡ None → number_in v p ≡ 0
number_none_in v (InCall stage) h = cc
number_none_in v _ h = refl

pub number_none : (v : Vehicle) → seat_of v ≡ None → number_of v ≡ 0
number_none v h = number_none_in v v.phase h

call_none_in : (v : Vehicle) (p : Phase) → seat_in v p ≡ None → call_in v p ≡ None
call_none_in v (InCall stage) h = cc
call_none_in v _ h = refl

pub call_none : (v : Vehicle) → seat_of v ≡ None → vehicle_call v ≡ None
call_none v h = call_none_in v v.phase h

call_some_in : (v : Vehicle) (k : Seat) (p : Phase) → seat_in v p ≡ Some k → call_in v p ≡ Some (number_in v p)
call_some_in v k (InCall stage) h = refl
call_some_in v k Idle h = cc
call_some_in v k Standby h = cc
call_some_in v k (Arming before) h = cc
call_some_in v k (InSeries s) h = cc

pub call_some : (v : Vehicle) (k : Seat) → seat_of v ≡ Some k → vehicle_call v ≡ Some (number_of v)
call_some v k h = call_some_in v k v.phase h

stays_call_in : (c : ℕ) (v : Vehicle) (p : Phase) → StaysIn c v p → IfSome (call_in v p) (λ d. d ≡ c)
stays_call_in c v (InCall stage) h = h
stays_call_in c v Idle h = tt
stays_call_in c v Standby h = tt
stays_call_in c v (Arming before) h = tt
stays_call_in c v (InSeries s) h = tt

pub stays_call : (c : ℕ) (v : Vehicle) → StaysIn c v v.phase → IfSome (vehicle_call v) (λ d. d ≡ c)
stays_call c v h = stays_call_in c v v.phase h

number_as_in : (c : ℕ) (v : Vehicle) (p : Phase) → is_number c (call_in v p) ≡ true → number_in v p ≡ c
number_as_in c v (InCall stage) h = eqb-true v.call c h
number_as_in c v Idle h = absurd (false≢true h)
number_as_in c v Standby h = absurd (false≢true h)
number_as_in c v (Arming before) h = absurd (false≢true h)
number_as_in c v (InSeries s) h = absurd (false≢true h)

-- a vehicle that is in a call has its number
pub number_as : (c : ℕ) (v : Vehicle) → is_number c (vehicle_call v) ≡ true → number_of v ≡ c
number_as c v h = number_as_in c v v.phase h

arrived_in : (c : ℕ) (v : Vehicle) (p : Phase) → number_in v p ≡ c → StaysIn c v p
arrived_in c v (InCall stage) h = h
arrived_in c v _ h = tt

pub arrived : (c : ℕ) (v : Vehicle) → number_of v ≡ c → StaysIn c v v.phase
arrived c v h = arrived_in c v v.phase h

-- an end that is in no call comes into none by its own items, but for one that comes up
pub none_through : (e : End) → (ns : List Note) → through (seat_moved e) None ns ≡ None
none_through e [] = refl
none_through e (n ∷ ns) = none_through e ns

-- The sessions.

left_seat_in : (s : Point) (p : session.Phase) → s.phase ≡ p → point_seat (unless_over s p) ≡ point_owes.seat_in s p
left_seat_in s Over h = refl
left_seat_in s Listening h = ap (point_owes.seat_in s) h
left_seat_in s (Asking r) h = ap (point_owes.seat_in s) h
left_seat_in s (Telling r) h = ap (point_owes.seat_in s) h
left_seat_in s Talking h = ap (point_owes.seat_in s) h
left_seat_in s (Clearing r) h = ap (point_owes.seat_in s) h

pub left_seat : (s : Point) → point_seat (left_by s) ≡ point_owes.seat_of s
left_seat s = left_seat_in s s.phase refl

left_session_in : (c : ℕ) (s : Point) → point.IsKept s → s.call ≡ c → (p : session.Phase) → s.phase ≡ p →
    IfSome (unless_over s p) (IsSessionOf c)
left_session_in c s k e Over h = tt
left_session_in c s k e Listening h = record { call = e; stays = ap (unless_over s) h; kept = k }
left_session_in c s k e (Asking r) h = record { call = e; stays = ap (unless_over s) h; kept = k }
left_session_in c s k e (Telling r) h = record { call = e; stays = ap (unless_over s) h; kept = k }
left_session_in c s k e Talking h = record { call = e; stays = ap (unless_over s) h; kept = k }
left_session_in c s k e (Clearing r) h = record { call = e; stays = ap (unless_over s) h; kept = k }

pub left_session : (c : ℕ) (s : Point) → point.IsKept s → s.call ≡ c → IfSome (left_by s) (IsSessionOf c)
left_session c s k e = left_session_in c s k e s.phase refl

ended_in : (s : Point) (w : Why) (p : session.Phase) → s.phase ≡ p →
    left_by (unwrap_or (named (Ended w) s p) (unnamed (Ended w) s)).new ≡ None
ended_in s w Over h = ap (unless_over s) h
ended_in s w Listening h = refl
ended_in s w (Asking r) h = refl
ended_in s w (Telling r) h = refl
ended_in s w Talking h = refl
ended_in s w (Clearing r) h = refl

-- a session whose call ended is over
pub ended : (s : Point) (w : Why) → left_by (point_row s (Ended w)).new ≡ None
ended s w = ended_in s w s.phase refl

-- Nothing was told of a call whose number wasn't drawn.

pub undrawn : (e : End) (c last : ℕ) → last < c → (o : Option (End × ℕ)) → IsDrawn last o → is_owned e c o ≡ false
undrawn e c last above None h = refl
undrawn e c last above (Some o) h = at e o.0 (ne_eqb c o.1 (λ q. absurd (omega (arith, above, h, q))))
  where
    at : (e f : End) → (c == o.1) ≡ false → is_leg e c f o.1 ≡ false
    at «end».Vehicle «end».Vehicle k = k
    at «end».Vehicle «end».Point k = refl
    at «end».Point «end».Vehicle k = refl
    at «end».Point «end».Point k = k

pub untold : {H : Type 0} (step : H → Entry → H) (h : H) (e : End) (c last : ℕ) → last < c → (t : List Entry) →
    AllByRecursion (λ x. IsDrawn last (owner x.note)) t → through (own step e c) h t ≡ h
untold step h e c last above [] a = refl
untold step h e c last above (x ∷ t) a =
    let same : own step e c h x ≡ h = rw (undrawn e c last above (owner x.note) a.0) refl in
    ap (λ z. through (own step e c) z t) same ∙ untold step h e c last above t a.1

-- the number of a call that an end is in was drawn
pub was_drawn : (clock : Clocks) (seat : Seats) (tick last : ℕ) (t : List Entry) → FitAt clock seat tick last t →
    (e : End) (c : ℕ) (k : Seat) → seat e c ≡ Some k → c ≤ last
was_drawn clock seat tick last t fit e c k h = at (nat_lt last c) refl
  where
    h' : SeatedBy (λ n. n ≡ clock e c) k (leg_at e c t) (sets_of e c t)
    h' = subst (λ (s : Option Seat). SeatBy (λ n. n ≡ clock e c) s (leg_at e c t) (sets_of e c t)) h (fit.seats e c)

    at : (b : Bool) → nat_lt last c ≡ b → c ≤ last
    at true e' =
        let none : leg_at e c t ≡ first_leg = untold leg_step first_leg e c last (ltb-true last c e') t fit.drawn in
        absurd (false≢true (sym (ap (λ z. z.up) none) ∙ h'.up))
    at false e' = ltb-false last c e'
