-- A call that comes up at both ends keeps a world that fits.
use Rattle.std.specs.Prelude.{◌≡◌, ◌<◌, ◌+◌, ℕ, true, List, [], ◌∷◌, ◌++◌, Option, Some, None, IfSome}
use Rattle.std.specs.List.{AllByRecursion}
use Rattle.std.specs.Option.{is_some}
use Rattle.std.proofs.Common.{refl, sym, ap, subst, ◌∙◌, arith, append_assoc}
use Rattle.link_frames.specs.declared.frame.End.{End}
use Rattle.link_frames.specs.declared.frame.End.TheVariants as «end»
use Rattle.link_frames.specs.Legs.{owner}
use Rattle.link_frames.specs.Row.{Row}
use Rattle.ivs_machine.specs.Vehicle.{Vehicle, vehicle_call, is_dialling, is_reachable}
use Rattle.ivs_machine.specs.VehicleOwes.{ArrivalOwes, seat_of}
use Rattle.ivs_machine.specs.VehicleRows.{Answered, Incoming, vehicle_row}
use Rattle.psap_machine.specs.Point.{Point}
use Rattle.psap_machine.specs.PointOwes as point_owes
use Rattle.trace_model.specs.declared.entry.Entry.{Entry}
use Rattle.trace_model.specs.History.{told, sent_by, sets_step, sets_of}
use Rattle.trace_model.specs.Safety.{first_leg, leg_step, leg_at}
use Rattle.trace_model.proofs.Folds.{AllOf, sends_none}
use Rattle.channel_sim.specs.World.{Call, World, and_then, call_of, seated, vehicle_did, session_did}
use Rattle.trace_fit.specs.Seats.{left_by}
use Rattle.channel_sim.specs.Lines.{with_call}
use Rattle.channel_sim.specs.Fit.{seats_of, FramesFit, IsCall}
use Rattle.trace_fit.specs.Order.{IsDrawn}
use Rattle.trace_fit.specs.Seats.{point_seat}
use Rattle.channel_sim.specs.Tidy.{AreAbove, numbers_of}
use Rattle.channel_sim.specs.inner.FitAt.{FitsAt, Goes, all_at}
use Rattle.trace_fit.specs.inner.FitAt.{FitAt}
use Rattle.trace_fit.proofs.Lists.{all_append, all_into}
use Rattle.trace_fit.proofs.RowKept.{over}
use Rattle.trace_fit.proofs.RowOwes.{arrival_kept}
use Rattle.channel_sim.proofs.CallsKept.{more_session, more_listed, more_order, seated_here}
use Rattle.trace_fit.proofs.Seats.{seat_as, stays_call, left_seat, left_session, undrawn, untold, arrived}
use Rattle.channel_sim.proofs.Acts.{did_goes, seated_goes, vehicle_others, session_others}
use Rattle.trace_fit.proofs.Clocks.{reseat}
use Rattle.trace_fit.proofs.ComingUp.{arrival_own, drawn_more, out_stays_in, dialling_out, dialling_comes, answered_in, reachable_out, reachable_comes, called_in, owes_arrival}

-- an end sent nothing in a call whose number wasn't drawn
unsent : (e : End) (c last : ℕ) → last < c → (t : List Entry) → AllByRecursion (λ x. IsDrawn last (owner x.note)) t →
    [] ≡ sent_by e c t
unsent e c last above [] a = refl
unsent e c last above (x ∷ t) a =
    unsent e c last above t a.1
    ∙ sym (sends_none e c x.tick x.note (sent_by e c t) (undrawn e c last above (owner x.note) a.0))

-- the next call, before its legs are up
abbrev next_call : World → Call
next_call w = record { number = w.drawn + 1; session = None; up = []; down = [] }

-- the next call's number is drawn, and none of its legs is up yet
record DrawnFits (n : ℕ) (w : World) (t : List Entry) : Type 0 where
  fit : FitAt (all_at n) (seats_of w.vehicle w.calls) n w.drawn t
  calls : AllByRecursion (IsCall w.drawn) w.calls
  frames : AllByRecursion (FramesFit t) w.calls
  in_order : AreAbove 0 (numbers_of w.calls)

drawn_fits : (n : ℕ) (w : World) (t : List Entry) → FitsAt (all_at n) n w.drawn w t → DrawnFits n (with_call w) t
drawn_fits n w t f =
    record {
      fit =
          reseat (all_at n) (seats_of w.vehicle w.calls) (seats_of w.vehicle (with_call w).calls) n (w.drawn + 1) t
          (record {
            seats = f.fit.seats;
            in_time = f.fit.in_time;
            near = f.fit.near;
            links = f.fit.links;
            drawn = all_into _ _ (λ x h. drawn_more w.drawn (owner x.note) h) t f.fit.drawn;
            rises = f.fit.rises;
            agreed = f.fit.agreed;
            ordered = f.fit.ordered;
            safe = f.fit.safe;
          })
          same;
      calls =
          all_append (IsCall (w.drawn + 1)) w.calls (next_call w ∷ [])
          (all_into (IsCall w.drawn) (IsCall (w.drawn + 1)) (λ k h. record { number = omega (arith, h.number); session = h.session }) w.calls f.calls)
          (record { number = omega arith; session = tt }, tt);
      frames =
          all_append (FramesFit t) w.calls (next_call w ∷ []) f.frames (
            record {
              up = unsent «end».Vehicle (w.drawn + 1) w.drawn above t f.fit.drawn;
              down = unsent «end».Point (w.drawn + 1) w.drawn above t f.fit.drawn;
            },
            tt,
          );
      in_order = more_order 0 w.drawn (next_call w) refl (omega arith) w.calls f.calls f.in_order;
    }
  where
    above : w.drawn < w.drawn + 1
    above = omega arith

    same : (e : End) (c : ℕ) → seats_of w.vehicle (with_call w).calls e c ≡ seats_of w.vehicle w.calls e c
    same «end».Vehicle c = refl
    same «end».Point c =
        ap point_seat (more_session c (next_call w) refl w.calls)

-- the call comes up at the vehicle
vehicle_up : (n : ℕ) (w : World) (t : List Entry) (row : Row Vehicle)
    → FitsAt (all_at n) n w.drawn w t
    → seat_of w.vehicle ≡ None
    → ArrivalOwes (w.drawn + 1) row
    → Goes (all_at n) n (w.drawn + 1) (vehicle_did (with_call w) row) t
vehicle_up n w t row f out owes =
    let c : ℕ = w.drawn + 1 in
    let d : DrawnFits n (with_call w) t = drawn_fits n w t f in
    let above : w.drawn < w.drawn + 1 = omega arith in
    let calls : List Call = (with_call w).calls in
    did_goes (all_at n) n c (with_call w) t row.items row.new calls f.tick refl
    (arrival_kept (all_at n) (seats_of w.vehicle calls) (seats_of row.new calls) n c t «end».Vehicle c row.items (seat_of row.new) d.fit (omega arith)
    (untold leg_step first_leg «end».Vehicle c w.drawn above t f.fit.drawn)
    (untold (sets_step «end».Vehicle) [] «end».Vehicle c w.drawn above t f.fit.drawn)
    refl owes.owes
    (record {
      here = seat_as c row.new (arrived c row.new owes.call);
      others =
          vehicle_others w.vehicle row.new calls c (out_stays_in c w.vehicle w.vehicle.phase out) (arrived c row.new owes.call);
      clocks = λ g e a. refl;
    }))
    owes.kept d.calls d.frames d.in_order
    (listed (vehicle_call row.new) (stays_call c row.new (arrived c row.new owes.call)))
  where
    listed : (o : Option ℕ) → IfSome o (λ d. d ≡ w.drawn + 1) →
        IfSome o (λ c. is_some (call_of c (with_call w).calls) ≡ true)
    listed None h = tt
    listed (Some d) h =
        subst (λ (z : ℕ). is_some (call_of z (with_call w).calls) ≡ true) (sym h)
        (more_listed (next_call w) w.calls)

-- and then at the point
session_up : (n c : ℕ) (x : World) (t : List Entry) (row : Row Point)
    → FitsAt (all_at n) n c x t
    → is_some (call_of c x.calls) ≡ true
    → leg_at «end».Point c t ≡ first_leg
    → sets_of «end».Point c t ≡ []
    → point_owes.ArrivalOwes c row
    → Goes (all_at n) n c (session_did c x row) t
session_up n c x t row f found no_leg no_sets owes =
    seated_goes (all_at n) (all_at n) n c x t c row f
    (left_session c row.new owes.kept owes.call)
    (arrival_kept (all_at n) (seats_of x.vehicle x.calls) (seats_of x.vehicle (seated c (left_by row.new) x.calls)) n c t «end».Point c row.items (point_owes.seat_of row.new) f.fit (omega arith)
    no_leg no_sets refl owes.owes
    (record {
      here = ap point_seat (seated_here c (left_by row.new) x.calls found) ∙ left_seat row.new;
      others = session_others x.vehicle x.calls c (left_by row.new);
      clocks = λ g e a. refl;
    }))

pub comes_up_goes : (n : ℕ) (w : World) (t : List Entry) (row : Row Vehicle) (session : Row Point)
    → FitsAt (all_at n) n w.drawn w t
    → seat_of w.vehicle ≡ None
    → ArrivalOwes (w.drawn + 1) row
    → vehicle_call row.new ≡ Some (w.drawn + 1)
    → point_owes.ArrivalOwes (w.drawn + 1) session
    → Goes (all_at n) n (w.drawn + 1) (and_then (vehicle_did (with_call w) row) (λ u. session_did (w.drawn + 1) u session)) t
comes_up_goes n w t row session f out owes in_call arrives =
    let c : ℕ = w.drawn + 1 in
    let above : w.drawn < w.drawn + 1 = omega arith in
    let x : World = (vehicle_did (with_call w) row).world in
    let g : FitsAt (all_at n) n (w.drawn + 1) x (t ++ told w.tick row.items) = vehicle_up n w t row f out owes in
    let mine : AllOf «end».Vehicle c row.items = arrival_own «end».Vehicle c row.items (seat_of row.new) owes.owes in
    subst (λ (u : List Entry). FitsAt (all_at n) n (w.drawn + 1) (session_did (w.drawn + 1) x session).world u)
    (append_assoc t (told w.tick row.items) (session_did (w.drawn + 1) x session).entries)
    (session_up n (w.drawn + 1) x (t ++ told w.tick row.items) session g
    (subst (λ (z : Option ℕ). IfSome z (λ d. is_some (call_of d x.calls) ≡ true)) in_call g.listed)
    (over leg_step first_leg «end».Vehicle «end».Point c c w.tick t row.items refl mine ∙ untold leg_step first_leg «end».Point c w.drawn above t f.fit.drawn)
    (over (sets_step «end».Point) [] «end».Vehicle «end».Point c c w.tick t row.items refl mine ∙ untold (sets_step «end».Point) [] «end».Point c w.drawn above t f.fit.drawn)
    arrives)

-- the call that is dialled is answered
pub answer_goes : (n : ℕ) (w : World) (t : List Entry) (session : Row Point)
    → FitsAt (all_at n) n w.drawn w t
    → is_dialling w.vehicle ≡ true
    → point_owes.ArrivalOwes (w.drawn + 1) session
    → Goes (all_at n) n (w.drawn + 1) (and_then (vehicle_did (with_call w) (vehicle_row w.vehicle (Answered (w.drawn + 1)))) (λ u. session_did (w.drawn + 1) u session)) t
answer_goes n w t session f dials arrives =
    comes_up_goes n w t (vehicle_row w.vehicle (Answered (w.drawn + 1))) session f
    (dialling_out w.vehicle w.vehicle.phase dials)
    (owes_arrival (w.drawn + 1) w.vehicle (Answered (w.drawn + 1)) f.vehicle (dialling_comes (w.drawn + 1) w.vehicle.network w.vehicle.phase dials))
    (answered_in (w.drawn + 1) w.vehicle w.vehicle.phase dials) arrives

-- the point calls the vehicle
pub callback_goes : (n : ℕ) (w : World) (t : List Entry) (session : Row Point)
    → FitsAt (all_at n) n w.drawn w t
    → is_reachable w.vehicle ≡ true
    → point_owes.ArrivalOwes (w.drawn + 1) session
    → Goes (all_at n) n (w.drawn + 1) (and_then (vehicle_did (with_call w) (vehicle_row w.vehicle (Incoming (w.drawn + 1)))) (λ u. session_did (w.drawn + 1) u session)) t
callback_goes n w t session f reach arrives =
    comes_up_goes n w t (vehicle_row w.vehicle (Incoming (w.drawn + 1))) session f
    (reachable_out w.vehicle w.vehicle.phase reach)
    (owes_arrival (w.drawn + 1) w.vehicle (Incoming (w.drawn + 1)) f.vehicle (reachable_comes (w.drawn + 1) w.vehicle.network w.vehicle.phase reach))
    (called_in (w.drawn + 1) w.vehicle w.vehicle.phase reach) arrives
