-- The rows at which a call comes up, and what is told of it.
use Rattle.std.specs.Prelude.{◌≡◌, ◌<◌, ◌+◌, ℕ, Bool, true, false, List, [], ◌∷◌, ◌++◌, Option, Some, None, IfSome, unwrap_or, ◌&&◌}
use Rattle.std.specs.List.{AllByRecursion}
use Rattle.std.specs.Option.{is_some}
use Rattle.std.proofs.Common.{refl, sym, ap, subst, ◌∙◌, arith, append_assoc}
use Rattle.std.proofs.lemmas.Bool.{false≢true}
use Rattle.link_frames.specs.declared.frame.End.{End}
use Rattle.link_frames.specs.declared.frame.End.TheVariants as «end»
use Rattle.link_frames.specs.declared.frame.Frame.{Frame}
use Rattle.link_frames.specs.declared.note.Note.{Note}
use Rattle.link_frames.specs.Legs.{owner}
use Rattle.link_frames.specs.Owes.{Seat, Along, MayGive, OwesArrival, fresh_seat, seat_moved}
use Rattle.link_frames.specs.Row.{Row}
use Rattle.ivs_machine.specs.Vehicle.{Vehicle, Phase, Idle, Standby, Arming, InSeries, InCall, vehicle_call, is_dialling, is_dialling_in, is_reachable, is_standby}
use Rattle.ivs_machine.specs.VehicleKept as vehicle_kept
use Rattle.ivs_machine.specs.VehicleOwes.{ArrivalOwes, EventOwes, StaysIn, seat_in, seat_of, comes_up_in, comes_up as comes_up_of}
use Rattle.ivs_machine.specs.VehicleRows.{Heard, Answered, Incoming, named, unnamed, vehicle_row}
use Rattle.ivs_machine.proofs.VehicleOwed as vehicle_owed
use Rattle.psap_machine.specs.Point.{Point}
use Rattle.psap_machine.specs.PointOwes as point_owes
use Rattle.trace_model.specs.declared.entry.Entry.{Entry}
use Rattle.trace_model.specs.History.{told, sent_by, sets_step, sets_of}
use Rattle.trace_model.specs.Safety.{first_leg, leg_step, leg_at}
use Rattle.trace_model.proofs.Folds.{AllOf, sends_none}
use Rattle.trace_fit.specs.Seats.{left_by}
use Rattle.trace_fit.specs.Order.{IsDrawn}
use Rattle.trace_fit.specs.Seats.{point_seat}
use Rattle.trace_fit.specs.inner.FitAt.{FitAt}
use Rattle.trace_fit.proofs.Lists.{all_append, all_into}
use Rattle.trace_fit.proofs.RowKept.{over}
use Rattle.trace_fit.proofs.RowOwes.{arrival_kept}
use Rattle.trace_fit.proofs.Seats.{seat_as, stays_call, left_seat, left_session, undrawn, untold, arrived}
use Rattle.trace_fit.proofs.Clocks.{reseat}

pub along_own : (e : End) (c : ℕ) (came : Option Frame) (s : Option Seat) (ns : List Note) →
    Along (MayGive e c came) e s ns → AllOf e c ns
along_own e c came s [] a = tt
along_own e c came s (n ∷ ns) a = (a.0.0, along_own e c came (seat_moved e s n) ns a.1)

pub arrival_own : (e : End) (c : ℕ) (ns : List Note) (new : Option Seat) → OwesArrival e c ns new → AllOf e c ns
arrival_own e c ns new h =
    subst (λ (z : List Note). AllOf e c z) (sym h.up)
    ((refl, refl), along_own e c None (Some fresh_seat) h.rest h.owes.given)

pub drawn_more : (last : ℕ) → (o : Option (End × ℕ)) → IsDrawn last o → IsDrawn (last + 1) o
drawn_more last None h = tt
drawn_more last (Some o) h = omega (arith, h)

-- a vehicle in no call is in every call's number, in the sense of its own items
pub out_stays_in : (c : ℕ) (v : Vehicle) (p : Phase) → seat_in v p ≡ None → StaysIn c v p
out_stays_in c v (InCall stage) h = cc
out_stays_in c v Idle h = tt
out_stays_in c v Standby h = tt
out_stays_in c v (Arming before) h = tt
out_stays_in c v (InSeries s) h = tt

pub dialling_out : (v : Vehicle) (p : Phase) → is_dialling_in p ≡ true → seat_in v p ≡ None
dialling_out v (InSeries s) h = refl
dialling_out v Idle h = absurd (false≢true h)
dialling_out v Standby h = absurd (false≢true h)
dialling_out v (Arming before) h = absurd (false≢true h)
dialling_out v (InCall stage) h = absurd (false≢true h)

pub dialling_comes : (c : ℕ) (network : Bool) (p : Phase) → is_dialling_in p ≡ true → comes_up_in (Answered c) network p ≡ Some c
dialling_comes c network (InSeries s) h = rw h refl
dialling_comes c network Idle h = absurd (false≢true h)
dialling_comes c network Standby h = absurd (false≢true h)
dialling_comes c network (Arming before) h = absurd (false≢true h)
dialling_comes c network (InCall stage) h = absurd (false≢true h)

pub answered_in : (c : ℕ) (v : Vehicle) (p : Phase) → is_dialling_in p ≡ true →
    vehicle_call (unwrap_or (named (Answered c) v p) (unnamed (Answered c) v)).new ≡ Some c
answered_in c v (InSeries s) h = rw h refl
answered_in c v Idle h = absurd (false≢true h)
answered_in c v Standby h = absurd (false≢true h)
answered_in c v (Arming before) h = absurd (false≢true h)
answered_in c v (InCall stage) h = absurd (false≢true h)

pub reachable_out : (v : Vehicle) (p : Phase) → (is_standby p && v.network) ≡ true → seat_in v p ≡ None
reachable_out v Standby h = refl
reachable_out v Idle h = absurd (false≢true h)
reachable_out v (InSeries s) h = absurd (false≢true h)
reachable_out v (Arming before) h = absurd (false≢true h)
reachable_out v (InCall stage) h = absurd (false≢true h)

pub reachable_comes : (c : ℕ) (network : Bool) (p : Phase) → (is_standby p && network) ≡ true →
    comes_up_in (Incoming c) network p ≡ Some c
reachable_comes c true Standby h = refl
reachable_comes c false Standby h = absurd (false≢true h)
reachable_comes c network Idle h = absurd (false≢true h)
reachable_comes c network (InSeries s) h = absurd (false≢true h)
reachable_comes c network (Arming before) h = absurd (false≢true h)
reachable_comes c network (InCall stage) h = absurd (false≢true h)

pub called_in : (c : ℕ) (v : Vehicle) (p : Phase) → (is_standby p && v.network) ≡ true →
    vehicle_call (unwrap_or (named (Incoming c) v p) (unnamed (Incoming c) v)).new ≡ Some c
called_in c v Standby h = rw h refl
called_in c v Idle h = absurd (false≢true h)
called_in c v (InSeries s) h = absurd (false≢true h)
called_in c v (Arming before) h = absurd (false≢true h)
called_in c v (InCall stage) h = absurd (false≢true h)

-- what the row of such an event owes
pub owes_arrival : (c : ℕ) (v : Vehicle) (e : Heard) → vehicle_kept.IsKept v → comes_up_of e v ≡ Some c →
    ArrivalOwes c (vehicle_row v e)
owes_arrival c v e kept comes =
    subst (λ (z : Option ℕ). EventOwes z v e (vehicle_row v e)) comes (vehicle_owed.owes_event e v kept)
