-- The same seats at other clocks, and the same fit by seats that are found another way.
use Rattle.std.specs.Prelude.{◌≡◌, ◌≤◌, ◌+◌, ℕ, ◌==◌, Bool, true, false, List, [], ◌∷◌, ◌++◌, Option, Some, None, IfSome, map, if◌then◌else◌}
use Rattle.std.specs.List.{AllByRecursion}
use Rattle.std.specs.Option.{is_some}
use Rattle.std.proofs.Common.{refl, sym, ap, subst, ◌∙◌, arith, append_assoc}
use Rattle.std.proofs.lemmas.Bool.{eqb-true}
use Rattle.std.proofs.lemmas.List.{append-nil}
use Rattle.link_frames.specs.declared.frame.End.{End}
use Rattle.link_frames.specs.declared.frame.End.TheVariants as «end»
use Rattle.link_frames.specs.declared.frame.Frame.{Frame}
use Rattle.link_frames.specs.declared.note.Note.{Note}
use Rattle.link_frames.specs.declared.note.Note.TheVariants as note
use Rattle.link_frames.specs.declared.note.Why.{Why}
use Rattle.link_frames.specs.declared.note.Why.TheVariants as why
use Rattle.link_frames.specs.Owes.{Seat, Owes}
use Rattle.link_frames.specs.Row.{Row}
use Rattle.ivs_machine.specs.Vehicle.{Vehicle, vehicle_call}
use Rattle.ivs_machine.specs.VehicleKept as vehicle_kept
use Rattle.ivs_machine.specs.VehicleOwes.{VehicleOwes, StaysIn, came, seat_of, number_of}
use Rattle.ivs_machine.specs.VehicleRows as vehicle
use Rattle.ivs_machine.proofs.VehicleOwed as vehicle_owed
use Rattle.psap_machine.specs.Point.{Point}
use Rattle.psap_machine.specs.PointOwes as point_owes
use Rattle.psap_machine.specs.PointRows as point
use Rattle.psap_machine.proofs.PointOwed as point_owed
use Rattle.trace_model.specs.declared.entry.Entry.{Entry}
use Rattle.trace_model.specs.History.{told, sets_of}
use Rattle.trace_model.specs.Safety.{is_leg, leg_at}
use Rattle.trace_fit.specs.Seats.{left_by}
use Rattle.trace_fit.specs.Seats.{vehicle_seat, point_seat, IsSessionOf}
use Rattle.trace_fit.specs.inner.FitAt.{SeatBy, Came, Seats, Clocks, FitAt}
use Rattle.trace_fit.proofs.Lists.{all_append}
use Rattle.trace_fit.proofs.RowOwes.{event_kept, end_kept}
use Rattle.trace_fit.proofs.Seats.{stays_own, seat_as, seat_apart, number_none, call_none, call_some, stays_call, number_as, none_through, left_seat, left_session, ended, was_drawn}

-- clocks of legs that are down are free
pub reclock : (clock clock' : Clocks) (seat : Seats) (tick last : ℕ) (t : List Entry) → FitAt clock seat tick last t →
    ((e : End) (c : ℕ) → IfSome (seat e c) (λ s. clock' e c ≡ clock e c)) →
    ((e : End) (c : ℕ) → tick ≤ clock' e c + 1) → FitAt clock' seat tick last t
reclock clock clock' seat tick last t fit same near =
    record {
      seats = λ e c. again e c (seat e c) (same e c) (fit.seats e c);
      in_time = fit.in_time;
      near = near;
      links = fit.links;
      drawn = fit.drawn;
      rises = fit.rises;
      agreed = fit.agreed;
      ordered = fit.ordered;
      safe = fit.safe;
    }
  where
    again : (e : End) (c : ℕ) → (s : Option Seat) → IfSome s (λ k. clock' e c ≡ clock e c) →
        SeatBy (λ n. n ≡ clock e c) s (leg_at e c t) (sets_of e c t) →
        SeatBy (λ n. n ≡ clock' e c) s (leg_at e c t) (sets_of e c t)
    again e c None f h = h
    again e c (Some k) f h = record { up = h.up; talks = h.talks; time = h.time ∙ sym f; sets = h.sets }

-- the same seats, found another way
pub reseat : (clock : Clocks) (seat seat' : Seats) (tick last : ℕ) (t : List Entry) → FitAt clock seat tick last t →
    ((e : End) (c : ℕ) → seat' e c ≡ seat e c) → FitAt clock seat' tick last t
reseat clock seat seat' tick last t fit same =
    record {
      seats = λ e c. rw (same e c) (fit.seats e c);
      in_time = λ e c. rw (same e c) (fit.in_time e c);
      near = fit.near;
      links = fit.links;
      drawn = fit.drawn;
      rises = fit.rises;
      agreed = fit.agreed;
      ordered = fit.ordered;
      safe = fit.safe;
    }
