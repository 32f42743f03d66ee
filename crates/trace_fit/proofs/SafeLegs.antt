-- A leg that is safe, as the rules have it.
use Rattle.std.specs.Prelude.{◌||◌, ◌≡◌, ◌+◌, ℕ, zero, suc, ◌==◌, Bool, true, false, List, [], ◌∷◌, ◌++◌, Option, Some, None, IfSome, if◌then◌else◌}
use Rattle.std.specs.List.{AllByRecursion}
use Rattle.std.specs.Option.{is_some}
use Rattle.std.proofs.lemmas.Bool.{eqb-true, false≢true}
use Rattle.std.proofs.Common.{refl, sym, ap, subst, ◌∙◌, inl, inr, arith, append_assoc}
use Rattle.link_frames.specs.declared.frame.End.{End}
use Rattle.link_frames.specs.declared.frame.End.TheVariants as «end»
use Rattle.link_frames.specs.declared.frame.Frame.TheVariants as frame
use Rattle.link_frames.specs.declared.note.Note.{Note}
use Rattle.link_frames.specs.declared.note.Note.TheVariants as note
use Rattle.link_frames.specs.Legs.{Kept}
use Rattle.link_frames.specs.Owes.{Seat, InTime, set_for}
use Rattle.msd_fit.specs.declared.facts.Facts.{Facts}
use Rattle.ivs_machine.specs.Vehicle.{Vehicle, Phase, Idle, Standby, Arming, InSeries, InCall, call_in, first_vehicle, vehicle_call}
use Rattle.ivs_machine.specs.VehicleOwes.{seat_in}
use Rattle.psap_machine.specs.Point as session
use Rattle.psap_machine.specs.Point.{Point}
use Rattle.psap_machine.specs.PointOwes as point_owes
use Rattle.trace_model.specs.declared.entry.Entry.{Entry}
use Rattle.trace_model.specs.declared.event.Event.{Event}
use Rattle.trace_model.specs.History.{Sent, sends, sent_by, sets_of}
use Rattle.trace_model.specs.Safety.{is_leg, Leg, first_leg, leg_behind, leg_at, AtEach, MustOpen, OpensNext, OwesOpening, IsBounded}
use Rattle.trace_model.proofs.Folds.{is_leg_same}
use Rattle.trace_fit.specs.Seats.{is_number, unless_over}
use Rattle.trace_fit.specs.Links.{CarriesMade}
use Rattle.trace_fit.specs.Order.{IsSent, WasSent}
use Rattle.trace_fit.specs.Seats.{LegFits, vehicle_seat, point_seat}
use Rattle.trace_fit.specs.inner.FitAt.{SeatBy, OpensSoon, SafeFrom}
use Rattle.trace_fit.proofs.RowKept.{within_of}

abbrev pub MustFrom : End → ℕ → Leg → List Entry → Type 0
MustFrom e c leg t = AtEach (λ leg x next. MustOpen e c leg x → OpensNext e c next) e c leg t

abbrev pub BoundedFrom : End → ℕ → Leg → List Entry → Type 0
BoundedFrom e c leg t = AtEach (λ leg x next. IsBounded e c leg x) e c leg t

pub opened_from : (e : End) (c : ℕ) (leg : Leg) → (t : List Entry) → SafeFrom e c leg t → MustFrom e c leg t
opened_from e c leg [] h = tt
opened_from e c leg (x ∷ t) h = (λ d. weaker t (h.0.opened d), opened_from e c (leg_behind e c leg x) t h.1)
  where
    weaker : (t : List Entry) → OpensSoon e c t → OpensNext e c t
    weaker [] k = tt
    weaker (y ∷ t) k = k

pub finished_from : (e : End) (c : ℕ) (leg : Leg) → (t : List Entry) → SafeFrom e c leg t → OwesOpening e c leg t → ⊥
finished_from e c leg [] h owes = owes
finished_from e c leg (x ∷ []) h owes = h.0.opened owes
finished_from e c leg (x ∷ y ∷ t) h owes = finished_from e c (leg_behind e c leg x) (y ∷ t) h.1 owes

pub bounded_from : (e : End) (c : ℕ) (leg : Leg) → (t : List Entry) → SafeFrom e c leg t → BoundedFrom e c leg t
bounded_from e c leg [] h = tt
bounded_from e c leg (x ∷ t) h = (h.0.bounded, bounded_from e c (leg_behind e c leg x) t h.1)

pub safe_from : (e : End) (c : ℕ) (leg : Leg) → (t : List Entry) → MustFrom e c leg t → BoundedFrom e c leg t →
    (OwesOpening e c leg t → ⊥) → SafeFrom e c leg t
safe_from e c leg [] must bounded finished = tt
safe_from e c leg (x ∷ []) must bounded finished =
    (record { opened = λ d. finished d; bounded = bounded.0 }, tt)
safe_from e c leg (x ∷ y ∷ t) must bounded finished = (
  record { opened = λ d. must.0 d; bounded = bounded.0 },
  safe_from e c (leg_behind e c leg x) (y ∷ t) must.1 bounded.1 finished,
)
